-- What a command on a buffer leaves of the four.
use Rattle.std.specs.Prelude.{ℕ, ◌≡◌, ◌+◌, ◌-◌, ◌%◌, ◌^◌, cond, ◌||◌, List, drop, ◌==◌, slice_set}
use Rattle.commands.specs.declared.buffers.Lengths.{Lengths}
use Rattle.commands.specs.declared.forms.Values.{Values}
use Rattle.commands.specs.Buffers as buffer
use Rattle.commands.specs.Kinds as kind
use Rattle.desk_buffers.specs.declared.Buffers as lent
use Rattle.desk_buffers.specs.Bytes.{filled, put_at, said}

-- one buffer of n bytes: its length, and its bytes
unfoldable pub length_after : ℕ → Values → ℕ → ℕ
length_after k vs n = cond (k == kind.fill || k == kind.cut) vs.second n

-- `fill` makes every byte the same; `cut` makes those zero that the present length does not have; `poke` sets one
unfoldable pub bytes_after : ℕ → Values → ℕ → List ℕ → List ℕ
bytes_after k vs n l =
    cond (k == kind.fill) (filled vs.second 0 (vs.third % 256) l)
    (cond (k == kind.cut) (filled (vs.second - n) n 0 l)
    (cond (k == kind.poke) (slice_set l vs.second (vs.third % 256)) l))

-- the four buffers, with their present lengths
pub record Buffers : Type 0 where
  pub lengths : Lengths
  pub table : List ℕ
  pub work : List ℕ
  pub file : List ℕ
  pub text : List ℕ

abbrev pub buffers_of : Lengths → List ℕ → List ℕ → List ℕ → List ℕ → Buffers
buffers_of l t w f x = record { lengths = l; table = t; work = w; file = f; text = x }

-- what lent buffers hold
abbrev pub held_in : lent.Buffers → Buffers
held_in b = buffers_of b.lengths b.table.now b.work.now b.file.now b.text.now

-- lent buffers q are over the same memory as p
pub record Same (p q : lent.Buffers) : Type 0 where
  pub table : q.table.ghost_name ≡ p.table.ghost_name
  pub work : q.work.ghost_name ≡ p.work.ghost_name
  pub file : q.file.ghost_name ≡ p.file.ghost_name
  pub text : q.text.ghost_name ≡ p.text.ghost_name

-- the lent buffers p have become q, which hold b
pub record Become (p q : lent.Buffers) (b : Buffers) : Type 0 where
  pub same : Same p q
  pub holds : held_in q ≡ b

module _ (k : ℕ) (vs : Values) (line : List ℕ) (b : Buffers) where
  abbrev l : Lengths
  l = b.lengths

  abbrev on_table : Buffers
  on_table =
      buffers_of (record { table = length_after k vs l.table; work = l.work; file = l.file; text = l.text })
      (bytes_after k vs l.table b.table) b.work b.file b.text

  abbrev on_work : Buffers
  on_work =
      buffers_of (record { table = l.table; work = length_after k vs l.work; file = l.file; text = l.text })
      b.table (bytes_after k vs l.work b.work) b.file b.text

  abbrev on_file : Buffers
  on_file =
      buffers_of (record { table = l.table; work = l.work; file = length_after k vs l.file; text = l.text })
      b.table b.work (bytes_after k vs l.file b.file) b.text

  abbrev on_text : Buffers
  on_text =
      buffers_of (record { table = l.table; work = l.work; file = l.file; text = length_after k vs l.text })
      b.table b.work b.file (bytes_after k vs l.text b.text)

  -- `text` puts the bytes of the line behind those of the text
  abbrev text_added : Buffers
  text_added =
      buffers_of (record { table = l.table; work = l.work; file = l.file; text = (l.text + vs.first) % 2 ^ 32 })
      b.table b.work b.file (put_at l.text (said (drop 5 line) vs.first 0) b.text)

  -- the buffer that the first value names
  unfoldable pub buffers_after : Buffers
  buffers_after =
      cond (k == kind.text) text_added
      (cond (vs.first == buffer.table) on_table
      (cond (vs.first == buffer.work) on_work
      (cond (vs.first == buffer.file) on_file on_text)))
