-- What writing a set's sheet answers, and what the lent buffer then holds.
use Rattle.std.specs.Prelude.{cond, List, [], ◌∷◌, ◌++◌, leb, length, drop, ℕ, Result, Ok, Err}
use Rattle.tasks.specs.declared.refusals.Refusal.{Refusal}
use Rattle.tasks.specs.declared.sets.Set.{Set}
use Rattle.tasks.specs.Refusals.{Said, answered, refusing, short}
use Rattle.tasks.specs.Sets.{test_set}
use Rattle.sheet_form.specs.Sets.{text_of}

-- an answer, and the buffer's bytes after it
pub record Written : Type 0 where
  pub answer : Result ℕ Refusal
  pub bytes : List ℕ

abbrev pub leaving : Result ℕ Refusal → List ℕ → Written
leaving w b = record { answer = w; bytes = b }

-- a text and the buffer's own bytes beyond it, where the buffer has room; else 7 with the bytes needed, and no byte changes
abbrev pub placed : List ℕ → List ℕ → Written
placed t b =
    cond (leb (length t) (length b)) (leaving (Ok (length t)) (t ++ drop (length t) b))
    (leaving (Err (short (length t))) b)

-- the one sheet that a set has, where the set passes its test; else the set's own refusal, and no byte changes
abbrev pub tested_write : Set → List ℕ → Result ℕ Refusal → Written
tested_write s b (Ok n) = placed (text_of s) b
tested_write s b (Err f) = leaving (Err f) b

unfoldable pub write_of : Set → List ℕ → Written
write_of s b = tested_write s b (test_set s)

-- the answer in the paper's terms
abbrev pub said_wrote : Result ℕ Refusal → Said
said_wrote (Ok n) = answered (n ∷ [])
said_wrote (Err f) = refusing 1 f
