-- What a buffer has become.
use Rattle.std.specs.Prelude.{List, ◌≡◌, ℕ, ◌+◌, min, max, length}
use Rattle.std.proofs.lemmas.List.Edits.{sets}
use Rattle.texts.specs.declared.Page.{Page}

-- the buffer p has become q: text stands from place i on, as much as fits; the next place j is past it, but not past the buffer's end, and i itself where that is past it already
pub record Puts (p q : List ℕ) (i j : ℕ) (text : List ℕ) : Type 0 where
  pub next : j ≡ max i (min (i + length text) (length p))
  pub bytes : q ≡ sets p i text

-- the page p has become q, over the same lent buffer, with text put into it
pub record Adds (p q : Page) (text : List ℕ) : Type 0 where
  pub same : q.buf.ghost_name ≡ p.buf.ghost_name
  pub puts : Puts p.buf.now q.buf.now p.at q.at text
