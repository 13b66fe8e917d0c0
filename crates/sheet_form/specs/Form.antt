-- The form of a sheet: what is written of a name and 1 to 7 tasks, whose lists hold any numbers 1 to 16, in any order; and the place of a fault of form.
use Rattle.std.specs.Prelude.{◌≡◌, Bool, true, false, cond, List, [], ◌∷◌, ◌++◌, ℕ, suc, ◌+◌, ◌/◌, ◌%◌, ◌≤◌, ◌<◌, T, ltb, length, take}
use Rattle.tasks.specs.Sets.{name_byte}
use Rattle.texts.specs.Texts.{bytes}

-- the numbers of a list: never none, so the last stands apart
pub record Values : Type 0 where
  pub firsts : List ℕ
  pub final : ℕ

-- a task's line
pub record Line : Type 0 where
  pub hard : Bool
  pub deadline : ℕ
  pub runs : Values
  pub gaps : Values

pub record Sheet : Type 0 where
  pub name : List ℕ
  pub lines : List Line

module _ {A : Type 0} where
  -- the texts of a list's elements, one after the other
  abbrev pub each : (A → List ℕ) → List A → List ℕ
  each f [] = []
  each f (x ∷ xs) = f x ++ each f xs

  -- what holds of each element of a list
  abbrev pub Each : (A → Type 0) → List A → Type 0
  Each P [] = Unit {0}
  Each P (x ∷ xs) = P x × Each P xs

-- THE TEXT

abbrev pub space : List ℕ
space = bytes " "

abbrev pub comma : List ℕ
comma = bytes ","

abbrev pub lf : List ℕ
lf = bytes "\n"

-- a number below 100, without leading zeros
unfoldable pub decimal : ℕ → List ℕ
decimal v = cond (ltb v 10) ((48 + v) ∷ []) ((48 + v / 10) ∷ (48 + v % 10) ∷ [])

abbrev pub with_comma : ℕ → List ℕ
with_comma x = decimal x ++ comma

-- a list: comma between
unfoldable pub values_text : Values → List ℕ
values_text l = each with_comma l.firsts ++ decimal l.final

abbrev pub kind_text : Bool → List ℕ
kind_text true = bytes "hard "
kind_text false = bytes "soft "

-- one line a task: kind, D, C, A
unfoldable pub line_text : Line → List ℕ
line_text l = kind_text l.hard ++ decimal l.deadline ++ space ++ values_text l.runs ++ space ++ values_text l.gaps ++ lf

abbrev pub set_text : List ℕ
set_text = bytes "set "

abbrev pub sheet_text : Sheet → List ℕ
sheet_text s = set_text ++ s.name ++ lf ++ each line_text s.lines

-- at most 1,024 bytes
abbrev pub longest : ℕ
longest = 1024

-- WHAT COUNTS: numbers 1 to 16, names, and 1 to 7 tasks

pub record Small (v : ℕ) : Type 0 where
  pub low : 1 ≤ v
  pub high : v ≤ 16

pub record ValuesOk (l : Values) : Type 0 where
  pub firsts : Each Small l.firsts
  pub final : Small l.final

pub record LineOk (l : Line) : Type 0 where
  pub deadline : Small l.deadline
  pub runs : ValuesOk l.runs
  pub gaps : ValuesOk l.gaps

pub record NameOk (n : List ℕ) : Type 0 where
  pub bytes : Each (λ b. T (name_byte b)) n
  pub low : 1 ≤ length n
  pub high : length n ≤ 16

pub record Formed (s : Sheet) : Type 0 where
  pub name : NameOk s.name
  pub lines : Each LineOk s.lines
  pub low : 1 ≤ length s.lines
  pub high : length s.lines ≤ 7

-- THE PLACE OF A FAULT

-- t is some sheet's text
pub record Member (t : List ℕ) : Type 0 where
  pub sheet : Sheet
  pub formed : Formed sheet
  pub text : sheet_text sheet ≡ t

-- t is a beginning that some sheet has
pub record Begins (t : List ℕ) : Type 0 where
  pub rest : List ℕ
  pub member : Member (t ++ rest)

-- p is the length of the longest beginning of t that some sheet has, and t is no sheet's text
pub record FaultAt (t : List ℕ) (p : ℕ) : Type 0 where
  pub within : p ≤ length t
  pub begins : Begins (take p t)
  pub longest : p < length t → Begins (take (suc p) t) → ⊥
  pub whole : p ≡ length t → Member t → ⊥

-- what a text's form is: a sheet's, or it stops at a place
pub data Form (t : List ℕ) : Type 0 where
  fits : Member t → Form t
  stops : (p : ℕ) → FaultAt t p → Form t
