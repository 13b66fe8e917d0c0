-- What reading answers, refusal by refusal. Assumes nothing.
use mathlib.Core.Path.{◌≡◌, refl, ap, subst⁻¹, ◌∙◌}
use mathlib.Core.Bool.{false, ◌&&◌}
use mathlib.Core.List.Memᴰ
use mathlib.Core.List.{List, [], ◌∷◌, ◌++◌}
use Prim.Native.Nat.{ℕ, suc, ◌+◌, ◌≤◌, ◌<◌}
use native.Mathlib.Omega.{arith}
use lib.Dec.{ltb, nltb→le}
use lib.ListN.{length, replicate}
use borrow.Author.Tests.{lt-ltb, le-ltb}
use Rattle.std.specs.Prelude.{Some, None, Result, Ok, Err}
use Rattle.tasks.specs.declared.refusals.Reason.{Reason}
use Rattle.tasks.specs.declared.refusals.Reason.TheVariants.{SheetTooLong, SheetForm, BadRecord, TooManyStates}
use Rattle.tasks.specs.declared.refusals.Refusal.{Refusal}
use Rattle.tasks.specs.declared.sets.Set.{Set}
use Rattle.tasks.specs.Refusals.{Said, answered, refusing, number_of, sheet_too_long, sheet_form, sheet_numbers}
use Rattle.tasks.specs.Sets.{no_set, refuse_or, states_of, test_states, test_set}
use Rattle.sheet_form.specs.Form.{Line, Each, longest, Member, FaultAt, Form, fits, stops}
use Rattle.sheet_form.specs.Sets.{rising, set_of, line_fault, lowest_line}
use Rattle.arena.specs.Tests.{◌∈◌}
use Rattle.arena.proofs.Tests.{by_cond}
use Rattle.tasks.proofs.Numbers.{listed_in, between}
use Rattle.tasks.proofs.Valid.{refused_number, refused_listed}
use Rattle.sheet_form.proofs.Faults.{lines_tested, lowest_at, not_rising}
use Rattle.sheet_form.proofs.Places.{form}
use Rattle.sheet_reader.specs.declared.SheetRead.{SheetRead}
use Rattle.sheet_reader.proofs.Passes.{read_long, read_short, reach_short}
use Rattle.sheet_reader.specs.Reading.{refused_with, tested_read, form_read, read_text, reach_text, set_values, said_read}

-- the answer to a text in the paper's terms: number, place, and the set's 45 values
abbrev pub said : List ℕ → Said
said t = said_read (read_text t)

-- REFUSAL 1: the text is too long, whatever it holds

pub long_read_lem : (t : List ℕ) → longest < length t → said t ≡ refusing 45 (record { reason = SheetTooLong; place = 0 })
long_read_lem t h = ap said_read (read_long t h)

-- REFUSAL 2: reading answers it, at the place p, exactly if the text is not too long and its form is at fault at p

pub fault_read_lem : (t : List ℕ) (p : ℕ) → length t ≤ longest → FaultAt t p → said t ≡ refusing 45 (record { reason = SheetForm; place = p })
fault_read_lem t p h f = ap said_read (read_short t h (stops p f))

module _ (t : List ℕ) where
  abbrev Faulty : SheetRead → Type 0
  Faulty r = (said_read r).number ≡ sheet_form → (length t ≤ longest) × FaultAt t (said_read r).place

  -- a sheet's set is refused with 3 to 6, and never with 2
  tested_fault : (s : Set) (r : Result ℕ Refusal) → test_set s ≡ r → Faulty (tested_read s r)
  tested_fault s (Ok n) e g = let z : ⊥ = omega arith in absurd z
  tested_fault s (Err f) e g = let z : ⊥ = omega (arith, (refused_number s f e).0) in absurd z

  formed_fault : length t ≤ longest → (f : Form t) → Faulty (form_read t f)
  formed_fault h (stops p x) e = (h, x)
  formed_fault h (fits m) e = tested_fault (set_of m.sheet) (test_set (set_of m.sheet)) refl e

  pub read_fault : (said t).number ≡ sheet_form → (length t ≤ longest) × FaultAt t (said t).place
  unfolding read_text
  read_fault =
      by_cond Faulty (ltb longest (length t)) _ _ (λ b e. let z : ⊥ = omega arith in absurd z) (λ b. formed_fault (nltb→le longest (length t) b) (form t))

-- REFUSALS 3 TO 6: the lowest task at fault, then the number of states; else the set is taken

faultless : (ls : List Line) (i : ℕ) (r : Result ℕ Refusal) → Each (λ x. line_fault x ≡ None) ls → lowest_line i ls r ≡ r
faultless [] i r g = refl
faultless (l ∷ ls) i r g = ap (λ n. refuse_or n (suc i) (lowest_line (suc i) ls r)) g.0 ∙ faultless ls (suc i) r g.1

module _ (t : List ℕ) (m : Member t) (h : length t ≤ longest) where
  abbrev its_set : Set
  its_set = set_of m.sheet

  pub read_lines : read_text t ≡ tested_read its_set (lowest_line 0 m.sheet.lines (test_states its_set))
  read_lines = read_short t h (fits m) ∙ ap (tested_read its_set) (lines_tested m.sheet m.formed)

  -- the line l is the lowest at fault: the lines before it are without fault
  module _ (xs : List Line) (l : Line) (ys : List Line) (e : m.sheet.lines ≡ xs ++ (l ∷ ys)) (g : Each (λ x. line_fault x ≡ None) xs) where
    pub read_lowest : (r : Reason) → line_fault l ≡ Some r → said t ≡ refusing 45 (record { reason = r; place = length xs + 1 })
    read_lowest r p =
        let z : 0 + length xs + 1 ≡ length xs + 1 = omega arith in
        ap said_read (read_lines ∙ ap (λ ls. tested_read its_set (lowest_line 0 ls (test_states its_set))) e ∙ ap (tested_read its_set) (lowest_at xs l ys 0 (test_states its_set) r g p))
        ∙ ap (λ n. refusing 45 (record { reason = r; place = n })) z

    -- a list of it does not rise
    pub read_not_rising : (rising l.runs && rising l.gaps) ≡ false → said t ≡ refusing 45 (record { reason = BadRecord; place = length xs + 1 })
    read_not_rising n = read_lowest BadRecord (not_rising l n)

  -- no line is at fault
  module _ (g : Each (λ x. line_fault x ≡ None) m.sheet.lines) where
    by_states : read_text t ≡ tested_read its_set (test_states its_set)
    by_states = read_lines ∙ ap (tested_read its_set) (faultless m.sheet.lines 0 (test_states its_set) g)

    pub read_too_many : 60000 < states_of its_set → said t ≡ refusing 45 (record { reason = TooManyStates; place = 0 })
    unfolding test_states
    read_too_many n = ap said_read by_states ∙ rw (lt-ltb 60000 (states_of its_set) n) refl

    pub set_read : states_of its_set ≤ 60000 → said t ≡ answered (set_values its_set)
    unfolding test_states
    set_read n = ap said_read by_states ∙ rw (le-ltb 60000 (states_of its_set) n) refl

-- EVERY REFUSAL has one of the numbers of reading a sheet, 1 to 6, and a set of zeros beside it

data Fair : SheetRead → Type 0 where
  taken : (s : Set) → Fair (record { answer = Ok tt; set = s })
  refused : (f : Refusal) → number_of f.reason ∈ sheet_numbers → Fair (refused_with f)

fair_tested : (s : Set) (r : Result ℕ Refusal) → test_set s ≡ r → Fair (tested_read s r)
fair_tested s (Ok n) e = taken s
fair_tested s (Err f) e = refused f (Memᴰ.append_right (sheet_too_long ∷ sheet_form ∷ []) (refused_listed s f e))

fair_formed : (t : List ℕ) (f : Form t) → Fair (form_read t f)
fair_formed t (stops p e) = refused (record { reason = SheetForm; place = p }) (listed_in sheet_form sheet_numbers tt)
fair_formed t (fits m) = fair_tested (set_of m.sheet) (test_set (set_of m.sheet)) refl

fair : (t : List ℕ) → Fair (read_text t)
unfolding read_text
fair t =
    by_cond Fair (ltb longest (length t)) _ _ (λ b. refused (record { reason = SheetTooLong; place = 0 }) (listed_in sheet_too_long sheet_numbers tt)) (λ b. fair_formed t (form t))

pub refused_said : (t : List ℕ) → 0 < (said t).number → ((said t).number ∈ sheet_numbers) × ((read_text t).set ≡ no_set) × ((said t).values ≡ replicate 45 0)
refused_said t = go (fair t)
  where
    go : {r : SheetRead} → Fair r → 0 < (said_read r).number → ((said_read r).number ∈ sheet_numbers) × (r.set ≡ no_set) × ((said_read r).values ≡ replicate 45 0)
    go (taken s) h = let z : ⊥ = omega arith in absurd z
    go (refused f m) h = (m, refl, refl)

-- so an answer without a number is a set that was taken
pub read_taken : (t : List ℕ) (q : SheetRead) → q ≡ read_text t → (said_read q).number ≡ 0 → q.answer ≡ Ok tt
read_taken t q e = subst⁻¹ (λ r. (said_read r).number ≡ 0 → r.answer ≡ Ok tt) e (go (fair t))
  where
    go : {r : SheetRead} → Fair r → (said_read r).number ≡ 0 → r.answer ≡ Ok tt
    go (taken s) g = refl
    go (refused f m) g = absurd (omega (arith, (between 1 6 sheet_numbers tt (number_of f.reason) m).0))

-- WHERE A READER THEN STANDS: at the end of a sheet, at the place of a fault of form, and where it was in a text that is too long (`reach_long`)

pub reach_sheet : (t : List ℕ) → length t ≤ longest → Member t → reach_text t ≡ length t
reach_sheet t h m = reach_short t h (fits m)

pub reach_fault : (t : List ℕ) (p : ℕ) → length t ≤ longest → FaultAt t p → reach_text t ≡ p
reach_fault t p h f = reach_short t h (stops p f)
