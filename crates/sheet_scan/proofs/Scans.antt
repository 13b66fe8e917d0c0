-- The pass over a text, byte by byte. Assumes nothing.
use mathlib.Core.Path.{◌≡◌, refl, sym, ap, ◌∙◌, subst}
use mathlib.Core.Logic.{⊎_elim}
use mathlib.Core.Bool.{Bool, true, false, not}
use mathlib.Core.List.{List, [], ◌∷◌, ◌++◌}
use Prim.Native.Nat.{ℕ, suc, ◌+◌, ◌≤◌, ◌<◌}
use native.Mathlib.Numerals.{add-one}
use native.Mathlib.Omega.{arith}
use lib.Dec.{T}
use lib.ListN.{length, get_or, take}
use lib.Seq.{take-suc, take_all}
use Rattle.std.proofs.Common.{Some}
use Rattle.std.specs.Bool.{then_some}
use Rattle.sheet_form.specs.Form.{Member, FaultAt, Form, fits, stops}
use Rattle.sheet_form.specs.Machine.{word, name, line, field, fault, opening, kind, deadline, runs, gaps, step, run, start}
use Rattle.sheet_form.specs.Machine as machine
use Rattle.tasks.specs.declared.sets.Set.{Set}
use Rattle.tasks.specs.Sets.{no_set}
use Rattle.sheet_form.specs.Sets.{set_of, padded}
use Rattle.sheet_form.proofs.Shown.{Ok, shown, step_reads}
use Rattle.sheet_form.proofs.Runs.{run_append}
use Rattle.sheet_form.proofs.Places.{one_fault, fault_no_member, one_sheet, fault_from, accepts, accepted, start_ok, form}
use Rattle.sheet_fields.specs.declared.state.State.{State}
use Rattle.sheet_fields.specs.State.{set_word, at_fault, blank_of}
use Rattle.sheet_scan.specs.Steps.{step_of, whole_at}
use Rattle.sheet_scan.specs.Scan.{stopped_at, scan_of, scan_text}
use Rattle.sheet_scan.proofs.Pack.{sheet_in, pack, set_after, Packs, same, fault_mode}

-- whatever shows a text's form, it is the one that counts
one_form : (t : List ℕ) (f g : Form t) → scan_of t f ≡ scan_of t g
one_form t (fits m) (fits n) = ap (λ s. record { reach = length t; set = Some (set_of s) }) (one_sheet t m n)
one_form t (fits m) (stops p e) = absurd (fault_no_member t p e m)
one_form t (stops p e) (fits m) = absurd (fault_no_member t p e m)
one_form t (stops p e) (stops q f) = ap stopped_at (one_fault t p q e f)

pub scan_by : (t : List ℕ) (f : Form t) → scan_of t f ≡ scan_text t
unfolding scan_text
scan_by t f = one_form t f (form t)

-- the code has read i bytes of t, keeps s, and the set so far is k
pub record SoFar (t : List ℕ) (s : State) (k : Set) (i : ℕ) : Type 0 where
  pub within : i ≤ length t
  pub ok : Ok (run start (take i t))
  pub reads : shown (run start (take i t)) ≡ take i t
  pub keeps : s ≡ pack (run start (take i t))
  pub says : k ≡ set_of (sheet_in (run start (take i t)))

pub at_first : (t : List ℕ) → SoFar t (blank_of set_word) no_set 0
unfolding padded
at_first t = record { within = omega arith; ok = start_ok; reads = refl; keeps = refl; says = refl }

one_more : (t : List ℕ) (i : ℕ) → i < length t → run start (take (suc i) t) ≡ step (run start (take i t)) (get_or t i 0)
one_more t i h = ap (run start) (take-suc t i 0 h) ∙ run_append start (take i t) (get_or t i 0 ∷ [])

module _ (t : List ℕ) (s : State) (k : Set) (i : ℕ) (f : SoFar t s k i) (h : i < length t) (n : State) (e : n ≡ step_of s (get_or t i 0)) where
  abbrev now : machine.State
  now = run start (take i t)

  abbrev next : machine.State
  next = step now (get_or t i 0)

  packs : Packs now (get_or t i 0) n next
  packs = subst (λ x. Packs now (get_or t i 0) x next) (sym (e ∙ ap (λ x. step_of x (get_or t i 0)) f.keeps)) (same now (get_or t i 0) f.ok)

  pub further : (m : n.mode ≡ at_fault → ⊥) → SoFar t n (set_after k s n (get_or t i 0)) (i + 1)
  further m = rw add-one (⊎_elim bad good (step_reads now (get_or t i 0) f.ok))
    where
      bad : next ≡ fault → SoFar t n (set_after k s n (get_or t i 0)) (suc i)
      bad z = absurd (m (ap (λ (x : State). x.mode) (packs.is ∙ ap pack z)))

      good : Ok next × (shown next ≡ shown now ++ (get_or t i 0 ∷ [])) → SoFar t n (set_after k s n (get_or t i 0)) (suc i)
      good g =
          record {
            within = h;
            ok = subst Ok (sym (one_more t i h)) g.0;
            reads = ap shown (one_more t i h) ∙ g.1 ∙ ap (λ l. l ++ (get_or t i 0 ∷ [])) f.reads ∙ sym (take-suc t i 0 h);
            keeps = packs.is ∙ ap pack (sym (one_more t i h));
            says = (λ j. set_after (f.says j) (f.keeps j) n (get_or t i 0)) ∙ packs.says m ∙ ap (λ q. set_of (sheet_in q)) (sym (one_more t i h));
          }

  stopped : n.mode ≡ at_fault → FaultAt t i
  stopped m =
      fault_from t i (record { within = f.within; ok = f.ok; reads = f.reads; next = λ g. one_more t i h ∙ ⊎_elim (λ z. z) good (step_reads now (get_or t i 0) f.ok) }) (λ z. let x : ⊥ = omega arith in absurd x)
    where
      good : Ok next × (shown next ≡ shown now ++ (get_or t i 0 ∷ [])) → next ≡ fault
      good g = let x : ⊥ = omega (arith, fault_mode next g.0, ap (λ (x : State). x.mode) packs.is) in absurd x

  pub faulted : n.mode ≡ at_fault → stopped_at i ≡ scan_text t
  faulted m = scan_by t (stops i (stopped m))

accepts_mode : (q : machine.State) → Ok q → accepts q ≡ whole_at (pack q)
accepts_mode (word opening k) o = refl
accepts_mode (word (kind s true) k) o = refl
accepts_mode (word (kind s false) k) o = refl
accepts_mode (name n) o = refl
accepts_mode (line s) o = refl
accepts_mode (field (deadline s h) xs v) o = refl
accepts_mode (field (runs s h d) xs v) o = refl
accepts_mode (field (gaps s h d c) xs v) o = refl
accepts_mode fault o = absurd o

module _ (t : List ℕ) (s : State) (k : Set) (i : ℕ) (f : SoFar t s k i) (e : length t ≤ i) where
  all : take i t ≡ t
  all = take_all i t e

  answer : accepts (run start t) ≡ whole_at s
  answer = subst (λ l. accepts (run start l) ≡ whole_at s) all (accepts_mode (run start (take i t)) f.ok ∙ ap whole_at (sym f.keeps))

  ended_fault : whole_at s ≡ false → FaultAt t i
  ended_fault n =
      fault_from t i (record { within = f.within; ok = f.ok; reads = f.reads; next = λ h. let x : ⊥ = omega arith in absurd x })
      (λ z. subst (λ b. T (not b)) (sym (answer ∙ n)) tt)

  ended_sheet : whole_at s ≡ true → (m : Member t) × (k ≡ set_of m.sheet)
  ended_sheet y =
      let g = accepted t (subst T (sym (answer ∙ y)) tt) in
      (g.member, f.says ∙ ap (λ l. set_of (sheet_in (run start l))) all ∙ ap (λ q. set_of (sheet_in q)) g.ends)

  pub ended : record { reach = length t; set = then_some (whole_at s) k } ≡ scan_text t
  ended = go (whole_at s) refl
    where
      at_end : i ≡ length t
      at_end = omega (arith, f.within)

      go : (b : Bool) → whole_at s ≡ b → record { reach = length t; set = then_some b k } ≡ scan_text t
      go false n = ap stopped_at (sym at_end) ∙ scan_by t (stops i (ended_fault n))
      go true y = let g = ended_sheet y in ap (λ x. record { reach = length t; set = Some x }) g.1 ∙ scan_by t (fits g.0)
