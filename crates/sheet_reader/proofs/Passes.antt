-- Reading, by the form of the text and by what one pass over it finds. Assumes nothing.
use mathlib.Core.Path.{◌≡◌, refl, sym, ap, ◌∙◌}
use mathlib.Core.Bool.{cond}
use mathlib.Core.List.{List}
use Prim.Native.Nat.{ℕ, ◌≤◌, ◌<◌}
use native.Mathlib.Nat.{le_refl}
use lib.ListN.{length}
use borrow.Author.Tests.{lt-ltb, le-ltb}
use Rattle.std.specs.Prelude.{Option, Some, None, Ok, Err}
use Rattle.tasks.specs.declared.refusals.Refusal.{Refusal}
use Rattle.tasks.specs.declared.sets.Set.{Set}
use Rattle.tasks.specs.Sets.{test_set}
use Rattle.sheet_form.specs.Form.{longest, Form, fits, stops}
use Rattle.sheet_form.proofs.Places.{form}
use Rattle.sheet_scan.specs.declared.Scanned.{Scanned}
use Rattle.sheet_scan.specs.Scan.{scan_of, scan_text}
use Rattle.sheet_scan.proofs.Scans.{scan_by}
use Rattle.sheet_reader.specs.declared.SheetRead.{SheetRead}
use Rattle.sheet_reader.specs.Reading.{refused_with, long_read, fault_read, tested_read, form_read, read_text, form_reach, reach_text}

-- what a pass finds, answered
abbrev set_read : ℕ → Option Set → SheetRead
set_read p (Some k) = tested_read k (test_set k)
set_read p None = fault_read p

abbrev scan_read : Scanned → SheetRead
scan_read s = set_read s.reach s.set

module _ (t : List ℕ) where
  -- whatever shows the form of a text, what is read and how far is what the pass finds
  form_read_lem : (f : Form t) → form_read t f ≡ scan_read (scan_text t)
  form_read_lem f = go f ∙ ap scan_read (scan_by t f)
    where
      go : (f : Form t) → form_read t f ≡ scan_read (scan_of t f)
      go (fits m) = refl
      go (stops p e) = refl

  form_reach_lem : (f : Form t) → form_reach t f ≡ (scan_text t).reach
  form_reach_lem f = go f ∙ ap (λ (s : Scanned). s.reach) (scan_by t f)
    where
      go : (f : Form t) → form_reach t f ≡ (scan_of t f).reach
      go (fits m) = refl
      go (stops p e) = refl

  -- a text that is too long
  module _ (h : longest < length t) where
    pub read_long : read_text t ≡ long_read
    unfolding read_text
    read_long = ap (λ b. cond b long_read (form_read t (form t))) (lt-ltb longest (length t) h)

    pub reach_long : reach_text t ≡ 0
    unfolding reach_text
    reach_long = ap (λ b. cond b 0 (form_reach t (form t))) (lt-ltb longest (length t) h)

  -- one that is not: by its form, whatever shows it
  module _ (h : length t ≤ longest) where
    read_scan : read_text t ≡ scan_read (scan_text t)
    unfolding read_text
    read_scan = ap (λ b. cond b long_read (form_read t (form t))) (le-ltb longest (length t) h) ∙ form_read_lem (form t)

    pub reach_scan : reach_text t ≡ (scan_text t).reach
    unfolding reach_text
    reach_scan = ap (λ b. cond b 0 (form_reach t (form t))) (le-ltb longest (length t) h) ∙ form_reach_lem (form t)

    pub read_short : (f : Form t) → read_text t ≡ form_read t f
    read_short f = read_scan ∙ sym (form_read_lem f)

    pub reach_short : (f : Form t) → reach_text t ≡ form_reach t f
    reach_short f = reach_scan ∙ sym (form_reach_lem f)

    pub read_faulty : (scan_text t).set ≡ None → read_text t ≡ fault_read (scan_text t).reach
    read_faulty e = read_scan ∙ ap (set_read (scan_text t).reach) e

    pub read_passed : (k : Set) (n : ℕ) → (scan_text t).set ≡ Some k → test_set k ≡ Ok n → read_text t ≡ record { answer = Ok tt; set = k }
    read_passed k n e q = read_scan ∙ ap (set_read (scan_text t).reach) e ∙ ap (tested_read k) q

    pub read_refused : (k : Set) (f : Refusal) → (scan_text t).set ≡ Some k → test_set k ≡ Err f → read_text t ≡ refused_with f
    read_refused k f e q = read_scan ∙ ap (set_read (scan_text t).reach) e ∙ ap (tested_read k) q

  pub scan_within : (scan_text t).reach ≤ length t
  unfolding scan_text
  scan_within = go (form t)
    where
      go : (f : Form t) → (scan_of t f).reach ≤ length t
      go (fits m) = le_refl (length t)
      go (stops p e) = e.within
