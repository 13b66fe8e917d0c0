-- The test of a sheet's set, by the lines of the sheet. Assumes nothing.
use mathlib.Core.Path.{◌≡◌, refl, sym, ap, ap₂, ◌∙◌, subst}
use mathlib.Core.Bool.{Bool, true, false, ◌&&◌, cond}
use mathlib.Core.List.{List, [], ◌∷◌, ◌++◌, append_assoc, map, map-append}
use Prim.Native.Nat.{ℕ, zero, suc, ◌+◌, ◌-◌, ◌≤◌, ◌<◌}
use native.Mathlib.Omega.{arith}
use lib.Dec.{T, eqb, ltb}
use lib.ListN.{length, get_or, drop, replicate, length-append, length-map}
use lib.Seq.{drop_at, get_or_at, get_or-append-add}
use borrow.Author.Tests.{lt-ltb, le-ltb, le-leb, ne_eqb, eq-eqb}
use Rattle.std.specs.Prelude.{Some, None, Result, Err}
use Rattle.tasks.specs.declared.refusals.Reason.{Reason}
use Rattle.tasks.specs.declared.refusals.Reason.TheVariants.{BadRecord}
use Rattle.tasks.specs.declared.refusals.Refusal.{Refusal}
use Rattle.tasks.specs.Lists.{head_or, last_or, shortest_of, longest_of, length_of}
use Rattle.tasks.specs.Sets.{characters, zeros, good_name, no_task, blank, unfit, fault_of, task_at, fault_at, refuse_or, lowest_fault, test_states, test_set}
use Rattle.sheet_form.specs.Form.{Values, Line, Sheet, Each, ValuesOk, LineOk, NameOk, Formed}
use Rattle.sheet_form.specs.Sets.{numbers, rising, list_of, kind_of, task_of, padded, set_of, line_fault, lowest_line}
use Rattle.sheet_form.proofs.Bits.{list_says, kept_none}
use Rattle.sheet_form.proofs.Lengths.{last_snoc}
use Rattle.sheet_form.proofs.Trips.{none_of_zeros, characters_back}

-- A LIST AS A RECORD KEEPS IT

-- one that rises has its first number as the shortest value, and its last as the longest
module _ (l : Values) (h : ValuesOk l) (r : T (rising l)) where
  kept_some : 0 < length_of (list_of l)
  unfolding length_of
  kept_some = omega (arith, ap length (list_says l h r), length-append l.firsts (l.final ∷ []))

  kept_last : longest_of (list_of l) ≡ l.final
  unfolding longest_of
  kept_last = ap (last_or 0) (list_says l h r) ∙ last_snoc 0 l.firsts l.final

  kept_first : shortest_of (list_of l) ≡ head_or 0 (numbers l)
  unfolding shortest_of
  kept_first = ap (head_or 17) (list_says l h r) ∙ go l.firsts
    where
      go : (xs : List ℕ) → head_or 17 (xs ++ (l.final ∷ [])) ≡ head_or 0 (xs ++ (l.final ∷ []))
      go [] = refl
      go (x ∷ xs) = refl

-- A LINE

kind_small : (h : Bool) → ltb 1 (kind_of h) ≡ false
kind_small true = refl
kind_small false = refl

-- what a line's record is refused with is what the line itself is
line_fault_lem : (l : Line) → LineOk l → fault_of (task_of l) ≡ line_fault l
unfolding fault_of unfit line_fault
line_fault_lem l h = go (rising l.runs) (rising l.gaps) refl refl
  where
    some : (v : Values) → ValuesOk v → rising v ≡ true → eqb (length_of (list_of v)) 0 ≡ false
    some v o e = ne_eqb (length_of (list_of v)) 0 (λ z. omega (arith, kept_some v o (subst T (sym e) tt)))

    go : (a b : Bool) → rising l.runs ≡ a → rising l.gaps ≡ b → fault_of (task_of l) ≡ line_fault l
    go true true p q =
        simp (
          kind_small l.hard,
          le-leb 1 l.deadline h.deadline.low,
          le-leb l.deadline 16 h.deadline.high,
          some l.runs h.runs p,
          some l.gaps h.gaps q,
          kept_last l.runs h.runs (subst T (sym p) tt),
          kept_first l.gaps h.gaps (subst T (sym q) tt),
          p,
          q,
        )
    go true false p q =
        simp (
          kind_small l.hard,
          le-leb 1 l.deadline h.deadline.low,
          le-leb l.deadline 16 h.deadline.high,
          some l.runs h.runs p,
          eq-eqb _ _ (kept_none l.gaps q),
          p,
          q,
        )
    go false b p q =
        simp (
          kind_small l.hard,
          le-leb 1 l.deadline h.deadline.low,
          le-leb l.deadline 16 h.deadline.high,
          eq-eqb _ _ (kept_none l.runs p),
          p,
        )

-- THE SHEET

zeros_of_zeros : (k : ℕ) → zeros (replicate k 0) ≡ true
unfolding zeros
zeros_of_zeros zero = refl
zeros_of_zeros (suc k) = zeros_of_zeros k

named : (n : List ℕ) → NameOk n → good_name (padded 16 0 n) ≡ true
unfolding padded good_name
named n h =
    let z : List ℕ = replicate (16 - length n) 0 in
    let e : characters (n ++ z) ≡ length n = characters_back n z h.bytes (none_of_zeros (16 - length n)) in
    ap₂ (λ b k. b && zeros (drop k (n ++ z))) (lt-ltb 0 (characters (n ++ z)) (omega (arith, h.low))) e
    ∙ ap zeros (drop_at n z (length n) refl) ∙ zeros_of_zeros (16 - length n)

Each_seam : {A : Type 0} (P : A → Type 0) (xs : List A) (x : A) (ys : List A) → Each P (xs ++ (x ∷ ys)) → P x
Each_seam P [] x ys h = h.0
Each_seam P (y ∷ xs) x ys h = Each_seam P xs x ys h.1

get_d_same : {A : Type 0} (k i : ℕ) (d : A) → get_or (replicate k d) i d ≡ d
get_d_same zero i d = refl
get_d_same (suc k) zero d = refl
get_d_same (suc k) (suc i) d = get_d_same k i d

module _ (s : Sheet) (h : Formed s) where
  -- the record of the line l, which stands after the lines xs
  line_at : (xs : List Line) (l : Line) (ys : List Line) → s.lines ≡ xs ++ (l ∷ ys) → fault_at (set_of s) (length xs) ≡ line_fault l
  unfolding fault_at padded
  line_at xs l ys e =
      let inside : length xs < length s.lines = omega (arith, ap length e, length-append xs (l ∷ ys)) in
      let z = replicate (7 - length (map task_of s.lines)) no_task in
      let r : task_at (set_of s) (length xs) ≡ task_of l
      = ap (λ ls. get_or (map task_of ls ++ z) (length xs) no_task) e ∙ ap (λ ts. get_or (ts ++ z) (length xs) no_task) (map-append task_of xs (l ∷ ys))
      ∙ ap (λ ts. get_or ts (length xs) no_task) (append_assoc (map task_of xs) (task_of l ∷ map task_of ys) z)
      ∙ get_or_at (map task_of xs) (task_of l) (map task_of ys ++ z) no_task (length xs) (length-map xs task_of) in
      ap₂ (λ b τ. cond b (fault_of τ) (cond (blank τ) None (Some BadRecord))) (lt-ltb (length xs) (length s.lines) inside) r
      ∙ line_fault_lem l (Each_seam LineOk xs l ys (subst (Each LineOk) e h.lines))

  -- a record beyond the lines is blank
  blank_at : (i : ℕ) → length s.lines ≤ i → fault_at (set_of s) i ≡ None
  unfolding fault_at padded blank
  blank_at i g =
      let ts = map task_of s.lines in
      let z = replicate (7 - length ts) no_task in
      let e : i ≡ length ts + (i - length ts) = omega (arith, length-map s.lines task_of) in
      let r : task_at (set_of s) i ≡ no_task
      = ap (λ n. get_or (ts ++ z) n no_task) e ∙ get_or-append-add ts z (i - length ts) no_task ∙ get_d_same (7 - length ts) (i - length ts) no_task in
      ap₂ (λ b τ. cond b (fault_of τ) (cond (blank τ) None (Some BadRecord))) (le-ltb i (length s.lines) g) r

  module _ (t : Result ℕ Refusal) where
    none_beyond : (k i : ℕ) → length s.lines ≤ i → lowest_fault (set_of s) k i t ≡ t
    unfolding lowest_fault
    none_beyond zero i g = refl
    none_beyond (suc k) i g = ap (λ n. refuse_or n (suc i) (lowest_fault (set_of s) k (suc i) t)) (blank_at i g) ∙ none_beyond k (suc i) (omega arith)

    -- the lines xs have been looked at, and the lines ys are left
    lowest_from : (xs ys : List Line) (k i : ℕ) → length xs ≡ i → i + k ≡ 7 → s.lines ≡ xs ++ ys → lowest_fault (set_of s) k i t ≡ lowest_line i ys t
    unfolding lowest_fault
    lowest_from xs [] k i p q e = none_beyond k i (omega (arith, ap length e, length-append xs []))
    lowest_from xs (l ∷ ys) zero i p q e = let z : ⊥ = omega (arith, h.high, ap length e, length-append xs (l ∷ ys)) in absurd z
    lowest_from xs (l ∷ ys) (suc k) i p q e =
        ap₂ (λ n r. refuse_or n (suc i) r) (ap (fault_at (set_of s)) (sym p) ∙ line_at xs l ys e)
        (lowest_from (xs ++ (l ∷ [])) ys k (suc i) (omega (arith, length-append xs (l ∷ []))) (omega arith) (e ∙ sym (append_assoc xs (l ∷ []) ys)))

  -- the order rule on a sheet: the lowest task at fault, then the number of states
  pub lines_tested : test_set (set_of s) ≡ lowest_line 0 s.lines (test_states (set_of s))
  unfolding test_set
  lines_tested =
      simp (named s.name h.name, le-leb 1 (length s.lines) h.low, le-leb (length s.lines) 7 h.high)
      (lowest_from (test_states (set_of s)) [] s.lines 7 0 refl refl refl)

-- the line l is the lowest at fault: those before it are without fault
pub lowest_at : (xs : List Line) (l : Line) (ys : List Line) (i : ℕ) (t : Result ℕ Refusal) (r : Reason) → Each (λ x. line_fault x ≡ None) xs → line_fault l ≡ Some r
    → lowest_line i (xs ++ (l ∷ ys)) t ≡ Err (record { reason = r; place = i + length xs + 1 })
lowest_at [] l ys i t r h p =
    ap (λ o. refuse_or o (suc i) (lowest_line (suc i) ys t)) p ∙ ap (λ n. Err (record { reason = r; place = n })) (omega arith)
lowest_at (x ∷ xs) l ys i t r h p =
    let e : suc i + length xs + 1 ≡ i + suc (length xs) + 1 = omega arith in
    ap (λ o. refuse_or o (suc i) (lowest_line (suc i) (xs ++ (l ∷ ys)) t)) h.0 ∙ lowest_at xs l ys (suc i) t r h.1 p
    ∙ ap (λ n. Err (record { reason = r; place = n })) e

-- a line with a list that does not rise is at fault, with 3
pub not_rising : (l : Line) → (rising l.runs && rising l.gaps) ≡ false → line_fault l ≡ Some BadRecord
unfolding line_fault
not_rising l e = rw e refl
