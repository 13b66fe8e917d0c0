-- How long the lines of a report are. Assumes nothing.
use mathlib.Core.List.{List, [], ◌∷◌}
use Prim.Native.Nat.{ℕ, zero, suc, ◌+◌, ◌*◌, ◌^◌, ◌≤◌, ◌<◌}
use native.Mathlib.Omega.{arith}
use lib.ListN.{length, take, drop, get_or, length-append, length-take}
use lib.Seq.{get_or-drop}
use Rattle.tasks.specs.declared.sets.Set.{Set}
use Rattle.tasks.specs.Sets.{characters}
use Rattle.sheet_form.specs.Form.{each}
use Rattle.texts.specs.Texts.{bytes}
use Rattle.report_lines.specs.Lines.{field, set_line, shield_line, row_line, row_lines, refused_line}
use Rattle.report_lines.proofs.Numbers.{field_length}

pub set_length : (s : Set) (S : ℕ) → length s.name ≤ 16 → s.count < 10 ^ 1 → S < 10 ^ 5 → length (set_line s S) ≤ 42
unfolding set_line
set_length s S h c n =
    simp length-append
    (omega (arith, length-take (characters s.name) s.name, field_length (bytes " tasks ") 0 s.count c, field_length (bytes " states ") 4 S n))

pub shield_length : (safe rounds start : ℕ) → safe < 10 ^ 5 → rounds < 10 ^ 5 → start < 10 ^ 3 → length (shield_line safe rounds start) ≤ 36
unfolding shield_line
shield_length safe rounds start a b c =
    simp length-append
    (omega (arith, field_length (bytes "shield ") 4 safe a, field_length (bytes " rounds ") 4 rounds b, field_length (bytes " start ") 2 start c))

pub refused_length : (number place : ℕ) → number < 10 ^ 3 → place < 10 ^ 10 → length (refused_line number place) ≤ 23
unfolding refused_line
refused_length number place n p =
    simp length-append (omega (arith, field_length (bytes "refused ") 2 number n, field_length (bytes " ") 9 place p))

-- entries of at most three digits
abbrev pub Short : List ℕ → Type 0
Short t = (i : ℕ) → get_or t i 0 < 10 ^ 3

entries_length : (n : ℕ) (t : List ℕ) → Short t → length (each (field (bytes " ")) (take n t)) ≤ 4 * n
entries_length zero t h = omega arith
entries_length (suc n) [] h = omega arith
entries_length (suc n) (x ∷ t) h =
    simp length-append (omega (arith, field_length (bytes " ") 2 x (h 0), entries_length n t (λ i. h (suc i))))

row_length : (i : ℕ) (t : List ℕ) → i < 10 ^ 2 → Short t → length (row_line i (take 8 t)) ≤ 39
unfolding row_line
row_length i t h k = simp length-append (omega (arith, field_length (bytes "row ") 1 i h, entries_length 8 t k))

pub rows_length : (t : List ℕ) (n : ℕ) → n ≤ 8 → Short t → length (row_lines t n) ≤ 39 * n
unfolding row_lines
rows_length t zero h k = omega arith
rows_length t (suc n) h k =
    simp length-append
    (omega (arith, rows_length t n (omega arith) k, row_length (8 * n) (drop (8 * n) t) (omega arith) (λ i. rw (get_or-drop (8 * n) t i 0) (k (8 * n + i)))))
