-- Texts put one after the other. Assumes nothing.
use mathlib.Core.Path.{◌≡◌, refl, sym, ap, ◌∙◌, subst}
use mathlib.Core.Logic.{⊎_elim}
use mathlib.Core.List.{List, [], ◌∷◌, ◌++◌}
use Prim.Native.Nat.{ℕ, suc, ◌+◌, ◌≤◌, ◌<◌}
use native.Mathlib.Numerals.{add-one}
use native.Mathlib.Omega.{arith}
use lib.ListN.{length, get_or, take, drop, set, length-append, length-set}
use lib.Seq.{take-suc, sets, sets-eq, set_out, length-sets, take_at}
use Rattle.arena.proofs.Tests.{lt_or_le}
use Rattle.texts.specs.declared.Page.{Page}
use Rattle.texts.specs.Puts.{Puts, Adds}

sets_append : (p : List ℕ) (i : ℕ) (x y : List ℕ) → sets p i (x ++ y) ≡ sets (sets p i x) (i + length x) y
sets_append p i [] y = ap (λ n. sets p n y) (omega arith)
sets_append p i (b ∷ x) y =
    let e : suc i + length x ≡ i + suc (length x) = omega arith in
    sets_append (set p i b) (suc i) x y ∙ ap (λ n. sets (sets (set p i b) (suc i) x) n y) e

-- past the end nothing is put
sets_out : (p : List ℕ) (i : ℕ) (x : List ℕ) → length p ≤ i → sets p i x ≡ p
sets_out p i [] h = refl
sets_out p i (b ∷ x) h = sets_out (set p i b) (suc i) x (omega (arith, length-set p i b)) ∙ set_out p i b h

pub puts_none : (p : List ℕ) (i : ℕ) → Puts p p i i []
puts_none p i = record { next = omega arith; bytes = refl }

pub puts_length : {p q text : List ℕ} {i j : ℕ} → Puts p q i j text → length q ≡ length p
puts_length {p} {q} {text} {i} k = ap length k.bytes ∙ length-sets p i text

pub puts_then : {p q r x y : List ℕ} {i j k : ℕ} → Puts p q i j x → Puts q r j k y → Puts p r i k (x ++ y)
puts_then {p} {q} {r} {x} {y} {i} {j} {k} a b =
    record {
      next = omega (arith, a.next, b.next, length-append x y, puts_length a);
      bytes = b.bytes ∙ ap (λ l. sets l j y) a.bytes ∙ there ∙ sym (sets_append p i x y);
    }
  where
    there : sets (sets p i x) j y ≡ sets (sets p i x) (i + length x) y
    there =
        let l = length-sets p i x in
        ⊎_elim (λ h. let e : j ≡ i + length x = omega (arith, a.next) in ap (λ n. sets (sets p i x) n y) e)
        (λ h. sets_out (sets p i x) j y (omega (arith, a.next)) ∙ sym (sets_out (sets p i x) (i + length x) y (omega arith)))
        (lt_or_le (i + length x) (length p))

pub puts_as : {p q x y : List ℕ} {i j : ℕ} → Puts p q i j x → x ≡ y → Puts p q i j y
puts_as {p} {q} {x} {y} {i} {j} a e = subst (Puts p q i j) e a

-- the bytes under another name
pub puts_in : {p q r text : List ℕ} {i j : ℕ} → Puts p q i j text → r ≡ q → Puts p r i j text
puts_in {p} {text = text} {i = i} {j = j} a e = subst (λ (l : List ℕ). Puts p l i j text) (sym e) a

-- a text that fits, put from the first byte on: those beyond it stay
pub puts_whole : {p q text : List ℕ} {n : ℕ} → Puts p q 0 n text → length text ≤ length p → (n ≡ length text) × (q ≡ text ++ drop (length text) p)
puts_whole {p} {q} {text} {n} k h =
    let e : 0 + length text ≡ length text = omega arith in
    (omega (arith, k.next), k.bytes ∙ sets-eq text p 0 (omega arith) ∙ ap (λ m. text ++ drop m p) e)

pub puts_take : {p q text : List ℕ} {n : ℕ} → Puts p q 0 n text → length text ≤ length p → take n q ≡ text
puts_take {p} {q} {text} {n} k h =
    let w = puts_whole k h in
    ap (take n) w.1 ∙ take_at text (drop (length text) p) n (sym w.0)

-- pages after one another
pub adds_none : (p : Page) → Adds p p []
adds_none p = record { same = refl; puts = puts_none p.buf.now p.at }

pub adds_then : {p q r : Page} {x y : List ℕ} → Adds p q x → Adds q r y → Adds p r (x ++ y)
adds_then a b = record { same = b.same ∙ a.same; puts = puts_then a.puts b.puts }

pub adds_as : {p q : Page} {x y : List ℕ} → Adds p q x → x ≡ y → Adds p q y
adds_as {p} {q} a e = subst (Adds p q) e a

-- one byte more of a word
pub adds_more : {p q r : Page} (word : List ℕ) (k : ℕ) → k < length word → Adds p q (take k word) → Adds q r (get_or word k 0 ∷ []) → Adds p r (take (k + 1) word)
adds_more word k h a b = adds_as (adds_then a b) (rw (add-one, take-suc word k 0 h) refl)
