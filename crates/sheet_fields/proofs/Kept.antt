-- The numbers of a list, put on one after the other. Assumes nothing.
use Rattle.std.proofs.Common.{◌≡◌, ℕ, zero, suc, ◌+◌, ◌-◌, ◌^◌, ◌<◌, ◌≤◌, Bool, true, false, cond, ◌&&◌, ltb, List, [], ◌∷◌, ◌++◌, sym, refl, ap, ◌∙◌, add-zero, add_assoc, mod-eq_of_lt, pow-suc, arith, pow_pos, pow_mono, ltb-true, le-ltb, lt-ltb, le-leb}
use Rattle.tasks.specs.Lists.{last_or}
use Rattle.sheet_form.specs.Form.{Values, Each, Small, ValuesOk}
use Rattle.sheet_form.specs.Sets.{numbers, rising_from, rising, bits, list_of}
use Rattle.sheet_form.proofs.Tests.{Each_snoc}
use Rattle.sheet_fields.specs.declared.fields.Kept.{Kept}
use Rattle.sheet_fields.specs.Fields.{broken, push_of}

abbrev pub kept_from : ℕ → ℕ → List ℕ → Kept
kept_from l b [] = record { last = l; bits = b }
kept_from l b (x ∷ xs) = kept_from (push_of l b x).last (push_of l b x).bits xs

abbrev pub kept : List ℕ → Kept
kept xs = kept_from 0 0 xs

pub kept_snoc : (l b : ℕ) (xs : List ℕ) (x : ℕ) → kept_from l b (xs ++ (x ∷ [])) ≡ push_of (kept_from l b xs).last (kept_from l b xs).bits x
kept_snoc l b [] x = refl
kept_snoc l b (y ∷ xs) x = kept_snoc (push_of l b y).last (push_of l b y).bits xs x

bit_fits : (l b v : ℕ) → b < 2 ^ l → l < v → v ≤ 16 → b + 2 ^ (v - 1) < 65536
bit_fits l b zero h g k = let z : ⊥ = omega arith in absurd z
bit_fits l b (suc n) h g k =
    let p : 2 ^ l ≤ 2 ^ n = pow_mono (omega arith) in
    let q : 2 ^ suc n ≤ 2 ^ 16 = pow_mono k in
    let e : suc n - 1 ≡ n = omega arith in
    rw e (omega (arith, pow-suc 2 n))

-- a number that rises is put on, beside bits that are all below it
push_rises : (l b v : ℕ) → b < 2 ^ l → l < v → v ≤ 16 → push_of l b v ≡ record { last = v; bits = b + 2 ^ (v - 1) }
unfolding push_of
push_rises l b v h g k =
    rw (lt-ltb l v g, le-leb v 16 k, mod-eq_of_lt {m = 65536} (bit_fits l b v h g k)) refl

push_breaks : (l b v : ℕ) → ltb l v ≡ false → push_of l b v ≡ broken
unfolding push_of
push_breaks l b v e = rw e refl

bit_above : (l b v : ℕ) → b < 2 ^ l → l < v → b + 2 ^ (v - 1) < 2 ^ v
bit_above l b zero h g = let z : ⊥ = omega arith in absurd z
bit_above l b (suc n) h g =
    let p : 2 ^ l ≤ 2 ^ n = pow_mono (omega arith) in
    let e : suc n - 1 ≡ n = omega arith in
    rw e (omega (arith, pow-suc 2 n))

stuck : (xs : List ℕ) → Each Small xs → kept_from 17 0 xs ≡ broken
stuck [] h = refl
stuck (x ∷ xs) h =
    ap (λ (k : Kept). kept_from k.last k.bits xs) (push_breaks 17 0 x (le-ltb 17 x (omega (arith, h.0.high)))) ∙ stuck xs h.1

-- while a list rises its bits are kept, each beside those before it
kept_is : (l b : ℕ) (xs : List ℕ) → b < 2 ^ l → Each Small xs → kept_from l b xs ≡ cond (rising_from l xs) (record { last = last_or l xs; bits = b + bits xs }) broken
kept_is l b [] w h = ap (λ n. record { last = l; bits = n }) (sym (add-zero b))
kept_is l b (x ∷ xs) w h = go (ltb l x) refl (λ g. kept_is x (b + 2 ^ (x - 1)) xs (bit_above l b x w g) h.1)
  where
    go : (c : Bool) → ltb l x ≡ c → (l < x → kept_from x (b + 2 ^ (x - 1)) xs ≡ cond (rising_from x xs) (record { last = last_or x xs; bits = b + 2 ^ (x - 1) + bits xs }) broken)
        → kept_from l b (x ∷ xs) ≡ cond (ltb l x && rising_from x xs) (record { last = last_or x xs; bits = b + (2 ^ (x - 1) + bits xs) }) broken
    go true e i =
        let g : l < x = ltb-true l x e in
        ap (λ (k : Kept). kept_from k.last k.bits xs) (push_rises l b x w g h.0.high) ∙ i g
        ∙ ap (λ n. cond (rising_from x xs) (record { last = last_or x xs; bits = n }) broken) (add_assoc b (2 ^ (x - 1)) (bits xs))
        ∙ ap (λ c. cond (c && rising_from x xs) (record { last = last_or x xs; bits = b + (2 ^ (x - 1) + bits xs) }) broken) (sym e)
    go false e i =
        ap (λ (k : Kept). kept_from k.last k.bits xs) (push_breaks l b x e) ∙ stuck xs h.1
        ∙ ap (λ c. cond (c && rising_from x xs) (record { last = last_or x xs; bits = b + (2 ^ (x - 1) + bits xs) }) broken) (sym e)

-- the last number put on gives the list as a record keeps it
pub kept_list : (l : Values) → ValuesOk l → (push_of (kept l.firsts).last (kept l.firsts).bits l.final).bits ≡ list_of l
unfolding list_of
kept_list l h =
    ap (λ (k : Kept). k.bits) (sym (kept_snoc 0 0 l.firsts l.final) ∙ kept_is 0 0 (numbers l) (pow_pos 0) (Each_snoc Small l.firsts l.final h.firsts h.final))
    ∙ choose (rising l)
  where
    choose : (c : Bool) → (cond c (record { last = last_or 0 (numbers l); bits = 0 + bits (numbers l) }) broken).bits ≡ cond c (bits (numbers l)) 0
    choose true = omega arith
    choose false = refl
