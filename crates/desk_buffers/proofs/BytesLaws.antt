-- Laws of bytes that are filled, put in and summed, a byte at a time.
use Rattle.std.proofs.Common.{◌≡◌, ℕ, suc, ◌+◌, ◌-◌, ◌*◌, ◌%◌, ◌<◌, ◌≤◌, min, Bool, true, false, leb, List, [], ◌∷◌, ◌++◌, sym, ap, subst, ◌∙◌, length, length-set, length-take, get_or, take, drop, set, refl, add-one, arith, drop_of_length-le, take_all, drop-cons, leb-false, leb-true}
use lib.Seq.{take-length, sets-eq, set_out}
use Rattle.commands.specs.Words.{byte_at}
use Rattle.desk_buffers.specs.Bytes.{filled, put_at, said, modulus, adler_from}

-- the first bytes of p, as many as l has from i on, are all that count
sets_take : (p l : List ℕ) (i : ℕ) → put_at i (take (length l - i) p) l ≡ put_at i p l
sets_take [] l i = ap (λ q. put_at i q l) (take_all (length l - i) [] (omega arith))
sets_take (b ∷ p) l i = step (leb (length l) i) refl (sets_take p (set l i b) (suc i))
  where
    Rest : ℕ → Type 0
    Rest k = put_at (suc i) (take k p) (set l i b) ≡ put_at (suc i) p (set l i b)

    kept : (k : ℕ) → k ≡ length l - suc i → Rest (length (set l i b) - suc i) → Rest k
    kept k e r = let f : k ≡ length (set l i b) - suc i = e ∙ ap (λ n. n - suc i) (sym (length-set l i b)) in subst Rest (sym f) r

    step : (t : Bool) → leb (length l) i ≡ t → Rest (length (set l i b) - suc i) → put_at i (take (length l - i) (b ∷ p)) l ≡ put_at i (b ∷ p) l
    step true h r =
        let g : length l ≤ i = leb-true _ _ h in
        let e : length l - i ≡ 0 = omega arith in
        rw e (sym (set_out l i b g) ∙ kept 0 (omega arith) r)
    step false h r =
        let g : i < length l = leb-false _ _ h in
        let e : length l - i ≡ suc (length l - suc i) = omega arith in
        rw e (kept (length l - suc i) refl r)

pub filled_next : (end i v : ℕ) (l : List ℕ) → i < end → filled (end - i) i v l ≡ filled (end - (i + 1)) (i + 1) v (set l i v)
unfolding filled
filled_next end i v l h = let e : end - i ≡ suc (end - (i + 1)) = omega arith in rw e

pub filled_end : (end i v : ℕ) (l : List ℕ) → end ≤ i → filled (end - i) i v l ≡ l
unfolding filled
filled_end end i v l h = let e : end - i ≡ 0 = omega arith in rw e

pub said_next : (w : List ℕ) (n i j : ℕ) (l : List ℕ) → i < n → put_at j (said w (n - i) i) l ≡ put_at (j + 1) (said w (n - (i + 1)) (i + 1)) (set l j (byte_at w i))
unfolding said
said_next w n i j l h = let e : n - i ≡ suc (n - (i + 1)) = omega arith in rw (e, add-one j)

pub said_end : (w : List ℕ) (n i j : ℕ) (l : List ℕ) → n ≤ i → put_at j (said w (n - i) i) l ≡ l
unfolding said
said_end w n i j l h = let e : n - i ≡ 0 = omega arith in rw e

pub adler_next : (a b i : ℕ) (l : List ℕ) → i < length l →
    adler_from a b (drop i l) ≡ adler_from ((a + get_or l i 0) % modulus) ((b + (a + get_or l i 0) % modulus) % modulus) (drop (i + 1) l)
unfolding adler_from
adler_next a b i l h = rw (add-one i, drop-cons l i 0 h)

pub adler_end : (a b i : ℕ) (l : List ℕ) → length l ≤ i → adler_from a b (drop i l) ≡ b * 65536 + a
unfolding adler_from
adler_end a b i l h = rw (drop_of_length-le l {i = i} h)

pub said_begin : (w : List ℕ) (n j : ℕ) (l : List ℕ) → put_at (j + 0) (said w (n - 0) 0) l ≡ put_at j (said w n 0) l
said_begin w n j l = let e : j + 0 ≡ j = omega arith in let f : n - 0 ≡ n = omega arith in rw (e, f)

-- a buffer's bytes within n, and those beyond: m is n, or the length
module _ (n m : ℕ) (l : List ℕ) (e : m ≡ min n (length l)) where
  within_is : (P : ℕ → Type 0) → P n → (length l ≤ n → P (length l)) → P m
  within_is P p q = step (leb n (length l)) refl
    where
      step : (t : Bool) → leb n (length l) ≡ t → P m
      step true h = let g : n ≤ length l = leb-true _ _ h in let f : m ≡ n = omega arith in rw f p
      step false h = let g : length l < n = leb-false _ _ h in let f : m ≡ length l = omega arith in rw f (q (omega arith))

  pub within_take : take m l ≡ take n l
  within_take = within_is (λ k. take k l ≡ take n l) refl (λ h. rw (take-length l, take_all n l h))

  pub within_drop : drop m l ≡ drop n l
  within_drop = within_is (λ k. drop k l ≡ drop n l) refl (λ h. rw (drop_of_length-le l {i = length l} (omega arith), drop_of_length-le l {i = n} h))

-- the bytes of p that l has place for, put in at once
pub copied : (p l : List ℕ) (n : ℕ) → n ≡ min (length p) (length l) → take n p ++ drop n l ≡ put_at 0 p l
copied p l n e =
    let f : n ≡ min (length l - 0) (length p) = omega arith in
    let g : 0 + length (take n p) ≡ n = omega (arith, length-take n p) in
    sym (sets-eq (take n p) l 0 (omega arith) ∙ ap (λ k. take n p ++ drop k l) g) ∙ ap (λ q. put_at 0 q l) (within_take (length l - 0) n p f) ∙ sets_take p l 0
