-- What a state of the machine has read, and that each step reads one byte more. Assumes nothing.
use mathlib.Core.Path.{◌≡◌, refl, sym, ap, ap₂, ◌∙◌}
use mathlib.Core.Logic.{◌⊎◌, inl, inr}
use mathlib.Core.Bool.{◌&&◌}
use mathlib.Core.List.{List, [], ◌∷◌, ◌++◌, append_assoc, append-nil}
use Prim.Native.Nat.{ℕ, zero, suc, ◌+◌, ◌-◌, ◌*◌, ◌/◌, ◌%◌, ◌≤◌, ◌<◌}
use native.Mathlib.Omega.{arith}
use lib.Dec.{T, leb, ltb, eqb, leb→le, ltb→lt, eqb→eq, nltb→le, lt→ltb, not_T}
use lib.ListN.{length, get_or, take, length-append}
use lib.Seq.{take-suc, take_all}
use Rattle.sheet_form.specs.Form.{Line, Sheet, each, Each, decimal, with_comma, values_text, kind_text, line_text, set_text, sheet_text, Small, ValuesOk, LineOk, NameOk}
use Rattle.tasks.specs.Sets.{name_byte}
use Rattle.sheet_form.specs.Machine.{Word, opening, kind, Field, deadline, runs, gaps, State, word, name, line, field, fault, spell, after, ender, many, close, digit, step}
use Rattle.arena.proofs.Tests.{T_true, T_false, and_left, and_right, by_cond}
use Rattle.sheet_form.proofs.Tests.{each_snoc, Each_snoc}

-- the digits of a number begun
abbrev pub begun : ℕ → List ℕ
begun zero = []
begun (suc n) = decimal (suc n)

abbrev pub before : Word → List ℕ
before opening = []
before (kind s h) = sheet_text s

abbrev pub till : Field → List ℕ
till (deadline s h) = sheet_text s ++ kind_text h
till (runs s h d) = sheet_text s ++ kind_text h ++ decimal d ++ (32 ∷ [])
till (gaps s h d c) = sheet_text s ++ kind_text h ++ decimal d ++ (32 ∷ []) ++ values_text c ++ (32 ∷ [])

abbrev pub shown : State → List ℕ
shown (word w k) = before w ++ take k (spell w)
shown (name n) = set_text ++ n
shown (line s) = sheet_text s
shown (field f xs v) = till f ++ (each with_comma xs ++ begun v)
shown fault = []

-- what holds of a sheet with room for a line
pub record Room (s : Sheet) : Type 0 where
  pub name : NameOk s.name
  pub lines : Each LineOk s.lines
  pub high : length s.lines < 7

abbrev pub WordOk : Word → Type 0
WordOk opening = Unit {0}
WordOk (kind s h) = Room s

abbrev pub FieldOk : Field → Type 0
FieldOk (deadline s h) = Room s
FieldOk (runs s h d) = Room s × Small d
FieldOk (gaps s h d c) = Room s × Small d × ValuesOk c

abbrev pub none : List ℕ → Type 0
none xs = xs ≡ []

abbrev pub single : Field → List ℕ → Type 0
single (deadline s h) xs = none xs
single (runs s h d) xs = Unit {0}
single (gaps s h d c) xs = Unit {0}

abbrev pub Ok : State → Type 0
Ok (word w k) = WordOk w × (k < length (spell w))
Ok (name n) = Each (λ b. T (name_byte b)) n × (length n ≤ 16)
Ok (line s) = NameOk s.name × Each LineOk s.lines × (length s.lines ≤ 7)
Ok (field f xs v) = FieldOk f × single f xs × Each Small xs × (v ≤ 16)
Ok fault = ⊥

-- s has read t, or t has a fault
abbrev pub Reads : List ℕ → State → Type 0
Reads t s = (s ≡ fault) ⊎ (Ok s × (shown s ≡ t))

at_byte : (t : List ℕ) (b c : ℕ) → T (eqb b c) → t ++ (c ∷ []) ≡ t ++ (b ∷ [])
at_byte t b c e = ap (λ x. t ++ (x ∷ [])) (sym (eqb→eq b c e))

pub after_shown : (w : Word) → shown (after w) ≡ before w ++ spell w
after_shown opening = refl
after_shown (kind s h) = append-nil _

pub after_ok : (w : Word) → WordOk w → Ok (after w)
after_ok opening o = (tt, omega arith)
after_ok (kind s h) o = (o, refl, tt, omega arith)

word_reads : (w : Word) (k b : ℕ) → WordOk w → k < length (spell w) → Reads (shown (word w k) ++ (b ∷ [])) (step (word w k) b)
unfolding step
word_reads w k b o h =
    by_cond R (eqb b (get_or (spell w) k 0)) _ _
    (λ e. by_cond R (ltb (suc k) (length (spell w))) _ _
    (λ l. inr ((o, ltb→lt (suc k) (length (spell w)) l), one e))
    (λ l. inr (after_ok w o, after_shown w ∙ ap (λ x. before w ++ x) (sym (take_all (suc k) (spell w) (nltb→le (suc k) (length (spell w)) l))) ∙ one e)))
    (λ n. inl refl)
  where
    R : State → Type 0
    R = Reads (shown (word w k) ++ (b ∷ []))

    one : T (eqb b (get_or (spell w) k 0)) → before w ++ take (suc k) (spell w) ≡ before w ++ take k (spell w) ++ (b ∷ [])
    one e = ap (λ x. before w ++ x) (take-suc (spell w) k 0 h) ∙ sym (append_assoc (before w) (take k (spell w)) _) ∙ at_byte (before w ++ take k (spell w)) b _ e

name_reads : (n : List ℕ) (b : ℕ) → Ok (name n) → Reads (shown (name n) ++ (b ∷ [])) (step (name n) b)
unfolding step
name_reads n b o =
    by_cond R (name_byte b) _ _
    (λ c. by_cond R (ltb (length n) 16) _ _
    (λ l. inr ((Each_snoc _ n b o.0 c, omega (arith, length-append n (b ∷ []), ltb→lt (length n) 16 l)), refl))
    (λ l. inl refl))
    (λ c. by_cond R (ltb 0 (length n) && eqb b 10) _ _
    (λ l. inr ((record { bytes = o.0; low = ltb→lt 0 (length n) (and_left (ltb 0 (length n)) _ l); high = o.1 }, tt, omega arith), append-nil (set_text ++ n ++ (10 ∷ [])) ∙ at_byte (set_text ++ n) b 10 (and_right (ltb 0 (length n)) _ l)))
    (λ l. inl refl))
  where
    R : State → Type 0
    R = Reads (shown (name n) ++ (b ∷ []))

line_reads : (s : Sheet) (b : ℕ) → Ok (line s) → Reads (sheet_text s ++ (b ∷ [])) (step (line s) b)
unfolding step
line_reads s b o =
    by_cond R (ltb (length s.lines) 7) _ _
    (λ r. by_cond R (eqb b 104) _ _
    (λ e. inr ((room r, omega arith), at_byte (sheet_text s) b 104 e))
    (λ n. by_cond R (eqb b 115) _ _
    (λ e. inr ((room r, omega arith), at_byte (sheet_text s) b 115 e))
    (λ m. inl refl)))
    (λ n. inl refl)
  where
    R : State → Type 0
    R = Reads (sheet_text s ++ (b ∷ []))

    room : T (ltb (length s.lines) 7) → Room s
    room r = record { name = o.0; lines = o.1; high = ltb→lt (length s.lines) 7 r }

pub decimal_low : (v : ℕ) → v < 10 → decimal v ≡ (48 + v) ∷ []
unfolding decimal
decimal_low v h = rw (T_true (ltb v 10) (lt→ltb v 10 h)) refl

pub decimal_high : (v : ℕ) → 10 ≤ v → decimal v ≡ (48 + v / 10) ∷ (48 + v % 10) ∷ []
unfolding decimal
decimal_high v h = rw (T_false (ltb v 10) (not_T (ltb v 10) (λ t. let l : v < 10 = ltb→lt v 10 t in omega arith))) refl

begun_decimal : (v : ℕ) → 0 < v → begun v ≡ decimal v
begun_decimal zero h = let z : ⊥ = omega arith in absurd z
begun_decimal (suc n) h = refl

digit_begun : (v b : ℕ) → 48 ≤ b → b ≤ 57 → 10 * v + (b - 48) ≤ 16 → 0 < 10 * v + (b - 48) → begun (10 * v + (b - 48)) ≡ begun v ++ (b ∷ [])
digit_begun zero b p q r h = begun_decimal _ h ∙ decimal_low _ (omega arith) ∙ ap (λ x. x ∷ []) (omega arith)
digit_begun (suc n) b p q r h =
    begun_decimal _ h ∙ decimal_high _ (omega arith) ∙ ap₂ (λ x y. x ∷ y ∷ []) (omega arith) (omega arith)
    ∙ sym (ap (λ l. l ++ (b ∷ [])) (decimal_low (suc n) (omega arith)))

digit_shown : (v b : ℕ) → 0 < digit v b → (digit v b ≤ 16) × (begun (digit v b) ≡ begun v ++ (b ∷ []))
unfolding digit
digit_shown v b =
    by_cond (λ n. 0 < n → (n ≤ 16) × (begun n ≡ begun v ++ (b ∷ []))) (leb 48 b && leb b 57 && leb (10 * v + (b - 48)) 16) _ _
    (λ t p. let u = and_left (leb 48 b && leb b 57) _ t in let m = leb→le (10 * v + (b - 48)) 16 (and_right (leb 48 b && leb b 57) _ t) in
    (m, digit_begun v b (leb→le 48 b (and_left (leb 48 b) _ u)) (leb→le b 57 (and_right (leb 48 b) _ u)) m p))
    (λ t p. let z : ⊥ = omega arith in absurd z)

regroup : (x e k d r g : List ℕ)
    → x ++ (e ++ (k ++ d ++ (32 ∷ []) ++ r ++ (32 ∷ []) ++ g ++ (10 ∷ []))) ≡ x ++ e ++ k ++ d ++ (32 ∷ []) ++ r ++ (32 ∷ []) ++ g ++ (10 ∷ [])
regroup x e k d r g = simp append_assoc

pub close_reads : (f : Field) (xs : List ℕ) (v b : ℕ) → Ok (field f xs v) → 0 < v → T (eqb b (ender f))
    → Ok (close f xs v) × (shown (close f xs v) ≡ shown (field f xs v) ++ (b ∷ []))
unfolding values_text line_text
close_reads (deadline s h) xs (suc n) b o p e = (
  ((o.0, record { low = omega arith; high = o.3 }), tt, tt, omega arith),
  append-nil _ ∙ ap (λ l. sheet_text s ++ kind_text h ++ (each with_comma l ++ decimal (suc n)) ++ (32 ∷ [])) (sym o.1)
      ∙ at_byte (shown (field (deadline s h) xs (suc n))) b 32 e,
)
close_reads (runs s h d) xs (suc n) b o p e = (
  ((o.0.0, o.0.1, record { firsts = o.2; final = record { low = omega arith; high = o.3 } }), tt, tt, omega arith),
  append-nil _ ∙ at_byte (shown (field (runs s h d) xs (suc n))) b 32 e,
)
close_reads (gaps s h d c) xs (suc n) b o p e =
    let l : Line = record { hard = h; deadline = d; runs = c; gaps = record { firsts = xs; final = suc n } } in
    let ok : LineOk l = record { deadline = o.0.1; runs = o.0.2; gaps = record { firsts = o.2; final = record { low = omega arith; high = o.3 } } } in (
      (o.0.0.name, Each_snoc LineOk s.lines l o.0.0.lines ok, omega (arith, length-append s.lines (l ∷ []), o.0.0.high)),
      ap (λ t. set_text ++ s.name ++ (10 ∷ []) ++ t) (each_snoc line_text s.lines l)
          ∙ regroup (set_text ++ s.name ++ (10 ∷ [])) (each line_text s.lines) (kind_text h) (decimal d) (values_text c) (each with_comma xs ++ decimal (suc n))
          ∙ at_byte (till (gaps s h d c) ++ (each with_comma xs ++ decimal (suc n))) b 10 e,
    )
close_reads f xs zero b o p e = let z : ⊥ = omega arith in absurd z

field_reads : (f : Field) (xs : List ℕ) (v b : ℕ) → Ok (field f xs v) → Reads (shown (field f xs v) ++ (b ∷ [])) (step (field f xs v) b)
unfolding step
field_reads f xs v b o =
    by_cond R (ltb 0 (digit v b)) (field f xs (digit v b)) _
    (λ d. let g = digit_shown v b (ltb→lt 0 (digit v b) d) in inr ((o.0, o.1, o.2, g.0), ap (λ l. till f ++ (each with_comma xs ++ l)) g.1 ∙ grown (begun v)))
    (λ d. by_cond R (ltb 0 v) _ _
    (λ p. by_cond R (eqb b (ender f)) _ _ (λ e. inr (close_reads f xs v b o (ltb→lt 0 v p) e))
    (λ n. by_cond R (many f && eqb b 44) (field f (xs ++ (v ∷ [])) 0) _ (λ e. inr (
      (o.0, several f (and_left (many f) _ e), Each_snoc Small xs v o.2 (record { low = ltb→lt 0 v p; high = o.3 }), omega arith),
      comma p (eqb→eq b 44 (and_right (many f) _ e)),
    )) (λ m. inl refl)))
    (λ p. inl refl))
  where
    R : State → Type 0
    R = Reads (shown (field f xs v) ++ (b ∷ []))

    grown : (t : List ℕ) → till f ++ (each with_comma xs ++ (t ++ (b ∷ []))) ≡ till f ++ (each with_comma xs ++ t) ++ (b ∷ [])
    grown t = simp append_assoc

    comma : T (ltb 0 v) → b ≡ 44 → till f ++ (each with_comma (xs ++ (v ∷ [])) ++ []) ≡ till f ++ (each with_comma xs ++ begun v) ++ (b ∷ [])
    comma p e = rw (append-nil, each_snoc, begun_decimal v (ltb→lt 0 v p), e) (simp append_assoc)

    several : (g : Field) → T (many g) → single g (xs ++ (v ∷ []))
    several (deadline s h) t = absurd t
    several (runs s h d) t = tt
    several (gaps s h d c) t = tt

-- each step reads one byte more, or faults
pub step_reads : (s : State) (b : ℕ) → Ok s → Reads (shown s ++ (b ∷ [])) (step s b)
step_reads (word w k) b o = word_reads w k b o.0 o.1
step_reads (name n) b o = name_reads n b o
step_reads (line s) b o = line_reads s b o
step_reads (field f xs v) b o = field_reads f xs v b o
step_reads fault b o = absurd o
