-- Every sheet takes the machine from its start to that very sheet. Assumes nothing.
use mathlib.Core.Path.{◌≡◌, refl, sym, ap, ◌∙◌, subst}
use mathlib.Core.Logic.{⊎_elim}
use mathlib.Core.Bool.{Bool, true, false}
use mathlib.Core.List.{List, [], ◌∷◌, ◌++◌, append_assoc, append-nil}
use Prim.Native.Nat.{ℕ, ◌+◌, ◌-◌, ◌*◌, ◌/◌, ◌%◌, ◌≤◌, ◌<◌}
use native.Mathlib.Omega.{arith}
use lib.Dec.{T, leb, ltb, lt→ltb, le→leb}
use lib.ListN.{length, length-append}
use Rattle.sheet_form.specs.Form.{Values, Line, Sheet, each, Each, decimal, with_comma, values_text, kind_text, line_text, set_text, sheet_text, Small, ValuesOk, LineOk, Formed}
use Rattle.tasks.specs.Sets.{name_byte}
use Rattle.sheet_form.specs.Machine.{Field, deadline, runs, gaps, State, name, line, field, ender, many, add, close, digit, step, run, start}
use Rattle.arena.proofs.Tests.{T_true, lt_or_le}
use Rattle.sheet_form.proofs.Shown.{decimal_low, decimal_high}

pub run_append : (s : State) (t u : List ℕ) → run s (t ++ u) ≡ run (run s t) u
run_append s [] u = refl
run_append s (b ∷ t) u = run_append (step s b) t u

pub record RunsTo (s : State) (t : List ℕ) (r : State) : Type 0 where
  pub ends : run s t ≡ r

then : {s r q : State} {t u : List ℕ} → RunsTo s t r → RunsTo r u q → RunsTo s (t ++ u) q
then {s} {r} {q} {t} {u} h k = record { ends = run_append s t u ∙ ap (λ x. run x u) h.ends ∙ k.ends }

one : {s r : State} {b : ℕ} → step s b ≡ r → RunsTo s (b ∷ []) r
one e = record { ends = e }

same : {s r : State} {t u : List ℕ} → u ≡ t → RunsTo s t r → RunsTo s u r
same {s} {r} e h = record { ends = ap (λ x. run s x) e ∙ h.ends }

name_byte_lem : (n : List ℕ) (b : ℕ) → T (name_byte b) → length n < 16 → step (name n) b ≡ name (n ++ (b ∷ []))
unfolding step
name_byte_lem n b t h = rw (T_true (name_byte b) t, T_true (ltb (length n) 16) (lt→ltb (length n) 16 h)) refl

name_run : (n m : List ℕ) → Each (λ b. T (name_byte b)) m → length n + length m ≤ 16 → run (name n) m ≡ name (n ++ m)
name_run n [] h l = ap name (sym (append-nil n))
name_run n (b ∷ m) h l =
    ap (λ s. run s m) (name_byte_lem n b h.0 (omega arith))
    ∙ name_run (n ++ (b ∷ [])) m h.1 (omega (arith, length-append n (b ∷ [])))
    ∙ ap name (append_assoc n (b ∷ []) m)

name_end : (n : List ℕ) → 1 ≤ length n → step (name n) 10 ≡ line (record { name = n; lines = [] })
unfolding step name_byte
name_end n h = rw (T_true (ltb 0 (length n)) (lt→ltb 0 (length n) h)) refl

digit_value : (v b n : ℕ) → 48 ≤ b → b ≤ 57 → n ≤ 16 → n ≡ 10 * v + (b - 48) → digit v b ≡ n
unfolding digit
digit_value v b n p q r e =
    rw (T_true (leb 48 b) (le→leb 48 b p), T_true (leb b 57) (le→leb b 57 q), ← e, T_true (leb n 16) (le→leb n 16 r)) refl

field_digit : (f : Field) (xs : List ℕ) (v b n : ℕ) → 48 ≤ b → b ≤ 57 → n ≤ 16 → 0 < n → n ≡ 10 * v + (b - 48) → step (field f xs v) b ≡ field f xs n
unfolding step
field_digit f xs v b n p q r z e = rw (digit_value v b n p q r e, T_true (ltb 0 n) (lt→ltb 0 n z)) refl

number_run : (f : Field) (xs : List ℕ) (v : ℕ) → Small v → RunsTo (field f xs 0) (decimal v) (field f xs v)
number_run f xs v h =
    ⊎_elim
    (λ l. same (decimal_low v l) (one (field_digit f xs 0 (48 + v) v (omega arith) (omega arith) h.high h.low (omega arith))))
    (λ l. same (decimal_high v l)
    (then (one (field_digit f xs 0 (48 + v / 10) (v / 10) (omega arith) (omega arith) (omega arith) (omega arith) (omega arith)))
    (one (field_digit f xs (v / 10) (48 + v % 10) v (omega arith) (omega arith) h.high h.low (omega arith)))))
    (lt_or_le v 10)

comma_run : (f : Field) (xs : List ℕ) (v : ℕ) → T (many f) → 1 ≤ v → step (field f xs v) 44 ≡ field f (xs ++ (v ∷ [])) 0
unfolding step digit
comma_run (deadline s h) xs v t p = absurd t
comma_run (runs s h d) xs v t p = rw (T_true (ltb 0 v) (lt→ltb 0 v p)) refl
comma_run (gaps s h d c) xs v t p = rw (T_true (ltb 0 v) (lt→ltb 0 v p)) refl

close_run : (f : Field) (xs : List ℕ) (v : ℕ) → 1 ≤ v → step (field f xs v) (ender f) ≡ close f xs v
unfolding step digit
close_run (deadline s h) xs v p = rw (T_true (ltb 0 v) (lt→ltb 0 v p)) refl
close_run (runs s h d) xs v p = rw (T_true (ltb 0 v) (lt→ltb 0 v p)) refl
close_run (gaps s h d c) xs v p = rw (T_true (ltb 0 v) (lt→ltb 0 v p)) refl

firsts_run : (f : Field) (ys xs : List ℕ) → T (many f) → Each Small xs → RunsTo (field f ys 0) (each with_comma xs) (field f (ys ++ xs) 0)
firsts_run f ys [] t h = record { ends = ap (λ l. field f l 0) (sym (append-nil ys)) }
firsts_run f ys (x ∷ xs) t h =
    subst (λ l. RunsTo (field f ys 0) (each with_comma (x ∷ xs)) (field f l 0)) (append_assoc ys (x ∷ []) xs)
    (then (then (number_run f ys x h.0) (one (comma_run f ys x t h.0.low))) (firsts_run f (ys ++ (x ∷ [])) xs t h.1))

values_run : (f : Field) (l : Values) → T (many f) → ValuesOk l → RunsTo (field f [] 0) (values_text l) (field f l.firsts l.final)
unfolding values_text
values_run f l t h = then (firsts_run f [] l.firsts t h.firsts) (number_run f l.firsts l.final h.final)

kind_run : (s : Sheet) (h : Bool) → length s.lines < 7 → RunsTo (line s) (kind_text h) (field (deadline s h) [] 0)
unfolding step
kind_run s true r = record { ends = rw (T_true (ltb (length s.lines) 7) (lt→ltb (length s.lines) 7 r)) refl }
kind_run s false r = record { ends = rw (T_true (ltb (length s.lines) 7) (lt→ltb (length s.lines) 7 r)) refl }

line_run : (s : Sheet) (l : Line) → length s.lines < 7 → LineOk l → RunsTo (line s) (line_text l) (line (add s l))
unfolding line_text
line_run s l r h =
    then (then (then (then (then (then (kind_run s l.hard r)
    (number_run (deadline s l.hard) [] l.deadline h.deadline)) (one (close_run (deadline s l.hard) [] l.deadline h.deadline.low)))
    (values_run (runs s l.hard l.deadline) l.runs tt h.runs)) (one (close_run (runs s l.hard l.deadline) l.runs.firsts l.runs.final h.runs.final.low)))
    (values_run (gaps s l.hard l.deadline l.runs) l.gaps tt h.gaps))
    (one (close_run (gaps s l.hard l.deadline l.runs) l.gaps.firsts l.gaps.final h.gaps.final.low))

lines_run : (s : Sheet) (ls : List Line) → Each LineOk ls → length s.lines + length ls ≤ 7
    → RunsTo (line s) (each line_text ls) (line (record { name = s.name; lines = s.lines ++ ls }))
lines_run s [] h r = record { ends = ap (λ l. line (record { name = s.name; lines = l })) (sym (append-nil s.lines)) }
lines_run s (l ∷ ls) h r =
    subst (λ m. RunsTo (line s) (each line_text (l ∷ ls)) (line (record { name = s.name; lines = m }))) (append_assoc s.lines (l ∷ []) ls)
    (then (line_run s l (omega arith) h.0) (lines_run (add s l) ls h.1 (omega (arith, length-append s.lines (l ∷ [])))))

-- every sheet's text takes the machine from its start to that very sheet
pub whole : (s : Sheet) → Formed s → run start (sheet_text s) ≡ line s
unfolding step
whole s h =
    (then (then (then opened named) (one (name_end s.name h.name.low)))
    (lines_run (record { name = s.name; lines = [] }) s.lines h.lines (omega (arith, h.high)))).ends
  where
    named : RunsTo (name []) s.name (name s.name)
    named = record { ends = name_run [] s.name h.name.bytes (omega (arith, h.name.high)) }

    opened : RunsTo start set_text (name [])
    opened = record { ends = refl }
