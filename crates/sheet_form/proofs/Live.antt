-- Every good state has read a beginning of some sheet. Assumes nothing.
use mathlib.Core.Path.{◌≡◌, refl, sym, ap, ◌∙◌, subst}
use mathlib.Core.Bool.{Bool, true}
use mathlib.Core.List.{List, [], ◌∷◌, ◌++◌, append_assoc, append-nil}
use Prim.Native.Nat.{ℕ, zero, suc, ◌≤◌}
use native.Mathlib.Omega.{arith}
use lib.Dec.{eqb_refl}
use lib.ListN.{length, take, drop, length-append, take-append-drop}
use Rattle.sheet_form.specs.Form.{Values, Line, Sheet, each, decimal, with_comma, kind_text, set_text, sheet_text, Member, Begins}
use Rattle.tasks.specs.Sets.{name_byte}
use Rattle.sheet_form.specs.Machine.{Word, opening, kind, Field, deadline, runs, gaps, State, word, name, line, field, fault, spell, after, ender, add, close}
use Rattle.sheet_form.proofs.Shown.{shown, Ok, before, till, after_shown, after_ok, close_reads}

-- a beginning of a beginning
pub back : {t : List ℕ} (u w : List ℕ) → t ≡ u ++ w → Begins t → Begins u
back u w e g = record { rest = w ++ g.rest; member = subst Member (ap (λ x. x ++ g.rest) e ∙ append_assoc u w g.rest) g.member }

full : (s : Sheet) → Ok (line s) → 1 ≤ length s.lines → Begins (sheet_text s)
full s o h = record { rest = []; member = record { sheet = s; formed = record { name = o.0; lines = o.1; low = h; high = omega (arith, o.2) }; text = sym (append-nil (sheet_text s)) } }

full_add : (s : Sheet) (l : Line) → Ok (line (add s l)) → Begins (sheet_text (add s l))
full_add s l o = full (add s l) o (omega (arith, length-append s.lines (l ∷ [])))

-- a field is completed once a number stands in it
begun_live : (f : Field) → ((xs : List ℕ) (n : ℕ) → Ok (field f xs (suc n)) → Begins (shown (field f xs (suc n)))) → (xs : List ℕ) (v : ℕ) → Ok (field f xs v) → Begins (shown (field f xs v))
unfolding decimal
begun_live f g xs (suc n) o = g xs n o
begun_live f g xs zero o = back (shown (field f xs 0)) (49 ∷ []) one (g xs 0 (o.0, o.1, o.2, omega arith))
  where
    one : shown (field f xs 1) ≡ shown (field f xs 0) ++ (49 ∷ [])
    one = rw append-nil (sym (append_assoc (till f) (each with_comma xs) (49 ∷ [])))

close_live : (f : Field) (xs : List ℕ) (n : ℕ) → Ok (field f xs (suc n)) → (Ok (close f xs (suc n)) → Begins (shown (close f xs (suc n)))) → Begins (shown (field f xs (suc n)))
close_live f xs n o g =
    let r = close_reads f xs (suc n) (ender f) o (omega arith) (eqb_refl (ender f)) in
    back (shown (field f xs (suc n))) (ender f ∷ []) r.1 (g r.0)

gaps_live : (s : Sheet) (h : Bool) (d : ℕ) (c : Values) (xs : List ℕ) (v : ℕ) → Ok (field (gaps s h d c) xs v) → Begins (shown (field (gaps s h d c) xs v))
gaps_live s h d c =
    begun_live (gaps s h d c) (λ xs n o. close_live (gaps s h d c) xs n o (full_add s _))

runs_live : (s : Sheet) (h : Bool) (d : ℕ) (xs : List ℕ) (v : ℕ) → Ok (field (runs s h d) xs v) → Begins (shown (field (runs s h d) xs v))
runs_live s h d = begun_live (runs s h d) (λ xs n o. close_live (runs s h d) xs n o (gaps_live s h d _ [] 0))

deadline_live : (s : Sheet) (h : Bool) (xs : List ℕ) (v : ℕ) → Ok (field (deadline s h) xs v) → Begins (shown (field (deadline s h) xs v))
deadline_live s h = begun_live (deadline s h) (λ xs n o. close_live (deadline s h) xs n o (runs_live s h _ [] 0))

line_live : (s : Sheet) → Ok (line s) → Begins (sheet_text s)
line_live s o = go (length s.lines) refl
  where
    go : (n : ℕ) → length s.lines ≡ n → Begins (sheet_text s)
    go zero e = back (sheet_text s) (kind_text true) (append-nil _) (deadline_live s true [] 0 (record { name = o.0; lines = o.1; high = omega arith }, refl, tt, omega arith))
    go (suc n) e = full s o (omega arith)

name_live : (b : ℕ) (n : List ℕ) → Ok (name (b ∷ n)) → Begins (set_text ++ (b ∷ n))
name_live b n o = back (set_text ++ (b ∷ n)) (10 ∷ []) (append-nil _) (line_live (record { name = b ∷ n; lines = [] }) (record { bytes = o.0; low = omega arith; high = o.1 }, tt, omega arith))

names_live : (n : List ℕ) → Ok (name n) → Begins (set_text ++ n)
unfolding name_byte
names_live [] o = back set_text (65 ∷ []) refl (name_live 65 [] ((tt, tt), omega arith))
names_live (b ∷ n) o = name_live b n o

word_live : (w : Word) (k : ℕ) → Ok (word w k) → Begins (shown (after w)) → Begins (shown (word w k))
word_live w k o g =
    back (shown (word w k)) (drop k (spell w)) (after_shown w ∙ ap (λ l. before w ++ l) (sym (take-append-drop k (spell w))) ∙ sym (append_assoc (before w) (take k (spell w)) (drop k (spell w)))) g

-- every state that the machine can be in has read the beginning of a sheet
pub live : (s : State) → Ok s → Begins (shown s)
live (word opening k) o = word_live opening k o (names_live [] (tt, omega arith))
live (word (kind s h) k) o = word_live (kind s h) k o (deadline_live s h [] 0 (after_ok (kind s h) o.0))
live (name n) o = names_live n o
live (line s) o = line_live s o
live (field (deadline s h) xs v) o = deadline_live s h xs v o
live (field (runs s h d) xs v) o = runs_live s h d xs v o
live (field (gaps s h d c) xs v) o = gaps_live s h d c xs v o
live fault o = absurd o
