-- The round trips, on what reading and writing ensure. Assumes nothing.
use mathlib.Core.Path.{◌≡◌, refl, sym, ap, ap₂, ◌∙◌}
use mathlib.Core.Bool.{Bool, true, false, cond}
use mathlib.Core.List.{List, [], ◌∷◌, ◌++◌}
use Prim.Native.Nat.{ℕ, ◌≤◌, ◌<◌}
use native.Mathlib.Omega.{arith}
use lib.Dec.{leb, ltb}
use lib.ListN.{length, get_or, take, drop}
use lib.Seq.{take_at}
use Rattle.tasks.specs.declared.sets.Set.{Set}
use Rattle.std.specs.Prelude.{Result, Ok, Err}
use Rattle.tasks.specs.declared.refusals.Refusal.{Refusal}
use Rattle.tasks.specs.Refusals.{answered, number_of, refusing, short, writing_numbers}
use Rattle.tasks.specs.Sets.{Sized, test_set}
use Rattle.sheet_form.specs.Form.{longest, Form, fits, stops, Member}
use Rattle.sheet_form.specs.Sets.{set_of, sheet_of, text_of}
use Rattle.sheet_form.proofs.Places.{form}
use Rattle.tasks.proofs.Numbers.{between}
use Rattle.tasks.proofs.Valid.{valid}
use Rattle.sheet_form.proofs.Trips.{text_back, sheet_formed, set_back}
use Rattle.sheet_form.proofs.Lengths.{sheet_short}
use Rattle.sheet_reader.specs.declared.SheetRead.{SheetRead}
use Rattle.sheet_reader.specs.Reading.{long_read, tested_read, form_read, read_text, set_values, said_read}
use Rattle.sheet_reader.proofs.Passes.{read_short}
use Rattle.sheet_reader.proofs.Readings.{read_taken}
use Rattle.sheet_writer.specs.Writing.{Written, leaving, placed, tested_write, write_of, said_wrote}
use Rattle.sheet_writer.proofs.Placed.{placed_short, placed_fits}
use Rattle.sheet.proofs.Numbers.{write_number}

-- a set that was taken
abbrev taken : Set → SheetRead
taken s = record { answer = Ok tt; set = s }

-- FIRST: READING WHAT WAS WRITTEN GIVES THE SET BACK

-- the sheet of a set that passes its test reads as that set
pub sheet_reads : (s : Set) (k : ℕ) → Sized s → test_set s ≡ Ok k → read_text (text_of s) ≡ taken s
sheet_reads s k z e =
    let v = (valid s k e).0 in
    let m : Member (text_of s) = record { sheet = sheet_of s; formed = sheet_formed s z.name v; text = refl } in
    read_short (text_of s) (sheet_short s z.name v) (fits m) ∙ ap (λ x. tested_read x (test_set x)) (set_back s z v) ∙ ap (tested_read s) e

-- where the writer answers a length, the set passes its test and that many bytes are its sheet
written : (s : Set) (b d : List ℕ) (n : ℕ) (r : Result ℕ Refusal) → leaving (Ok n) d ≡ tested_write s b r → (k : ℕ) × (r ≡ Ok k) × (take n d ≡ text_of s)
written s b d n (Ok k) e = (k, refl, go (leb (length (text_of s)) (length b)) e)
  where
    go : (c : Bool) → leaving (Ok n) d ≡ cond c (leaving (Ok (length (text_of s))) (text_of s ++ drop (length (text_of s)) b)) (leaving (Err (short (length (text_of s)))) b) → take n d ≡ text_of s
    go true e =
        let h = ap (λ (w : Written). w.answer) e in
        let p : n ≡ length (text_of s) = cc in
        let q : d ≡ text_of s ++ drop (length (text_of s)) b = ap (λ (w : Written). w.bytes) e in
        ap₂ take p q ∙ take_at (text_of s) (drop (length (text_of s)) b) (length (text_of s)) refl
    go false e = let h = ap (λ (w : Written). w.answer) e in cc
written s b d n (Err f) e = let h = ap (λ (w : Written). w.answer) e in cc

pub read_written : (s : Set) → Sized s → (b d : List ℕ) (n : ℕ) → leaving (Ok n) d ≡ write_of s b
    → (q : SheetRead) → q ≡ read_text (take n d) → q ≡ taken s
unfolding write_of
read_written s z b d n e q r =
    let w = written s b d n (test_set s) e in
    r ∙ ap read_text w.2 ∙ sheet_reads s w.0 z w.1

-- SECOND: WRITING THE SET OF AN ACCEPTED TEXT GIVES THAT VERY TEXT

tested_back : (t : List ℕ) (m : Member t) (r : Result ℕ Refusal) → test_set (set_of m.sheet) ≡ r → (q : SheetRead) → q ≡ tested_read (set_of m.sheet) r → q.answer ≡ Ok tt
    → (b : List ℕ) → write_of q.set b ≡ placed t b
unfolding write_of
tested_back t m (Ok k) e q f g b =
    ap (λ (x : SheetRead). write_of x.set b) f ∙ ap (tested_write (set_of m.sheet) b) e
    ∙ ap (λ x. placed x b) (text_back m.sheet m.formed (valid (set_of m.sheet) k e).0 ∙ m.text)
tested_back t m (Err x) e q f g b = let h : Err x ≡ Ok tt = sym (ap (λ (x : SheetRead). x.answer) f) ∙ g in cc

form_back : (t : List ℕ) (f : Form t) (c : Bool) (q : SheetRead) → q ≡ cond c long_read (form_read t f) → q.answer ≡ Ok tt → (b : List ℕ) → write_of q.set b ≡ placed t b
form_back t f true q e g b = let h = sym (ap (λ (x : SheetRead). x.answer) e) ∙ g in cc
form_back t (stops p x) false q e g b = let h = sym (ap (λ (x : SheetRead). x.answer) e) ∙ g in cc
form_back t (fits m) false q e g b = tested_back t m (test_set (set_of m.sheet)) refl q e g b

-- into every buffer: the text itself where there is room for it, else refused with 7 and its length
pub write_read : (t : List ℕ) (q : SheetRead) → q ≡ read_text t → q.answer ≡ Ok tt → (b : List ℕ) → write_of q.set b ≡ placed t b
unfolding read_text
write_read t q e g b = form_back t (form t) (ltb longest (length t)) q e g b

-- BOTH IN THE PAPER'S TERMS

-- an answer with nothing refused is a length
said_length : (s : Set) (b : List ℕ) (n : ℕ) (r : Result ℕ Refusal) → r ≡ (write_of s b).answer → said_wrote r ≡ answered (n ∷ []) → r ≡ Ok n
said_length s b n (Ok m) e a = ap (λ a. Ok (get_or a.values 0 0)) a
said_length s b n (Err f) e a = absurd (omega (arith, (between 1 21 writing_numbers tt (number_of f.reason) (write_number s b f (sym e))).0, ap (λ a. a.number) a))

-- what writing left, where it answered n: its first n bytes read back to the set
pub read_written_said : (s : Set) → Sized s → (b d : List ℕ) (r : Result ℕ Refusal) → leaving r d ≡ write_of s b → (n : ℕ) → said_wrote r ≡ answered (n ∷ [])
    → (q : SheetRead) → q ≡ read_text (take n d) → said_read q ≡ answered (set_values s)
read_written_said s z b d r e n a q f =
    let l = said_length s b n r (ap (λ (w : Written). w.answer) e) a in
    ap said_read (read_written s z b d n (ap (λ r. leaving r d) (sym l) ∙ e) q f)

-- the text t is written into the buffer b: whole, with b's own bytes beyond it; where b is too short not at all, and refused with 7 and the length of t
pub record Rewritten (t b : List ℕ) (w : Written) : Type 0 where
  pub whole : length t ≤ length b → (said_wrote w.answer ≡ answered (length t ∷ [])) × (w.bytes ≡ t ++ drop (length t) b)
  pub refused : length b < length t → (said_wrote w.answer ≡ refusing 1 (short (length t))) × (w.bytes ≡ b)

pub write_read_said : (t : List ℕ) (q : SheetRead) → q ≡ read_text t → (said_read q).number ≡ 0 → (b : List ℕ) → Rewritten t b (write_of q.set b)
write_read_said t q e g b =
    let w : write_of q.set b ≡ placed t b = write_read t q e (read_taken t q e g) b in
    record {
      whole = λ h. parts (w ∙ sym (placed_fits t b (length t) refl (t ++ drop (length t) b) h refl));
      refused = λ h. parts (w ∙ sym (placed_short t b (length t) refl h));
    }
  where
    parts : {a : Result ℕ Refusal} {d : List ℕ} → write_of q.set b ≡ leaving a d → (said_wrote (write_of q.set b).answer ≡ said_wrote a) × ((write_of q.set b).bytes ≡ d)
    parts k = (ap (λ (x : Written). said_wrote x.answer) k, ap (λ (x : Written). x.bytes) k)
