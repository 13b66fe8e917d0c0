-- The place of a fault is where the machine stops. Assumes nothing.
use mathlib.Core.Path.{◌≡◌, refl, sym, ap, ◌∙◌, subst}
use mathlib.Core.Logic.{inl, inr, ⊎_elim}
use mathlib.Core.Bool.{Bool, true, false, not, cond}
use mathlib.Core.List.{List, [], ◌∷◌, ◌++◌, append_assoc, append-nil}
use Prim.Native.Nat.{ℕ, suc, ◌≤◌, ◌<◌}
use native.Mathlib.Omega.{arith}
use lib.Dec.{T, ltb, ltb→lt, lt→ltb, T_not}
use lib.ListN.{length, take, drop, take-append-drop}
use lib.Seq.{take_all, take-take}
use Rattle.sheet_form.specs.Form.{Sheet, Member, Begins, FaultAt, Form, fits, stops}
use Rattle.sheet_form.specs.Machine.{State, word, name, line, field, fault, step, run, start}
use Rattle.arena.proofs.Tests.{lt_or_le}
use Rattle.sheet_form.proofs.Shown.{shown, Ok, Reads, step_reads}
use Rattle.sheet_form.proofs.Live.{back, live}
use Rattle.sheet_form.proofs.Runs.{run_append, whole}

abbrev pub faulty : State → Bool
faulty (word w k) = false
faulty (name n) = false
faulty (line s) = false
faulty (field f xs v) = false
faulty fault = true

-- the bytes that the machine takes before a fault
abbrev pub place : State → List ℕ → ℕ
place s [] = 0
place s (b ∷ t) = cond (faulty (step s b)) 0 (suc (place (step s b) t))

-- the machine took p bytes of t: all of them, or the next is a fault
pub record Took (s : State) (t : List ℕ) (p : ℕ) : Type 0 where
  pub within : p ≤ length t
  pub ok : Ok (run s (take p t))
  pub reads : shown (run s (take p t)) ≡ shown s ++ take p t
  pub next : p < length t → run s (take (suc p) t) ≡ fault

pub run_fault : (t : List ℕ) → run fault t ≡ fault
unfolding step
run_fault [] = refl
run_fault (b ∷ t) = run_fault t

ok_not_faulty : (s : State) → Ok s → faulty s ≡ false
ok_not_faulty (word w k) o = refl
ok_not_faulty (name n) o = refl
ok_not_faulty (line s) o = refl
ok_not_faulty (field f xs v) o = refl
ok_not_faulty fault o = absurd o

pub takes : (s : State) (t : List ℕ) → Ok s → Took s t (place s t)
takes s [] o = record { within = omega arith; ok = o; reads = sym (append-nil (shown s)); next = λ h. let z : ⊥ = omega arith in absurd z }
takes s (b ∷ t) o = go (step_reads s b o) (takes (step s b) t)
  where
    go : Reads (shown s ++ (b ∷ [])) (step s b) → (Ok (step s b) → Took (step s b) t (place (step s b) t)) → Took s (b ∷ t) (place s (b ∷ t))
    go (inl e) r =
        rw e (record { within = omega arith; ok = o; reads = sym (append-nil (shown s)); next = λ h. e })
    go (inr q) r =
        let k = r q.0 in
        rw (ok_not_faulty (step s b) q.0) (record { within = omega (arith, k.within); ok = k.ok; reads = k.reads ∙ ap (λ l. l ++ take (place (step s b) t) t) q.1 ∙ append_assoc (shown s) (b ∷ []) (take (place (step s b) t) t); next = λ h. k.next (omega arith) })

abbrev pub accepts : State → Bool
accepts (word w k) = false
accepts (name n) = false
accepts (line s) = ltb 0 (length s.lines)
accepts (field f xs v) = false
accepts fault = false

pub start_ok : Ok start
start_ok = (tt, omega arith)

member_run : (t : List ℕ) (m : Member t) → run start t ≡ line m.sheet
member_run t m = ap (run start) (sym m.text) ∙ whole m.sheet m.formed

pub member_accepted : (t : List ℕ) (m : Member t) → T (accepts (run start t))
member_accepted t m = subst (λ s. T (accepts s)) (sym (member_run t m)) (lt→ltb 0 (length m.sheet.lines) m.formed.low)

line_not_fault : {s : Sheet} → line s ≡ fault → ⊥
line_not_fault e = subst (λ x. T (not (faulty x))) e tt

-- one text, one sheet
pub one_sheet : (t : List ℕ) (m n : Member t) → m.sheet ≡ n.sheet
one_sheet t m n = let p = member_run t m in let q = member_run t n in cc

-- a text that the machine does not accept has its fault where the machine stopped
pub fault_from : (t : List ℕ) (p : ℕ) → Took start t p → (p ≡ length t → T (not (accepts (run start t)))) → FaultAt t p
fault_from t p k n =
    record {
      within = k.within;
      begins = subst Begins k.reads (live (run start (take p t)) k.ok);
      longest = λ h g. line_not_fault (sym (member_run _ g.member) ∙ run_append start (take (suc p) t) g.rest ∙ ap (λ x. run x g.rest) (k.next h) ∙ run_fault g.rest);
      whole = λ e m. T_not (accepts (run start t)) (n e) (member_accepted t m);
    }

pub fault_place : (t : List ℕ) → T (not (accepts (run start t))) → FaultAt t (place start t)
fault_place t n = fault_from t (place start t) (takes start t start_ok) (λ e. n)

shorter : (t : List ℕ) (p q : ℕ) → p ≤ q → Begins (take q t) → Begins (take p t)
shorter t p q h g =
    back (take p t) (drop p (take q t)) (sym (take-append-drop p (take q t)) ∙ ap (λ l. l ++ drop p (take q t)) (take-take p q t h)) g

-- a text has at most one fault, and then it is no sheet's
fault_order : (t : List ℕ) (p q : ℕ) → FaultAt t p → FaultAt t q → p < q → ⊥
fault_order t p q f g h = f.longest (omega (arith, g.within)) (shorter t (suc p) q h g.begins)

pub one_fault : (t : List ℕ) (p q : ℕ) → FaultAt t p → FaultAt t q → p ≡ q
one_fault t p q f g =
    ⊎_elim (λ h. absurd (fault_order t p q f g h)) (λ h. ⊎_elim (λ k. absurd (fault_order t q p g f k)) (λ k. omega arith) (lt_or_le q p)) (lt_or_le p q)

pub fault_no_member : (t : List ℕ) (p : ℕ) → FaultAt t p → Member t → ⊥
fault_no_member t p f m =
    ⊎_elim
    (λ h. f.longest h (record { rest = drop (suc p) t; member = subst Member (sym (take-append-drop (suc p) t)) m }))
    (λ h. f.whole (omega (arith, f.within)) m) (lt_or_le p (length t))

-- a text that the machine accepts is a sheet's
pub record Accepted (t : List ℕ) (s : State) : Type 0 where
  pub member : Member t
  pub ends : s ≡ line member.sheet

accepted_at : (t : List ℕ) (s : State) → Ok s → shown s ≡ t → T (accepts s) → Accepted t s
accepted_at t (word w k) o e h = absurd h
accepted_at t (name n) o e h = absurd h
accepted_at t (line s) o e h =
    record { member = record { sheet = s; formed = record { name = o.0; lines = o.1; low = ltb→lt 0 (length s.lines) h; high = omega (arith, o.2) }; text = e }; ends = refl }
accepted_at t (field f xs v) o e h = absurd h
accepted_at t fault o e h = absurd h

pub accepted : (t : List ℕ) → T (accepts (run start t)) → Accepted t (run start t)
accepted t h = ⊎_elim fell whole_text (lt_or_le (place start t) (length t))
  where
    k : Took start t (place start t)
    k = takes start t start_ok

    fell : place start t < length t → Accepted t (run start t)
    fell l =
        let e : run start t ≡ fault = ap (run start) (sym (take-append-drop (suc (place start t)) t)) ∙ run_append start (take (suc (place start t)) t) (drop (suc (place start t)) t) ∙ ap (λ x. run x (drop (suc (place start t)) t)) (k.next l) ∙ run_fault (drop (suc (place start t)) t) in
        absurd (subst (λ s. T (accepts s)) e h)

    whole_text : length t ≤ place start t → Accepted t (run start t)
    whole_text l =
        let e : take (place start t) t ≡ t = take_all (place start t) t l in
        accepted_at t (run start t) (subst (λ x. Ok (run start x)) e k.ok) (subst (λ x. shown (run start x) ≡ x) e k.reads) h

-- every text is some sheet's, or has the place of a fault; by the laws above only one of the two, of one sheet or at one place
pub form : (t : List ℕ) → Form t
form t = go (accepts (run start t)) refl
  where
    go : (b : Bool) → accepts (run start t) ≡ b → Form t
    go true e = fits (accepted t (subst T (sym e) tt)).member
    go false e = stops (place start t) (fault_place t (subst (λ b. T (not b)) (sym e) tt))
