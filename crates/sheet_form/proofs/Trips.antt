-- A set and its sheet say the same, both ways. Assumes nothing.
use mathlib.Core.Path.{◌≡◌, refl, sym, ap, ap₂, ◌∙◌, subst}
use mathlib.Core.Logic.{⊎_elim}
use mathlib.Core.Bool.{Bool, true, false, cond}
use mathlib.Core.List.{List, [], ◌∷◌, ◌++◌, map}
use Prim.Native.Nat.{ℕ, zero, suc, ◌-◌, ◌≤◌, ◌<◌}
use native.Mathlib.Omega.{arith}
use lib.Dec.{T, eqb}
use lib.ListN.{length, take, replicate, length-map}
use lib.Seq.{take_at}
use Rattle.tasks.specs.declared.sets.Task.{Task}
use Rattle.tasks.specs.declared.sets.Set.{Set}
use Rattle.tasks.specs.Lists.{length_of}
use Rattle.tasks.specs.Sets.{name_byte, characters, no_task, Sized}
use Rattle.sheet_form.specs.Form.{Values, Line, Sheet, Each, Small, LineOk, Formed, sheet_text}
use Rattle.sheet_form.specs.Sets.{rising, list_of, kind_of, task_of, padded, set_of, line_of, sheet_of, text_of}
use Rattle.arena.proofs.Tests.{decide, T_true, T_false}
use Rattle.sheet_form.proofs.Bits.{kept_none, list_back, bits_said}
use Rattle.tasks.specs.Valid.{ValidTask, Valid}
use Rattle.sheet_form.proofs.Valid.{name_ok, name_rest, task_count, tasks_each, tasks_ok, tasks_rest}

pub record LineRises (l : Line) : Type 0 where
  pub runs : T (rising l.runs)
  pub gaps : T (rising l.gaps)

-- FROM A SHEET WHOSE LISTS RISE TO ITS SET AND BACK

kind_back : (h : Bool) → eqb (kind_of h) 1 ≡ h
kind_back true = refl
kind_back false = refl

line_back : (l : Line) → LineOk l → LineRises l → line_of (task_of l) ≡ l
line_back l h r =
    λ i. record { hard = kind_back l.hard i; deadline = l.deadline; runs = list_back l.runs h.runs r.runs i; gaps = list_back l.gaps h.gaps r.gaps i }

lines_back : (ls : List Line) → Each LineOk ls → Each LineRises ls → map line_of (map task_of ls) ≡ ls
lines_back [] h r = refl
lines_back (l ∷ ls) h r = ap₂ (λ x y. x ∷ y) (line_back l h.0 r.0) (lines_back ls h.1 r.1)

-- zero bytes are no characters
pub none_of_zeros : (k : ℕ) → characters (replicate k 0) ≡ 0
unfolding characters name_byte
none_of_zeros zero = refl
none_of_zeros (suc k) = refl

pub characters_back : (n z : List ℕ) → Each (λ b. T (name_byte b)) n → characters z ≡ 0 → characters (n ++ z) ≡ length n
unfolding characters
characters_back [] z h e = e
characters_back (b ∷ n) z h e = ap (λ c. cond c (suc (characters (n ++ z))) 0) (T_true (name_byte b) h.0) ∙ ap suc (characters_back n z h.1 e)

-- the set of a sheet whose lists rise has that very sheet
pub sheet_back : (s : Sheet) → Formed s → Each LineRises s.lines → sheet_of (set_of s) ≡ s
unfolding padded
sheet_back s h r =
    let z : List ℕ = replicate (16 - length s.name) 0 in
    λ i. record {
      name = (ap (λ n. take n (s.name ++ z)) (characters_back s.name z h.name.bytes (none_of_zeros (16 - length s.name))) ∙ take_at s.name z (length s.name) refl) i;
      lines = (ap (map line_of) (take_at (map task_of s.lines) (replicate (7 - length (map task_of s.lines)) no_task) (length s.lines) (length-map s.lines task_of)) ∙ lines_back s.lines h.lines r) i;
    }

-- a list that is kept rises
kept_rises : (l : Values) → 0 < length_of (list_of l) → T (rising l)
kept_rises l h = ⊎_elim (λ t. t) (λ t. absurd (omega (arith, kept_none l (T_false (rising l) t)))) (decide (rising l))

lines_rise : (ls : List Line) → Each ValidTask (map task_of ls) → Each LineRises ls
lines_rise [] h = tt
lines_rise (l ∷ ls) h = (record { runs = kept_rises l.runs h.0.runs; gaps = kept_rises l.gaps h.0.gaps }, lines_rise ls h.1)

-- a sheet whose set passes the test is the one that the set has
pub text_back : (s : Sheet) → Formed s → Valid (set_of s) → text_of (set_of s) ≡ sheet_text s
unfolding padded
text_back s h v =
    let ts = map task_of s.lines in
    let e : take (length s.lines) (padded 7 no_task ts) ≡ ts = take_at ts (replicate (7 - length ts) no_task) (length s.lines) (length-map s.lines task_of) in
    ap sheet_text (sheet_back s h (lines_rise s.lines (subst (Each ValidTask) e (tasks_ok (set_of s) v))))

-- FROM A VALID SET TO ITS SHEET AND BACK

kind_again : (k : ℕ) → k ≤ 1 → kind_of (eqb k 1) ≡ k
kind_again zero h = refl
kind_again (suc zero) h = refl
kind_again (suc (suc k)) h = let z : ⊥ = omega arith in absurd z

small : (n : ℕ) → (1 ≤ n) × (n ≤ 16) → Small n
small n h = record { low = h.0; high = h.1 }

lines_ok : (ts : List Task) → Each ValidTask ts → Each LineOk (map line_of ts)
lines_ok [] h = tt
lines_ok (τ ∷ ts) h = (record { deadline = small τ.deadline h.0.deadline; runs = (bits_said τ.runs h.0.runs).ok; gaps = (bits_said τ.gaps h.0.gaps).ok }, lines_ok ts h.1)

-- both lists fit 16 bits
abbrev Wide : Task → Type 0
Wide τ = (τ.runs < 65536) × (τ.gaps < 65536)

task_back : (τ : Task) → ValidTask τ → Wide τ → task_of (line_of τ) ≡ τ
task_back τ h w =
    λ i. record { kind = kind_again τ.kind h.kind i; deadline = τ.deadline; runs = (bits_said τ.runs h.runs).kept w.0 i; gaps = (bits_said τ.gaps h.gaps).kept w.1 i }

tasks_back : (ts : List Task) → Each ValidTask ts → Each Wide ts → map task_of (map line_of ts) ≡ ts
tasks_back [] h w = refl
tasks_back (τ ∷ ts) h w = ap₂ (λ x y. x ∷ y) (task_back τ h.0 w.0) (tasks_back ts h.1 w.1)

line_count : (s : Set) → Valid s → length (sheet_of s).lines ≡ s.count
line_count s v = length-map (take s.count s.tasks) line_of ∙ task_count s v

pub sheet_formed : (s : Set) → length s.name ≡ 16 → Valid s → Formed (sheet_of s)
sheet_formed s l v =
    let e = line_count s v in
    record { name = name_ok s.name v.name l; lines = lines_ok (take s.count s.tasks) (tasks_ok s v); low = omega (arith, v.count.0); high = omega (arith, v.count.1) }

-- the sheet of a valid set says that very set
pub set_back : (s : Set) → Sized s → Valid s → set_of (sheet_of s) ≡ s
set_back s z v =
    let ts = take s.count s.tasks in
    λ i. record {
      name = sym (name_rest s.name v.name z.name) i;
      count = line_count s v i;
      tasks = (ap (padded 7 no_task) (tasks_back ts (tasks_ok s v) (tasks_each s v Wide (λ i h. z.lists i (omega (arith, v.count.1))))) ∙ sym (tasks_rest s v z.tasks)) i;
    }
