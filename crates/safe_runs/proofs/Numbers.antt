-- The numbers that a start, an ask and a report can refuse with; in the paper's terms, an answer's number is 0 or one of them. Assumes nothing.
use mathlib.Core.Path.{◌≡◌, refl, subst}
use mathlib.Core.Bool.{Bool}
use mathlib.Core.List.Memᴰ
use mathlib.Core.List.{List, ◌∷◌}
use Prim.Native.Nat.{ℕ}
use Rattle.std.specs.Prelude.{Result, Ok, Err}
use Rattle.arena.specs.Tests.{◌∈◌}
use Rattle.tasks.specs.declared.refusals.Refusal.{Refusal}
use Rattle.tasks.specs.declared.sets.Set.{Set}
use Rattle.tasks.specs.Refusals.{number_of, set_numbers, ask_numbers, report_numbers}
use Rattle.tasks.specs.Sets.{test_set}
use Rattle.tasks.proofs.Numbers.{listed_in}
use Rattle.tasks.proofs.Valid.{refused_listed}
use Rattle.guard.specs.declared.runs.Run.{Run}
use Rattle.guard.specs.Runs.{start_tested, start_of, said_taken}
use Rattle.guard.specs.Ask.{ask_given, ask_of, said_chosen}
use Rattle.guard.specs.Report.{report_of}
use Rattle.safe_runs.proofs.Cases.{ask_case, named_case, report_case}

-- an answer, or a refusal with a number of the list
abbrev AnsweredOr : {A : Type 0} → List ℕ → Result A Refusal → Type 0
AnsweredOr l (Ok _) = Unit {0}
AnsweredOr l (Err f) = number_of f.reason ∈ l

-- START
pub start_number : (s : Set) (reading : ℕ) (f : Refusal) → (start_of s reading).answer ≡ Err f → number_of f.reason ∈ set_numbers
start_number s reading f e = subst (AnsweredOr set_numbers) e (by (test_set s) refl)
  where
    by : (t : Result ℕ Refusal) → test_set s ≡ t → AnsweredOr set_numbers (start_tested s reading t).answer
    by (Err f) q = refused_listed s f q
    by (Ok n) q = tt

-- a start gets an answer, number 0, or one numbered refusal
pub start_said : (s : Set) (reading : ℕ) → (said_taken (start_of s reading).answer).number ∈ 0 ∷ set_numbers
start_said s reading = by (start_of s reading).answer refl
  where
    by : (a : Result (Unit {0}) Refusal) → (start_of s reading).answer ≡ a → (said_taken a).number ∈ 0 ∷ set_numbers
    by (Ok _) q = Memᴰ.head refl
    by (Err f) q = Memᴰ.tail (start_number s reading f q)

-- ASK
pub ask_number : (s : Set) (table : List ℕ) (r : Run) (p : ℕ) (f : Refusal) → (ask_of s table r p).answer ≡ Err f → number_of f.reason ∈ ask_numbers
unfolding ask_given
ask_number s table r p f e =
    subst (AnsweredOr ask_numbers) e
    (ask_case s table r p (λ a. AnsweredOr ask_numbers a.answer)
    (λ f q. Memᴰ.append_left _ (refused_listed s f q))
    (λ _ _ _. listed_in 7 ask_numbers tt)
    (λ _. listed_in 21 ask_numbers tt)
    (λ _. listed_in 14 ask_numbers tt)
    (λ _. listed_in 20 ask_numbers tt)
    (λ _. listed_in 15 ask_numbers tt)
    (λ _. listed_in 16 ask_numbers tt)
    (λ _. tt))

-- an ask gets an answer, number 0, or one numbered refusal
pub ask_said : (s : Set) (table : List ℕ) (r : Run) (p : ℕ) → (said_chosen (ask_of s table r p).answer).number ∈ 0 ∷ ask_numbers
ask_said s table r p = by (ask_of s table r p).answer refl
  where
    by : (a : Result ℕ Refusal) → (ask_of s table r p).answer ≡ a → (said_chosen a).number ∈ 0 ∷ ask_numbers
    by (Ok c) q = Memᴰ.head refl
    by (Err f) q = Memᴰ.tail (ask_number s table r p f q)

-- REPORT
pub report_number : (s : Set) (r : Run) (reading : ℕ) (finished : Bool) (arrivals : ℕ) (f : Refusal)
    → (report_of s r reading finished arrivals).answer ≡ Err f → number_of f.reason ∈ report_numbers
report_number s r reading finished arrivals f e =
    subst (AnsweredOr report_numbers) e
    (report_case s r reading finished arrivals (λ a. AnsweredOr report_numbers a.answer)
    (λ f q. Memᴰ.append_left _ (refused_listed s f q))
    (λ _. listed_in 21 report_numbers tt)
    (listed_in 14 report_numbers tt)
    (listed_in 17 report_numbers tt)
    (λ c _ _. named_case s r _ (λ a. AnsweredOr report_numbers a.answer)
    (λ _. listed_in 18 report_numbers tt)
    (λ _ _ _. listed_in 19 report_numbers tt)
    (λ _ _. tt)))

-- a report gets an answer, number 0, or one numbered refusal
pub report_said : (s : Set) (r : Run) (reading : ℕ) (finished : Bool) (arrivals : ℕ) → (said_taken (report_of s r reading finished arrivals).answer).number ∈ 0 ∷ report_numbers
report_said s r reading finished arrivals = by (report_of s r reading finished arrivals).answer refl
  where
    by : (a : Result (Unit {0}) Refusal) → (report_of s r reading finished arrivals).answer ≡ a → (said_taken a).number ∈ 0 ∷ report_numbers
    by (Ok _) q = Memᴰ.head refl
    by (Err f) q = Memᴰ.tail (report_number s r reading finished arrivals f q)
