-- Moves: an accepted report takes the run to the outcome of the awaited choice that it names, and every outcome has exactly one report. Assumes nothing.
use mathlib.Core.Path.{◌≡◌, refl, sym, ap, subst, ◌∙◌}
use mathlib.Core.Logic.{◌⊎◌, inl, inr, ⊎_elim}
use mathlib.Core.Bool.{Bool, true, false, not, cond}
use mathlib.Core.List.{[]}
use Prim.Native.Nat.{ℕ, suc, ◌+◌, ◌^◌, ◌≤◌, ◌<◌}
use native.Mathlib.Nat.{le_trans, pow-le-pow_right}
use native.Mathlib.Omega.{arith}
use lib.Dec.{T, leb, ltb, T_not}
use lib.ListN.{get_or}
use borrow.Author.Tests.{eq-eqb}
use Rattle.std.specs.Prelude.{Option, Some, None}
use Rattle.arena.specs.Tests.{◌∈◌}
use Rattle.arena.specs.Arena.{miss, go, out}
use Rattle.arena.specs.Arena as arena
use Rattle.arena.proofs.Tests.{nor, and_right, T_true}
use Rattle.tasks.specs.declared.sets.Set.{Set}
use Rattle.tasks.specs.declared.refusals.Reason.TheVariants.{StateDoesNotFit, WrongReading, ImpossibleOutcome, HardMiss}
use Rattle.tasks.specs.Refusals.{answered, refusing, hard_miss}
use Rattle.tasks.specs.Sets.{Passed}
use Rattle.game.specs.States.{state_at, index_of, task_state_at}
use Rattle.game.specs.Game.{Seen, arena_of}
use Rattle.game.proofs.StateLaws.{state_index}
use Rattle.shield.proofs.EntryLaws.{marks_lt}
use Rattle.guard.specs.declared.runs.Run.{Run}
use Rattle.guard.specs.declared.reports.Outcome.{Outcome}
use Rattle.guard.specs.declared.runs.Answered.{Answered}
use Rattle.guard.specs.Runs.{tick_limit, refused, legal_for, awaited_fits, fits, said_taken}
use Rattle.guard.specs.Report.{next_reading, seen_to, tick_at, is_missed, strays, impossible, run_after, report_named, report_awaited, report_tested, report_of}
use Rattle.guard.proofs.RunLaws.{Fits, fits_at}
use Rattle.safe_runs.proofs.Cases.{not_refused, named_case, report_case, possible_none}
use Rattle.safe_runs.proofs.Fitting.{count_le, state_then_lem}
use Rattle.safe_runs.proofs.Named.{next_to, named_in, next_go, next_miss}
use Rattle.safe_runs.proofs.Told.{no_flags, said, finished_in, arrivals_in, told, seen_at, says_named, says_out, told_straight, told_flags, one_said}

-- the awaited choice of a run that fits is legal
legal_awaited : (s : Set) (r : Run) (a : Option ℕ) (c : ℕ) → a ≡ Some c → T (awaited_fits s r a) → T (legal_for s r.states c)
legal_awaited s r None c e t = let z : ◌≡◌ {A = ℕ} 0 1 = cc in absurd (omega arith)
legal_awaited s r (Some d) c e t =
    let q : d ≡ c = cc in
    subst (λ (c : ℕ). T (legal_for s r.states c)) q (and_right (leb r.substitutions (r.ticks + 1)) _ (and_right (ltb r.ticks tick_limit) _ t))

-- a run that fits and awaits a report
module _ (s : Set) (q : Passed s) (r : Run) (fit : T (fits s r)) (c : ℕ) (e : r.awaited ≡ Some c) where
  w : Fits s r
  w = fits_at s r (count_le s q) fit

  -- the states of the run's own index are its states
  same : (j : ℕ) → j < s.count → task_state_at s (index_of s r.states) j ≡ state_at r.states j
  same = state_index s q r.states (λ j h. (w.tasks j h).range)

  -- the report names an outcome
  abbrev pub Names : Bool → ℕ → Type 0
  Names finished arrivals = T (not (impossible s r.states (said c finished arrivals)))

  -- a report that is accepted, or refused with 19, has the next reading and names an outcome
  abbrev pub Heard : ℕ → Bool → ℕ → Answered (Unit {0}) → Type 0
  Heard reading finished arrivals a =
      ((said_taken a.answer).number ≡ 0) ⊎ ((said_taken a.answer).number ≡ hard_miss) → (reading ≡ next_reading r.reading) × Names finished arrivals

  pub accepted : (reading : ℕ) (finished : Bool) (arrivals : ℕ) → Heard reading finished arrivals (report_of s r reading finished arrivals)
  accepted reading finished arrivals =
      report_case s r reading finished arrivals (Heard reading finished arrivals)
      (λ f z. absurd (not_refused s q f z)) (λ t. absurd (T_not (fits s r) t fit))
      (λ z. absurd (⊎_elim (λ n. omega arith) (λ n. omega arith) z)) (λ z. absurd (⊎_elim (λ n. omega arith) (λ n. omega arith) z))
      (λ d g h.
      let y : Some d ≡ Some c = sym g ∙ e in
      let k : d ≡ c = cc in
      let named : T (not (impossible s r.states (said d finished arrivals))) → Names finished arrivals = subst (λ (c : ℕ). T (not (impossible s r.states (said c finished arrivals)))) k in
      named_case s r _ (Heard reading finished arrivals) (λ _ z. absurd (⊎_elim (λ n. omega arith) (λ n. omega arith) z)) (λ t _ _ _. (h, named t)) (λ t _ _. (h, named t)))

  -- with the next reading, the answer is that of what the report says
  right : (finished : Bool) (arrivals : ℕ) → report_of s r (next_reading r.reading) finished arrivals ≡ report_named s r (said c finished arrivals)
  right finished arrivals =
      ap (report_tested s r (next_reading r.reading) finished arrivals) q
      ∙ ap (λ b. cond b (report_awaited s r (next_reading r.reading) finished arrivals r.awaited) (refused r StateDoesNotFit 0)) (T_true (fits s r) fit)
      ∙ ap (report_awaited s r (next_reading r.reading) finished arrivals) e
      ∙ ap (λ b. cond b (report_named s r (said c finished arrivals)) (refused r WrongReading 0)) (eq-eqb (next_reading r.reading) (next_reading r.reading) refl)

  -- one that names no outcome is refused with 18
  abbrev pub Impossible : Answered (Unit {0}) → Type 0
  Impossible a = (said_taken a.answer ≡ refusing 0 (record { reason = ImpossibleOutcome; place = 0 })) × (a.run ≡ r)

  pub other_refused : (finished : Bool) (arrivals : ℕ) → T (impossible s r.states (said c finished arrivals)) → Impossible (report_of s r (next_reading r.reading) finished arrivals)
  other_refused finished arrivals t =
      let o = said c finished arrivals in
      subst Impossible (sym (right finished arrivals))
      (named_case s r o Impossible (λ _. (refl, refl)) (λ z _ _. absurd (T_not (impossible s r.states o) z t)) (λ z _. absurd (T_not (impossible s r.states o) z t)))

  -- what is answered to one that names an outcome: a move to its state, or 19 at the lowest task that misses
  pub record Taken-to (o : Outcome) (n : arena.Next) (a : Answered (Unit {0})) : Type 0 where
    pub answer : said_taken a.answer ≡ answered []
    pub run : a.run ≡ run_after s r o
    pub next : n ≡ go (index_of s a.run.states)

  pub record Missed-at (o : Outcome) (n : arena.Next) (a : Answered (Unit {0})) : Type 0 where
    pub task : ℕ
    pub answer : said_taken a.answer ≡ refusing 0 (record { reason = HardMiss; place = suc task })
    pub run : a.run ≡ r
    pub within : task < s.count
    pub misses : is_missed (tick_at s r.states o task) ≡ true
    pub lowest : (j : ℕ) → j < task → is_missed (tick_at s r.states o j) ≡ false
    pub next : n ≡ miss

  abbrev pub Moved : Outcome → arena.Next → Answered (Unit {0}) → Type 0
  Moved o n a = Taken-to o n a ⊎ Missed-at o n a

  -- a report that names an outcome of the awaited choice is accepted and moves to it, or is refused with 19 if it is a miss
  pub moves : (finished : Bool) (arrivals : ℕ) → Names finished arrivals
      → let o = said c finished arrivals in let n = next_to s r.states o s.count in
      (out (seen_to o s.count) n ∈ (arena_of s).outs (index_of s r.states) c) × Moved o n (report_of s r (next_reading r.reading) finished arrivals)
  unfolding arena_of
  moves finished arrivals t =
      let o = said c finished arrivals in
      let xs = r.states in
      let n = next_to s xs o s.count in (
        named_in s xs o (index_of s xs) s.count same (possible_none s xs o t),
        subst (Moved o n) (sym (right finished arrivals))
            (named_case s r o (Moved o n)
            (λ z. absurd (T_not (impossible s xs o) t z))
            (λ _ k m. inr (record {
              task = k;
              answer = refl;
              run = refl;
              within = m.within;
              misses = m.missed;
              lowest = m.lowest;
              next = next_miss s xs o k s.count m.within m.missed;
            }))
            (λ _ l. inl (record {
              answer = refl;
              run = refl;
              next = next_go s xs o (run_after s r o).states s.count (state_then_lem s q r w o) (possible_none s xs o t) l;
            }))),
      )

  -- every outcome of the awaited choice is named by a report, whose arrivals are a byte
  pub one_report : (o : arena.Outcome Seen) → o ∈ (arena_of s).outs (index_of s r.states) c
      → let f = finished_in o.seen c in let a = arrivals_in o.seen s.count in
      Names f a × (a < 256) × (out (seen_to (said c f a) s.count) (next_to s r.states (said c f a) s.count) ≡ o)
  unfolding arena_of
  one_report o m =
      let n = s.count in
      let i = index_of s r.states in
      let p = said c (finished_in o.seen c) (arrivals_in o.seen n) in
      let d = told s i c n o m in
      let flag = told_flags s i c n o d in (
        says_named s r.states i same p o d flag (told_straight s o.seen c),
        le_trans (marks_lt n (λ j. (get_or o.seen j no_flags).arrives)) (byte (count_le s q)),
        says_out s r.states i same p o d flag,
      )
    where
      byte : s.count ≤ 7 → 2 ^ s.count ≤ 256
      byte h = le_trans (pow-le-pow_right (omega arith) h) (omega arith)

  -- and by no other
  pub only_report : (f g : Bool) (a b : ℕ) → Names f a → Names g b → seen_to (said c f a) s.count ≡ seen_to (said c g b) s.count → (f ≡ g) × (a ≡ b)
  unfolding impossible
  only_report f g a b x y z =
      let n = s.count in
      one_said s r.states c (legal_awaited s r r.awaited c e w.awaited) f g a b (nor (strays s (said c f a)) _ x).0 (nor (strays s (said c g b)) _ y).0
      (λ j h. sym (seen_at (said c f a) n j h) ∙ ap (λ (v : Seen). get_or v j no_flags) z ∙ seen_at (said c g b) n j h)

  -- so a report that is refused with 18 is stray, or what it says is seen in no outcome
  pub seen_named : (f : Bool) (a : ℕ) → T (not (strays s (said c f a)))
      → (o : arena.Outcome Seen) → o ∈ (arena_of s).outs (index_of s r.states) c → o.seen ≡ seen_to (said c f a) s.count → Names f a
  unfolding arena_of
  seen_named f a t o m z =
      let n = s.count in
      let i = index_of s r.states in
      says_named s r.states i same (said c f a) o (told s i c n o m) (λ j h. sym (seen_at (said c f a) n j h) ∙ ap (λ (v : Seen). get_or v j no_flags) (sym z)) t
