-- The walk with k tasks left asks of each of task k's moves what the walk with k - 1 left says.
use Rattle.std.proofs.Common.{◌≡◌, refl, sym, ap, subst, ◌∙◌, Bool, true, Some, ℕ, ◌+◌, ◌-◌, ◌*◌, ◌^◌, ◌≤◌, ◌<◌, T, length, arith}
use native.Mathlib.Nat.{add-zero}
use Rattle.arena.specs.Tests.{imp}
use Rattle.tasks.specs.Sets.{task_at, states_to}
use Rattle.tasks.proofs.Valid.{passed_valid}
use Rattle.game.specs.Game.{legal_at}
use Rattle.game.proofs.StateLaws.{locals_some}
use Rattle.game.specs.Walk.{if_any, every, walk}
use Rattle.game.proofs.WalkLaws.{moves_bound}
use Rattle.shield.specs.declared.walks.State.{State}
use Rattle.shield.specs.Entries.{live}
use Rattle.shield.proofs.WalkTurn.{every_come, every_end, every_stay, every_all, imp_off, imp_on, any_off, any_on, walk_turn, walk_missed, room, room_fits}
use Rattle.shield.proofs.walks.+walk_on.Goals as goal
use Rattle.shield.proofs.walks.+walk_on.Goals.{Start, After-locals, else-m-2-via-then-m-2+else-not-walk_on, else-m-2-via-else-m-2, in-Some+else-not-walk_on-2, in_default}

-- where the task's moves bring no miss
module _ (t : ℕ) (m : After-locals t) where
  abbrev x : State
  x = m.args.state.now

  abbrev from : ℕ
  from = m.args.at * m.locals.result

  -- what is asked of the walk with k - 1 tasks left
  abbrev good : ℕ → Bool
  good l = walk x.v.set x.locals m.args.choice (live m.args.table.now) (m.args.k - 1) (from + l)

  turn : walk x.v.set x.locals m.args.choice (live m.args.table.now) m.args.k m.args.at ≡ every m.moves_of-m.result good
  turn =
      let a = m.args in
      walk_turn x.v.set a.k a.at m.if-k-eq0.false x.locals a.choice (live a.table.now) m.moves_of-m.result from
      (ap (λ n. a.at * n) m.locals.ensures.value) m.moves_of-m.ensures.by_index

  good_zero : good 0 ≡ walk x.v.set x.locals m.args.choice (live m.args.table.now) (m.args.k - 1) from
  good_zero =
      let a = m.args in
      ap (walk x.v.set x.locals a.choice (live a.table.now) (a.k - 1)) (add-zero from)

  bounds : ((l : ℕ) → m.moves_of-m.result.ended ≡ Some l → l < m.locals.result) × ((l : ℕ) → m.moves_of-m.result.stayed ≡ Some l → l < m.locals.result)
  bounds =
      let a = m.args in
      let v = passed_valid x.v.set x.v.passed in
      let r = moves_bound (task_at x.v.set (a.k - 1)) (v.tasks (a.k - 1) (omega (arith, m.if-k-eq0.false, m.requires.room.0))) _ _ m.moves_of-m.result m.moves_of-m.ensures.by_index m.if-m.false in
      (λ l e. omega (arith, r.0 l e, m.locals.ensures.value), λ l e. omega (arith, r.1 l e, m.locals.ensures.value))

  none : 0 < m.locals.result
  none = omega (arith, locals_some x.v.set x.v.passed (m.args.k - 1) (omega (arith, m.if-k-eq0.false, m.requires.room.0)), m.locals.ensures.value)

  room_here : (l : ℕ) → l < m.locals.result → (from + l + 1) * states_to x.v.set (m.args.k - 1) ≤ length m.args.table.now
  room_here l h =
      room x.v.set m.args.k m.args.at m.if-k-eq0.false m.locals.result from l _ m.locals.ensures.value refl h m.requires.room.1

  fits_here : (l : ℕ) → l < m.locals.result → from + l < 2 ^ 64
  fits_here l h =
      omega (arith, room_fits x.v.set (m.args.k - 1) (from + l) _ x.v.passed (omega (arith, m.requires.room.0)) (room_here l h), m.well_formed)

  -- what the walk with k - 1 tasks left asks of its caller
  abbrev Asked : ℕ → Type 0
  Asked i =
      let a = m.args in
      let s = x.v.set in
      (a.k - 1 < t) × (((a.k - 1 ≤ s.count) × ((i + 1) * states_to s (a.k - 1) ≤ length a.table.now)) × T (legal_at s x.index a.choice))

  asked : (l : ℕ) → l < m.locals.result → Asked (from + l)
  asked l h =
      let q = m.if-k-eq0.false in
      (omega (arith, m.decreases), ((omega (arith, m.requires.room.0), room_here l h), m.requires.legal))

pub bounds-table-at : goal.bounds-table-at
bounds-table-at t c = let v = c.args.state.now.v in
    omega (arith, room_fits v.set c.args.k c.args.at _ v.passed c.requires.room.0 c.requires.room.1)

pub returns-then-k-eq0 : goal.returns-then-k-eq0
unfolding walk
returns-then-k-eq0 t c =
    let a = c.args in
    ap (λ n. walk a.state.now.v.set a.state.now.locals a.choice (live a.table.now) n a.at) (sym c.if-k-eq0.true)

pub returns-then-m : goal.returns-then-m
returns-then-m t c =
    let a = c.args in
    sym (walk_missed a.state.now.v.set a.k a.at c.if-k-eq0.false a.state.now.locals a.choice (live a.table.now) c.moves_of-m.result c.moves_of-m.ensures.by_index c.if-m.true)

pub overflow_mul-from : goal.overflow_mul-from
overflow_mul-from t c = let m = (goal.at.overflow_mul-from t c).After-locals in
    record { fits = omega (arith, fits_here t m 0 (none t m)) }

pub walk_on-requires : goal.walk_on-requires
walk_on-requires t c = let m = (goal.at.walk_on-requires t c).After-locals in
    subst (Asked t m) (add-zero (from t m)) (asked t m 0 (none t m))

pub returns-then-not-walk_on : goal.returns-then-not-walk_on
returns-then-not-walk_on t c = let m = (goal.at.returns-then-not-walk_on t c).After-locals in
    sym (turn t m ∙ every_come c.moves_of-m.result (good t m) c.if-m.false c.if-m-2.true (good_zero t m ∙ sym c.walk_on.ensures ∙ c.if-not-walk_on.true))

pub overflow_add-from : goal.overflow_add-from
overflow_add-from t c = let m = (goal.at.overflow_add-from t c).After-locals in
    record { fits = fits_here t m c.in-Some.l ((bounds t m).0 c.in-Some.l c.in-Some.is) }

pub walk_on-requires-in-Some : goal.walk_on-requires-in-Some
walk_on-requires-in-Some t c = let m = (goal.at.walk_on-requires-in-Some t c).After-locals in
    asked t m c.in-Some.l ((bounds t m).0 c.in-Some.l c.in-Some.is)

pub returns-then-not-walk_on-2 : goal.returns-then-not-walk_on-2
returns-then-not-walk_on-2 t c = let m = (goal.at.returns-then-not-walk_on-2 t c).After-locals in
    let b = c.moves_of-m.result in
    let come : imp b.comes (good t m 0) ≡ true =
    elim c.else-m-2.branch [ else-m-2-via-then-m-2+else-not-walk_on w ↦ imp_on b.comes _ (good_zero t m ∙ sym w.walk_on.ensures ∙ w.if-not-walk_on.false) | else-m-2-via-else-m-2 w ↦ imp_off b.comes _ w.if-m-2.false ] in
    sym (turn t m ∙ every_end b (good t m) c.in-Some.l c.if-m.false come c.in-Some.is (sym c.walk_on-in-Some.ensures ∙ c.if-not-walk_on-2.true))

pub overflow_add-from-in-Some-stayed : goal.overflow_add-from-in-Some-stayed
overflow_add-from-in-Some-stayed t c = let m = (goal.at.overflow_add-from-in-Some-stayed t c).After-locals in
    record { fits = fits_here t m c.in-Some-stayed.l ((bounds t m).1 c.in-Some-stayed.l c.in-Some-stayed.is) }

pub walk_on-requires-in-Some-stayed : goal.walk_on-requires-in-Some-stayed
walk_on-requires-in-Some-stayed t c = let m = (goal.at.walk_on-requires-in-Some-stayed t c).After-locals in
    asked t m c.in-Some-stayed.l ((bounds t m).1 c.in-Some-stayed.l c.in-Some-stayed.is)

pub returns-in-Some-stayed : goal.returns-in-Some-stayed
returns-in-Some-stayed t c = let m = (goal.at.returns-in-Some-stayed t c).After-locals in
    let b = c.moves_of-m.result in
    let come : imp b.comes (good t m 0) ≡ true =
    elim c.else-m-2.branch [ else-m-2-via-then-m-2+else-not-walk_on w ↦ imp_on b.comes _ (good_zero t m ∙ sym w.walk_on.ensures ∙ w.if-not-walk_on.false) | else-m-2-via-else-m-2 w ↦ imp_off b.comes _ w.if-m-2.false ] in
    let end : if_any b.ended (good t m) ≡ true =
    elim c.match-m.branch [ in-Some+else-not-walk_on-2 w ↦ any_on b.ended _ w.in-Some.l w.in-Some.is (sym w.walk_on-in-Some.ensures ∙ w.if-not-walk_on-2.false) | in_default w ↦ any_off b.ended _ w.in_default.not-Some ] in
    c.walk_on-in-Some-stayed.ensures ∙ sym (turn t m ∙ every_stay b (good t m) c.in-Some-stayed.l c.if-m.false come end c.in-Some-stayed.is)

pub returns-in-None : goal.returns-in-None
returns-in-None t c = let m = (goal.at.returns-in-None t c).After-locals in
    let b = c.moves_of-m.result in
    let come : imp b.comes (good t m 0) ≡ true =
    elim c.else-m-2.branch [ else-m-2-via-then-m-2+else-not-walk_on w ↦ imp_on b.comes _ (good_zero t m ∙ sym w.walk_on.ensures ∙ w.if-not-walk_on.false) | else-m-2-via-else-m-2 w ↦ imp_off b.comes _ w.if-m-2.false ] in
    let end : if_any b.ended (good t m) ≡ true =
    elim c.match-m.branch [ in-Some+else-not-walk_on-2 w ↦ any_on b.ended _ w.in-Some.l w.in-Some.is (sym w.walk_on-in-Some.ensures ∙ w.if-not-walk_on-2.false) | in_default w ↦ any_off b.ended _ w.in_default.not-Some ] in
    sym (turn t m ∙ every_all b (good t m) c.if-m.false come end c.in-None.is)
