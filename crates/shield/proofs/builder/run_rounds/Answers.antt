-- Each turn ends in the table of one more round, or in the bytes at the end.
use Rattle.std.proofs.Common.{◌≡◌, refl, sym, ap, ap₂, ◌∙◌, ◌++◌, ℕ, ◌+◌, T, drop, Ok, arith}
use lib.ListN.{replicate, length-replicate}
use lib.Seq.{drop_at}
use Rattle.arena.specs.Arena as Arena
use Rattle.arena.specs.Tests.{count}
use Rattle.tasks.specs.declared.sets.ValidSet.{ValidSet}
use Rattle.tasks.specs.Sets.{states_of}
use Rattle.game.specs.Game.{arena_of}
use Rattle.arena.proofs.Rounds.{R_more}
use Rattle.game.proofs.Sound.{sound}
use Rattle.shield.specs.Entries.{entry_at, live}
use Rattle.shield.specs.Shield.{table_after}
use Rattle.shield.proofs.RoundLaws.{first_table, first_count, count_left, count_down, same_count, fewer_left, start_lost, start_left, settled_falls, settled_safe, drop_after, round_after}
use Rattle.shield.proofs.builder.run_rounds.Goals as goal
use Rattle.shield.proofs.builder.run_rounds.Goals.{After-round, After-count_live-now}

-- after a round
module _ (d : After-round) where
  abbrev v : ValidSet
  v = d.args.v.now

  beyond_fill : drop v.states d.fill.new.buf ≡ drop v.states d.args.table.now
  beyond_fill = ap (drop v.states) d.fill.ensures ∙ drop_at (replicate v.states 255) _ v.states (length-replicate v.states 255)

  new_table : d.round.new.table ≡ table_after v.set (d.loop-table.rounds + 1) ++ drop v.states d.fill.new.buf
  new_table =
      let l = d.loop-table in
      let rest = drop v.states d.fill.new.buf in
      round_after v l.rounds l.table rest _ _ l.invariant.table d.round.ensures.table
      ∙ ap (λ u. table_after v.set (l.rounds + 1) ++ u) (drop_after v l.rounds l.table rest l.invariant.table)

  new_work : d.round.new.work ≡ table_after v.set (d.loop-table.rounds + 1) ++ drop v.states d.args.work.now
  new_work =
      let l = d.loop-table in
      round_after v l.rounds l.table _ _ _ l.invariant.table d.round.ensures.work
      ∙ ap (λ u. table_after v.set (l.rounds + 1) ++ u) l.invariant.beyond

  -- the start after the round, and what is left of the states
  lost_here : entry_at d.round.new.table 0 ≡ 0 → T (Arena.lost (arena_of v.set) (d.loop-table.rounds + 1) 0)
  lost_here e = start_lost v.set v.passed _ (drop v.states d.fill.new.buf) (ap (λ l. entry_at l 0) (sym new_table) ∙ e)

  left_here : (entry_at d.round.new.table 0 ≡ 0 → ⊥) → T (Arena.left (arena_of v.set) (d.loop-table.rounds + 1) 0)
  left_here h = start_left v.set v.passed _ (drop v.states d.fill.new.buf) (λ e. h (ap (λ l. entry_at l 0) new_table ∙ e))

  counted : (k : ℕ) → k ≡ count v.states (live d.round.new.table) → k ≡ count (states_of v.set) (Arena.left (arena_of v.set) (d.loop-table.rounds + 1))
  counted k e = e ∙ ap₂ (λ n l. count n (live l)) v.counted new_table ∙ count_left v.set v.passed _ (drop v.states d.fill.new.buf)

  was : d.loop-table.left ≡ count (states_of v.set) (Arena.left (arena_of v.set) d.loop-table.rounds)
  was = d.loop-table.invariant.left ∙ ap (λ n. count n (Arena.left (arena_of v.set) d.loop-table.rounds)) v.counted

  -- the bytes at the end, by the round after which the rounds end
  ended : (k : ℕ) → d.loop-table.rounds + 1 ≡ k
      → (d.round.new.table ≡ table_after v.set k ++ drop (states_of v.set) d.args.table.now)
      × (d.round.new.work ≡ table_after v.set k ++ drop (states_of v.set) d.args.work.now)
  ended k e =
      let a = d.args in
      let n = v.counted in (
        new_table ∙ ap₂ (λ k l. table_after v.set k ++ l) e (beyond_fill ∙ ap (λ m. drop m a.table.now) n),
        new_work ∙ ap₂ (λ k l. table_after v.set k ++ l) e (ap (λ m. drop m a.work.now) n),
      )

pub loop-table-init : goal.loop-table-init
loop-table-init c = let n = c.args.v.now.states in
    let f = c.fill.ensures in
    record {
      table = f ∙ ap₂ (λ x y. x ++ y) (first_table c.args.v.now.set n c.args.v.now.counted) (sym (ap (drop n) f ∙ drop_at (replicate n 255) _ n (length-replicate n 255)));
      beyond = refl;
      rounds = omega arith;
      left = first_count c.args.v.now.set n;
      start = tt;
    }

pub returns-then-table-eq0 : goal.returns-then-table-eq0
returns-then-table-eq0 c = let d = (goal.at.returns-then-table-eq0 c).After-round in
    let l = c.loop-table in
    let w = settled_falls c.args.v.now.set c.args.v.now.passed l.rounds l.invariant.start (lost_here d c.if-table-eq0.true) in
    let z = ended d _ w.1 in
    record { answer = w.0; table = z.0; work = z.1 }

pub returns-then-now-left : goal.returns-then-now-left
returns-then-now-left c = let d = (goal.at.returns-then-now-left c).After-round in
    let l = c.loop-table in
    let e : c.count_live-now.result ≡ l.left = omega (arith, c.if-now-left.true) in
    let q = sym (counted d _ c.count_live-now.ensures) ∙ e ∙ was d in
    let w = settled_safe c.args.v.now.set c.args.v.now.passed l.rounds l.invariant.rounds l.invariant.start (same_count c.args.v.now.set l.rounds q) in
    let z = ended d _ w.1 in
    record { answer = ap (λ n. Ok (record { left = n; rounds = l.rounds })) (was d) ∙ w.0; table = z.0; work = z.1 }

pub loop-table-smaller : goal.loop-table-smaller
loop-table-smaller c = let d = (goal.at.loop-table-smaller c).After-round in
    let n = c.if-now-left.false in
    omega (arith, counted d _ c.count_live-now.ensures, was d, count_down c.args.v.now.set c.loop-table.rounds)

pub loop-table-preserved : goal.loop-table-preserved
loop-table-preserved c = let d = (goal.at.loop-table-preserved c).After-round in
    let l = c.loop-table in
    let s = c.args.v.now.set in
    let counts = counted d _ c.count_live-now.ensures in
    let n = fewer_left s l.rounds (λ q. c.if-now-left.false (counts ∙ q ∙ sym (was d))) in
    record {
      table = new_table d;
      beyond = drop_after c.args.v.now (l.rounds + 1) _ _ (new_work d);
      rounds = omega (arith, R_more (arena_of s) (sound s c.args.v.now.passed) l.rounds l.invariant.rounds n);
      left = counts ∙ ap (λ m. count m (Arena.left (arena_of s) (l.rounds + 1))) (sym c.args.v.now.counted);
      start = left_here d c.if-table-eq0.false;
    }
