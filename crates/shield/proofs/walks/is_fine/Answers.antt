-- Legal, and no outcome astray.
use Rattle.std.proofs.Common.{◌≡◌, sym, subst, ◌∙◌, T, get_or, rules}
use Rattle.tasks.specs.Sets.{task_at}
use Rattle.game.specs.States.{state_of, task_state_at}
use Rattle.game.specs.Game.{legal_at}
use Rattle.game.proofs.WalkLaws.{not_fine}
use Rattle.shield.specs.Entries.{live}
use Rattle.shield.proofs.FineLaws.{task_state, legal_fine}
use Rattle.shield.proofs.walks.is_fine.Goals as goal
use Rattle.shield.proofs.walks.is_fine.Goals.{After-is_legal}

legal_here : (c : After-is_legal) → c.is_legal.result ≡ legal_at c.args.state.now.v.set c.args.state.now.index c.args.choice
legal_here c = let x = c.args.state.now in
    c.is_legal.ensures (task_state_at x.v.set x.index) (λ k y h p.
    let e : y ≡ state_of (task_at x.v.set k) (get_or x.locals k 0) = search rules in e ∙ task_state x k h)

pub walk_on-requires-clause-legal : goal.walk_on-requires-clause-legal
walk_on-requires-clause-legal c =
    let l = legal_here (goal.at.walk_on-requires-clause-legal c).After-is_legal in
    subst T (sym (sym l ∙ c.if-is_legal.true)) tt

pub returns-then-is_legal : goal.returns-then-is_legal
returns-then-is_legal c = let l = legal_here (goal.at.returns-then-is_legal c).After-is_legal in
    c.walk_on.ensures ∙ legal_fine c.args.state.now c.args.table.now c.args.choice (subst T (sym (sym l ∙ c.if-is_legal.true)) tt)

pub returns-else-is_legal : goal.returns-else-is_legal
returns-else-is_legal c = let l = legal_here (goal.at.returns-else-is_legal c).After-is_legal in
    let x = c.args.state.now in
    c.if-is_legal.false ∙ sym (not_fine x.v.set (live c.args.table.now) x.index c.args.choice (sym l ∙ c.if-is_legal.false))
