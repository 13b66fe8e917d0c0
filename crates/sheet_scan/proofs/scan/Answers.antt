-- Each byte read adds to the name and the tasks what its step says; past the loop the last mode and count say whether a sheet ended.
use Rattle.std.proofs.Common.{◌≡◌, ℕ, ◌+◌, Bool, cond, List, length, sym, ap, ap₂, ◌∙◌, get_or, set}
use mathlib.Core.Path.{subst⁻¹}
use Rattle.tasks.specs.declared.sets.Task.{Task}
use Rattle.tasks.specs.declared.sets.Set.{Set}
use Rattle.sheet_fields.specs.declared.state.State.{State}
use Rattle.sheet_fields.specs.State.{set_word, blank_of}
use Rattle.sheet_fields.specs.Fields.{ended_task}
use Rattle.std.specs.Bool.{then_some}
use Rattle.sheet_scan.specs.Scan.{scan_text}
use Rattle.sheet_scan.specs.Steps.{tasks_after}
use Rattle.sheet_scan.proofs.Pack.{set_after}
use Rattle.sheet_scan.proofs.Scans.{SoFar, at_first, further, faulted, ended}
use Rattle.sheet_scan.proofs.scan.Goals as goal
use Rattle.sheet_scan.proofs.scan.Goals.{Joined-ends_task, then-ends_task, else-ends_task}

abbrev so_far : List ℕ → List Task → State → Set
so_far name tasks s = record { name = name; count = s.count; tasks = tasks }

-- a task that ends is put after those before it, and the byte's state is kept
joined : (c : Joined-ends_task) → let l = c.loop-i in (c.if-ends_task.tasks ≡ tasks_after l.tasks l.s c.step-n.result) × (c.if-ends_task.s ≡ c.step-n.result)
joined c =
    let l = c.loop-i in
    let e = c.ends_task.ensures in
    let added : Bool → List Task = λ b. cond b (set l.tasks l.s.count (ended_task l.s)) l.tasks in
    elim c.if-ends_task.branch [
      | then-ends_task w ↦
          (w.tasks-is ∙ ap₂ (set l.tasks) w.from-k.ensures w.ended_task.ensures ∙ sym (ap added (sym e ∙ w.if-ends_task.true)), w.s-is)
      | else-ends_task w ↦ (w.tasks-is ∙ sym (ap added (sym e ∙ w.if-ends_task.false)), w.s-is)
    ]

pub loop-i-init : goal.loop-i-init
loop-i-init c =
    let t = c.rest-rest.result.now in
    let n = c.no_set in
    subst⁻¹ (λ (x : State). SoFar t x (so_far n.result.name n.result.tasks x) 0) c.blank-s.ensures
    (subst⁻¹ (λ (x : Set). SoFar t (blank_of set_word) (record { name = x.name; count = 0; tasks = x.tasks }) 0) n.ensures (at_first t))

pub returns-then-n-eq-FAULT : goal.returns-then-n-eq-FAULT
returns-then-n-eq-FAULT c =
    let l = c.loop-i in
    let t = c.rest-rest.result.now in
    faulted t l.s (so_far l.name l.tasks l.s) l.i l.invariant c.loop-i-test.true c.step-n.result c.step-n.ensures c.if-n-eq-FAULT.true ∙ ap scan_text c.rest-rest.ensures

pub loop-i-preserved : goal.loop-i-preserved
loop-i-preserved c =
    let l = c.loop-i in
    let t = c.rest-rest.result.now in
    let n = c.step-n.result in
    let k : so_far c.add_byte.new.name c.if-ends_task.tasks n ≡ set_after (so_far l.name l.tasks l.s) l.s n (get_or t l.i 0)
    = λ j. record { name = c.add_byte.ensures j; count = n.count; tasks = (joined c).0 j } in
    subst⁻¹ (λ (x : State). SoFar t x (so_far c.add_byte.new.name c.if-ends_task.tasks x) (l.i + 1)) (joined c).1
    (subst⁻¹ (λ x. SoFar t n x (l.i + 1)) k (further t l.s (so_far l.name l.tasks l.s) l.i l.invariant c.loop-i-test.true n c.step-n.ensures c.if-n-eq-FAULT.false))

pub returns : goal.returns
returns c =
    let l = c.loop-i in
    let t = c.rest-rest.result.now in
    ap (λ o. record { reach = length t; set = o }) (c.then_some.ensures ∙ ap (λ b. then_some b (so_far l.name l.tasks l.s)) c.is_whole.ensures)
    ∙ ended t l.s (so_far l.name l.tasks l.s) l.i l.invariant c.loop-i-test.false
    ∙ ap scan_text c.rest-rest.ensures
