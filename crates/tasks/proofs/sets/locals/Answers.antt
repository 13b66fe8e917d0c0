-- 16 times 17 at most.
use mathlib.Core.Path.{sym}
use Prim.Native.Nat.{◌*◌, ◌+◌, ◌≤◌}
use native.Mathlib.Nat.{mul-le-mul}
use native.Mathlib.Omega.{arith}
use Rattle.tasks.specs.Sets.{locals_of}
use Rattle.tasks.proofs.ListLaws.{longest_le}
use Rattle.tasks.proofs.sets.locals.Goals as goal

small : (c : goal.After-longest-2) → c.longest.result * (c.longest-2.result + 1) ≤ 272
small c =
    let a : c.longest.result ≤ 16 = omega (arith, c.longest.ensures, longest_le c.args.t.gaps) in
    let b : c.longest-2.result + 1 ≤ 17 = omega (arith, c.longest-2.ensures, longest_le c.args.t.runs) in
    mul-le-mul a b

pub overflow_add-result : goal.overflow_add-result
overflow_add-result c = omega (arith, c.longest-2.ensures, longest_le c.args.t.runs)

pub overflow_mul-result : goal.overflow_mul-result
overflow_mul-result c = record { fits = omega (arith, small c) }

pub returns : goal.returns
unfolding locals_of
returns c = record { value = simp (sym c.longest.ensures, sym c.longest-2.ensures); small = small c }
