-- Mark and version, name, count, tasks, number of states.
use mathlib.Core.Path.{◌≡◌, sym, ap, ap₂, ◌∙◌}
use Prim.Native.Nat.{◌+◌, ◌-◌, ◌*◌, ◌/◌, ◌%◌}
use native.Mathlib.Omega.{arith}
use lib.ListN.{length, get_or}
use Rattle.std.specs.Int.{to_le_bytes, w32}
use Rattle.tasks.specs.Sets.{states_of}
use Rattle.tasks.proofs.Valid.{passed_valid}
use Rattle.table_file.specs.Files.{header}
use Rattle.table_file.proofs.FileLaws.{task_at_lem, low_four, states_at}
use borrow.Author.Rules.{rules}
use Rattle.table_file.proofs.headers.header_byte.Goals as goal

pub bounds-v-task : goal.bounds-v-task
bounds-v-task c = omega (arith, (passed_valid c.args.v.set c.args.v.passed).count.1)

pub returns-then-task-from : goal.returns-then-task-from
returns-then-task-from c = let s = c.args.v.set in
    let i = c.args.i in
    let name : length s.name ≡ 16 = search rules in
    let e : i ≡ 22 + (6 * ((i - 22) / 6) + (i - 22) % 6) = omega arith in
    c.task_byte.ensures ∙ sym (ap (λ j. get_or (header s) j 0) e ∙ task_at_lem s name ((i - 22) / 6) ((i - 22) % 6) (omega arith) (omega arith))

pub returns : goal.returns
returns c = let s = c.args.v.set in
    let i = c.args.i in
    let name : length s.name ≡ 16 = search rules in
    let e : i + 4 - c.header_length.result ≡ i - (22 + 6 * s.count) = omega (arith, c.header_length.ensures) in
    ap₂ (λ l k. get_or l k 0) (c.to_le_bytes.ensures ∙ ap (to_le_bytes w32) c.args.v.counted ∙ low_four (states_of s)) e ∙ sym (states_at s name i (omega arith))
