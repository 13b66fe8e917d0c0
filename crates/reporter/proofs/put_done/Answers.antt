-- The two lines, and the rows where S is at most 64.
use Rattle.std.proofs.Common.{◌≡◌, sym, ap, ◌∙◌, arith, rules, length, take}
use Rattle.tasks.specs.Sets.{states_of}
use Rattle.shield.specs.Shield.{shield_table}
use Rattle.texts.proofs.PutLaws.{puts_in, adds_then, adds_as}
use Rattle.report_lines.specs.Lines.{set_line}
use Rattle.reporter.proofs.Reports.{table_length, rows_left_out, rows_shown}
use Rattle.reporter.proofs.put_done.Goals as goal
use Rattle.reporter.proofs.put_done.Goals.{Else-v-gt64}

pub returns-then-v-gt64 : goal.returns-then-v-gt64
returns-then-v-gt64 c =
    let v = c.args.v in
    let a = adds_as c.put_set_line.ensures (ap (set_line v.set) v.counted) in
    let k = adds_as (adds_then a c.put_shield_line.ensures) (rows_left_out (states_of v.set) (shield_table v.set) _ (omega (arith, v.counted, c.if-v-gt64.true))) in
    puts_in k.puts (search (rules, k.same))

-- the table's first S bytes
first_entries : (d : Else-v-gt64) → take d.args.v.states d.args.table.now ≡ shield_table d.args.v.set
first_entries d = ap (λ n. take n d.args.table.now) d.args.v.counted ∙ d.requires

pub slice_bounds-put_rows-end : goal.slice_bounds-put_rows-end
slice_bounds-put_rows-end c =
    c.args.v.counted ∙ sym (ap length (first_entries (goal.at.slice_bounds-put_rows-end c).Else-v-gt64) ∙ table_length c.args.v.set)

pub returns : goal.returns
returns c =
    let v = c.args.v in
    let a = adds_as c.put_set_line.ensures (ap (set_line v.set) v.counted) in
    let x = rows_shown (states_of v.set) (shield_table v.set) _ (omega (arith, v.counted, c.if-v-gt64.false)) (table_length v.set) (first_entries (goal.at.returns c).Else-v-gt64) in
    let k = adds_then (adds_then a c.put_shield_line.ensures) (adds_as c.put_rows.ensures x) in
    puts_in k.puts (search (rules, k.same))
