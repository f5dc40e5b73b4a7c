use Rattle.std.proofs.Common.{◌≡◌, ◌*ℤ◌, ◌-ℤ◌, pos, get_or, arith, rules, FitsSigned}
use Rattle.std.proofs.lemmas.Grind.{common_steps}
use Rattle.std.specs.Int.{w128}
use Rattle.std.proofs.lemmas.Int.{to_z-of_z}
use Rattle.fleet_model.proofs.Totals.{combined_push}
use Rattle.master_table.proofs.rows.combine.Goals as goal

pub loop-i-preserved : goal.loop-i-preserved
loop-i-preserved c =
    let own : FitsSigned w128 c.args.own = c.ranges.own in
    let by : FitsSigned w128 c.args.by = c.ranges.by in
    let in_row : FitsSigned w128 (get_or c.args.row.now c.loop-i.i (pos 0)) = search rules in
    let in_turned : FitsSigned w128 (get_or c.args.turned.now c.loop-i.i (pos 0)) = search rules in
    let fits : FitsSigned w128 c.combined_entry.result = search rules in
    let is : c.combined_entry.result ≡ c.args.own *ℤ get_or c.args.row.now c.loop-i.i (pos 0) -ℤ c.args.by *ℤ get_or c.args.turned.now c.loop-i.i (pos 0) = simp to_z-of_z at c.combined_entry.ensures in
    let before = simp to_z-of_z at c.loop-i.invariant in
    let more = combined_push c.args.own c.args.by c.combined_entry.result c.loop-i.i c.args.row.now c.args.turned.now c.loop-i.out.items c.requires.same (omega arith) is before in
    simp to_z-of_z (search (rules, more))

pub combined_entry-requires-clause-own : goal.combined_entry-requires-clause-own
combined_entry-requires-clause-own = grind (arith, common_steps)

pub combined_entry-requires-clause-y : goal.combined_entry-requires-clause-y
combined_entry-requires-clause-y = grind (arith, common_steps)

pub combined_entry-requires-clause-by : goal.combined_entry-requires-clause-by
combined_entry-requires-clause-by = grind (arith, common_steps)

pub returns : goal.returns
returns = grind (arith, common_steps)

pub combined_entry-requires-clause-x : goal.combined_entry-requires-clause-x
combined_entry-requires-clause-x = grind (arith, common_steps)
