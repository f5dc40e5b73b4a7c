use Rattle.std.proofs.Common.{◌≡◌, pos, FitsSigned, arith}
use Rattle.std.specs.Int.{w128}
use Rattle.std.proofs.lemmas.Int.{ints}
use Rattle.master_table.proofs.Reduced.{divided_one}
use Rattle.master_table.specs.RowView.{equation_of}
use Rattle.master_table.proofs.rows.divide_row.Goals as goal

pub returns-then-d-eq1 : goal.returns-then-d-eq1
returns-then-d-eq1 c =
    let d : FitsSigned w128 c.args.d = c.ranges.d in
    let one : c.args.d ≡ pos 1 = omega (arith, ints) in
    divided_one c.args.d (equation_of c.args.row) one
