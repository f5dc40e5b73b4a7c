use Rattle.std.proofs.Common.{◌≡◌, ◌∙◌, ◌<◌, arith, pos, length, FitsSigned, to_z, ap, ap₂, sym, subst}
use Rattle.std.specs.Int.{w128}
use Rattle.std.proofs.lemmas.Int.{ints, to_z-of_z}
use Rattle.fleet_model.proofs.Totals.{length-combined}
use Rattle.master_table.specs.Pivoting.{combined_row, divided_row, divisor}
use Rattle.master_table.specs.RowView.{equation_of}
use Rattle.master_table.proofs.Sizes.{divisor_small}
use Rattle.master_table.proofs.rows.next_row.Goals as goal

pub divisor_of-divisor-requires : goal.divisor_of-divisor-requires
divisor_of-divisor-requires c =
    let own : FitsSigned w128 c.args.own = c.ranges.own in
    let by : FitsSigned w128 c.args.by = c.ranges.by in
    let all = combined_row c.args.own c.args.by (equation_of c.args.row.now) (equation_of c.args.turned.now) in
    let is : equation_of c.in_ok-next.next ≡ all = simp to_z-of_z at c.in_ok-next.ensures in
    let whole : length c.in_ok-next.next.entries.items ≡ length c.args.row.now.entries.items = ap (λ row. length row.entries) is ∙ length-combined c.args.own c.args.by c.args.row.now.entries.items c.args.turned.now.entries.items c.requires.same in
    omega arith

pub overflow_cast-divisor : goal.overflow_cast-divisor
overflow_cast-divisor c =
    let own : FitsSigned w128 c.args.own = c.ranges.own in
    let by : FitsSigned w128 c.args.by = c.ranges.by in
    let all = combined_row c.args.own c.args.by (equation_of c.args.row.now) (equation_of c.args.turned.now) in
    let is : equation_of c.in_ok-next.next ≡ all = simp to_z-of_z at c.in_ok-next.ensures in
    let same : c.divisor_of-divisor.result ≡ divisor c.args.n all = c.divisor_of-divisor.ensures ∙ ap (divisor c.args.n) is in
    let small = divisor_small c.args.n c.args.own c.args.by (equation_of c.args.row.now) (equation_of c.args.turned.now) c.requires.own c.requires.by c.requires.row c.requires.turned c.requires.some in
    omega (arith, ints)

pub divide_row-requires : goal.divide_row-requires
divide_row-requires c =
    let own : FitsSigned w128 c.args.own = c.ranges.own in
    let by : FitsSigned w128 c.args.by = c.ranges.by in
    let all = combined_row c.args.own c.args.by (equation_of c.args.row.now) (equation_of c.args.turned.now) in
    let is : equation_of c.in_ok-next.next ≡ all = simp to_z-of_z at c.in_ok-next.ensures in
    let same : c.divisor_of-divisor.result ≡ divisor c.args.n all = c.divisor_of-divisor.ensures ∙ ap (divisor c.args.n) is in
    let small = divisor_small c.args.n c.args.own c.args.by (equation_of c.args.row.now) (equation_of c.args.turned.now) c.requires.own c.requires.by c.requires.row c.requires.turned c.requires.some in
    let some : 0 < c.divisor_of-divisor.result = subst (λ d. 0 < d) (sym same) c.requires.some in
    omega (arith, ints)

pub returns : goal.returns
returns c =
    let own : FitsSigned w128 c.args.own = c.ranges.own in
    let by : FitsSigned w128 c.args.by = c.ranges.by in
    let all = combined_row c.args.own c.args.by (equation_of c.args.row.now) (equation_of c.args.turned.now) in
    let is : equation_of c.in_ok-next.next ≡ all = simp to_z-of_z at c.in_ok-next.ensures in
    let same : c.divisor_of-divisor.result ≡ divisor c.args.n all = c.divisor_of-divisor.ensures ∙ ap (divisor c.args.n) is in
    let small = divisor_small c.args.n c.args.own c.args.by (equation_of c.args.row.now) (equation_of c.args.turned.now) c.requires.own c.requires.by c.requires.row c.requires.turned c.requires.some in
    let d : to_z w128 c.divisor_of-divisor.result ≡ pos (divisor c.args.n all) = omega (arith, ints) in
    c.divide_row.ensures ∙ ap₂ divided_row d is
