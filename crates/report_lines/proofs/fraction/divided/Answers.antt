use Rattle.std.proofs.Common.{◌≡◌, ◌∙◌, FitsSigned, ap, arith, int_div, of_z, pos, rules, to_z}
use Rattle.std.specs.Int.{w128}
use Rattle.std.proofs.lemmas.Int.{ints, to_z-of_z}
use Rattle.report_lines.proofs.Reduced.{divided_fraction}
use Rattle.report_lines.proofs.fraction.divided.Goals as goal

pub returns : goal.returns
returns c =
    let small = c.requires.small in
    let divisor : to_z w128 c.args.divisor ≡ pos c.args.divisor = omega (arith, ints) in
    let fits : FitsSigned w128 c.quotient.result = search rules in
    let back : to_z w128 (of_z w128 c.quotient.result) ≡ c.quotient.result = omega (arith, ints) in
    let whole : FitsSigned w128 c.args.whole = c.ranges.whole in
    let told : c.quotient.result ≡ int_div c.args.whole (to_z w128 c.args.divisor) = simp to_z-of_z at c.quotient.ensures in
    let is = back ∙ told ∙ ap (int_div c.args.whole) divisor in
    let both = divided_fraction c.args.whole c.args.part c.args.divisor (to_z w128 (of_z w128 c.quotient.result)) is c.requires.greatest c.requires.some c.requires.divisor in
    record { value = both.0; lowest = both.1 }
