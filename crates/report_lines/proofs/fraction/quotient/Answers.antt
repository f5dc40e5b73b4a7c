use Rattle.std.proofs.Common.{FitsSigned, int_div}
use Rattle.std.specs.Int.{w128}
use Rattle.std.proofs.lemmas.Int.{quot_fits, quot_is}
use Rattle.report_lines.proofs.fraction.quotient.Goals as goal

pub returns : goal.returns
returns c =
    let whole : FitsSigned w128 c.args.whole = c.ranges.whole in
    let divisor : FitsSigned w128 c.args.divisor = c.ranges.divisor in
    let fits : FitsSigned w128 (int_div c.args.whole c.args.divisor) = quot_fits w128 c.args.whole c.args.divisor whole c.requires in
    quot_is w128 c.args.whole c.args.divisor whole divisor fits
