use Rattle.report_lines.proofs.Reduced.{divisor_fits, some_divisor}
use Rattle.report_lines.proofs.fraction.common_divisor.Goals as goal

pub returns : goal.returns
returns c = record {
  greatest = c.gcd.ensures.greatest;
  some = some_divisor c.args.size c.args.part c.gcd.result c.requires c.gcd.ensures.greatest;
  within = divisor_fits c.args.size c.args.part c.gcd.result c.requires c.gcd.ensures.greatest;
}
