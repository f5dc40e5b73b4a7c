use Rattle.std.proofs.Common.{rules, arith}
use Rattle.ev_text.proofs.Readings.{TakesNumber-from_whole_at}
use Rattle.ev_text.proofs.scan.Scan.whole.Goals as goal

pub returns-clause-number : goal.returns-clause-number
returns-clause-number c = TakesNumber-from_whole_at c.args.limit c.args.self.now _ _ (omega (arith, c.ranges.limit)) (search rules)
