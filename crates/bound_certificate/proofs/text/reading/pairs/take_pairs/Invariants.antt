use Rattle.std.proofs.Common.{◌-◌}
use Rattle.bound_certificate.proofs.PairReading.{ArePairsTo}
use Rattle.bound_certificate.proofs.text.reading.pairs.take_pairs.Given as goal

abbrev pub invariant-loop : goal.invariant-loop
invariant-loop l = ArePairsTo l.inst l.fn.scan l.count l.pairs l.last (l.count - l.counter) l.scan
