use Rattle.std.proofs.Common.{◌-◌}
use Rattle.std.specs.List.{All}
use Rattle.bound_certificate.specs.Ranges.{ShareFits}
use Rattle.bound_certificate.specs.Reading.{share_at}
use Rattle.certificate_parts.proofs.ItemLoops.{AreManyTo}
use Rattle.bound_certificate.proofs.text.reading.root.take_shares.Given as goal

abbrev pub invariant-loop : goal.invariant-loop
invariant-loop l = AreManyTo share_at l.fn.scan l.count l.shares.items (l.count - l.counter) l.scan × All ShareFits l.shares.items
