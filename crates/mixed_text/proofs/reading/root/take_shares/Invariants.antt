use Rattle.std.proofs.Common.{◌-◌}
use Rattle.std.specs.List.{All}
use Rattle.mixed_model.specs.Ranges.{ShareFits}
use Rattle.mixed_text.specs.Reading.{mixed_share_at}
use Rattle.certificate_parts.proofs.ItemLoops.{AreManyTo}
use Rattle.mixed_text.proofs.reading.root.take_shares.Given as goal

abbrev pub invariant-loop : goal.invariant-loop
invariant-loop l = AreManyTo (mixed_share_at l.kinds) l.fn.scan l.count l.shares.items (l.count - l.counter) l.scan × All (ShareFits l.kinds) l.shares.items
