use Rattle.std.proofs.Common.{◌-◌}
use Rattle.std.specs.List.{All}
use Rattle.certificate_parts.specs.Ranges.{ColumnFits}
use Rattle.certificate_parts.proofs.ItemLoops.{AreManyTo}
use Rattle.near_text.specs.Reading.{tight_at}
use Rattle.near_text.proofs.reading.tight.take_tight.Given as goal

abbrev pub invariant-loop : goal.invariant-loop
invariant-loop l = AreManyTo tight_at l.fn.scan l.count l.plans.items (l.count - l.counter) l.scan × All ColumnFits l.plans.items
