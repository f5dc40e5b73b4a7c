use Rattle.std.proofs.Common.{◌-◌}
use Rattle.std.specs.List.{All}
use Rattle.certificate_parts.specs.Ranges.{ColumnFits}
use Rattle.bound_certificate.specs.Reading.{column_at}
use Rattle.certificate_parts.proofs.ItemLoops.{AreManyTo}
use Rattle.bound_certificate.proofs.text.reading.root.take_columns.Given as goal

abbrev pub invariant-loop : goal.invariant-loop
invariant-loop l = AreManyTo column_at l.fn.scan l.count l.columns.items (l.count - l.counter) l.scan × All ColumnFits l.columns.items
