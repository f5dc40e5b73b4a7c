use Rattle.std.proofs.Common.{◌-◌}
use Rattle.std.specs.List.{All}
use Rattle.mixed_model.specs.Ranges.{RouteFits}
use Rattle.mixed_text.specs.Reading.{mixed_column_at}
use Rattle.certificate_parts.proofs.ItemLoops.{AreManyTo}
use Rattle.mixed_text.proofs.reading.root.take_columns.Given as goal

abbrev pub invariant-loop : goal.invariant-loop
invariant-loop l = AreManyTo (mixed_column_at l.kinds) l.fn.scan l.count l.columns.items (l.count - l.counter) l.scan × All (RouteFits l.kinds) l.columns.items
