use Rattle.std.proofs.Common.{take}
use Rattle.std.specs.List.{All}
use Rattle.certificate_parts.specs.Ranges.{ColumnFits}
use Rattle.bound_certificate.proofs.ranges.root.each_column_fits.Given as goal

abbrev pub invariant-loop-column : goal.invariant-loop-column
invariant-loop-column l = All (ColumnFits) (take l.column-index l.columns)
