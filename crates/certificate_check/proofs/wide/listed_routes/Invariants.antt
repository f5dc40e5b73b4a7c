use Rattle.std.proofs.Common.{take}
use Rattle.certificate_check.specs.Columns.{AreListed}
use Rattle.certificate_check.proofs.wide.listed_routes.Given as goal

abbrev pub invariant-loop-column : goal.invariant-loop-column
invariant-loop-column l = AreListed l.inst (take l.column-index l.columns) l.routes.items
