use Rattle.std.proofs.Common.{take}
use Rattle.std.specs.List.{AllZip}
use Rattle.mixed_model.specs.Tellings.{IsListedIn}
use Rattle.mixed_model.proofs.routes.listed_routes.Given as goal

abbrev pub invariant-loop-column : goal.invariant-loop-column
invariant-loop-column l = AllZip (IsListedIn l.kinds) (take l.column-index l.columns) l.routes.items
