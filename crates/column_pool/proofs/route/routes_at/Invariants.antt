use Rattle.std.specs.List.{All}
use Rattle.column_pool.specs.Nodes.{IsTimedRoute}
use Rattle.column_pool.proofs.route.routes_at.Given as goal

abbrev pub invariant-loop-at : goal.invariant-loop-at
invariant-loop-at l = All (IsTimedRoute l.inst l.pairs) l.found.items
