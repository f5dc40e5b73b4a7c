use Rattle.std.proofs.Common.{take}
use Rattle.route_improve.specs.Own.{AreOwn}
use Rattle.route_improve.proofs.own.own_routes.Given as goal

abbrev pub invariant-loop-node : goal.invariant-loop-node
invariant-loop-node l = AreOwn l.inst (take l.node-index l.customers) l.routes.items
