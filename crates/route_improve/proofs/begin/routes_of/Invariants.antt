use Rattle.std.proofs.Common.{◌≡◌, take}
use Rattle.route_improve.specs.Begun.{AreRoutesOf}
use Rattle.route_improve.proofs.begin.routes_of.Given as goal

abbrev pub invariant-loop-own : goal.invariant-loop-own
invariant-loop-own l = record {
  network : l.pricer ≡ l.inst;
  routes : AreRoutesOf l.inst (take l.own-index l.plan.routes) l.routes.items;
}
