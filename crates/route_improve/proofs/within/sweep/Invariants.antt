use Rattle.std.proofs.Common.{◌≡◌}
use Rattle.route_improve.specs.Going.{IsGoing}
use Rattle.route_improve.proofs.within.sweep.Given as goal

abbrev pub invariant-loop : goal.invariant-loop
invariant-loop g l = record {
  network : l.pricer ≡ l.initial.pricer;
  going : IsGoing l.initial.pricer l.initial.routes.items l.routes.items l.made;
}
