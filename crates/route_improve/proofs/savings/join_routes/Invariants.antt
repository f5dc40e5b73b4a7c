use Rattle.std.proofs.Common.{◌≡◌}
use Rattle.std.specs.Prelude.{IsTrue}
use Rattle.route_improve.specs.Going.{IsGoing}
use Rattle.route_improve.proofs.savings.join_routes.Given as goal

abbrev pub invariant-loop-saving : goal.invariant-loop-saving
invariant-loop-saving g l = record {
  network : l.pricer ≡ l.initial.pricer;
  stays : IsTrue (g.C.MoveClock.has_ended l.initial.clock) → IsTrue (g.C.MoveClock.has_ended l.clock);
  going : IsGoing l.initial.pricer l.initial.routes.items l.routes.items l.made;
}
