use Rattle.std.proofs.Common.{◌≡◌, false}
use Rattle.std.specs.Prelude.{IsTrue}
use Rattle.route_improve.specs.Going.{IsGoing}
use Rattle.route_improve.specs.Routes.{IsSettledList}
use Rattle.route_improve.proofs.pass.improve_route.Given as goal

abbrev pub invariant-loop-b : goal.invariant-loop-b
invariant-loop-b g l = record {
  network : l.pricer ≡ l.initial.pricer;
  going : IsGoing l.initial.pricer l.initial.routes.items l.routes.items l.made;
  stays : IsTrue (g.C.MoveClock.has_ended l.initial.clock) → IsTrue (g.C.MoveClock.has_ended l.clock);
  settled : l.made ≡ false → g.C.MoveClock.has_ended l.clock ≡ false → IsSettledList l.initial.pricer l.initial.routes.items l.b l.a;
}
