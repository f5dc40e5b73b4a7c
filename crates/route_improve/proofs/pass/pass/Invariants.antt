use Rattle.std.proofs.Common.{◌≡◌, false}
use Rattle.std.specs.Prelude.{IsTrue}
use Rattle.route_improve.specs.Going.{IsGoing}
use Rattle.route_improve.specs.Routes.{AreSettledTo}
use Rattle.route_improve.proofs.pass.pass.Given as goal

abbrev pub invariant-loop-a : goal.invariant-loop-a
invariant-loop-a g l = record {
  network : l.pricer ≡ l.initial.pricer;
  going : IsGoing l.initial.pricer l.initial.routes.items l.routes.items l.made;
  stays : IsTrue (g.C.MoveClock.has_ended l.initial.clock) → IsTrue (g.C.MoveClock.has_ended l.clock);
  settled : l.made ≡ false → g.C.MoveClock.has_ended l.clock ≡ false → AreSettledTo l.initial.pricer l.initial.routes.items l.a;
}
