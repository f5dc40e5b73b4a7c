use Rattle.std.proofs.Common.{◌≡◌, false}
use Rattle.std.specs.Prelude.{IsTrue}
use Rattle.route_improve.specs.Routes.{IsSettledPair}
use Rattle.route_improve.proofs.pass.improve_pair.Given as goal

abbrev pub invariant-loop-i : goal.invariant-loop-i
invariant-loop-i g l = record {
  network : l.pricer ≡ l.initial.pricer;
  same : l.routes.items ≡ l.initial.routes.items;
  stays : IsTrue (g.C.MoveClock.has_ended l.initial.clock) → IsTrue (g.C.MoveClock.has_ended l.clock);
  settled : g.C.MoveClock.has_ended l.clock ≡ false → IsSettledPair l.initial.pricer l.initial.routes.items l.i l.a l.b;
}
