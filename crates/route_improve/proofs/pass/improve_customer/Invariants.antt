use Rattle.std.proofs.Common.{◌≡◌, ◌<◌, ℕ}
use Rattle.std.specs.Prelude.{IsTrue}
use Rattle.route_improve.specs.Routes.{IsSettledAt}
use Rattle.route_improve.proofs.pass.improve_customer.Given as goal

abbrev pub invariant-loop-j : goal.invariant-loop-j
invariant-loop-j g l = record {
  network : l.pricer ≡ l.initial.pricer;
  same : l.routes.items ≡ l.initial.routes.items;
  stays : IsTrue (g.C.MoveClock.has_ended l.initial.clock) → IsTrue (g.C.MoveClock.has_ended l.clock);
  settled : (j : ℕ) → j < l.j → IsSettledAt l.initial.pricer l.initial.routes.items l.a l.i l.b j;
}
