use Rattle.std.proofs.Common.{◌≡◌, ◌≤◌, drop, length}
use Rattle.route_proof.specs.Following.{follows}
use Rattle.route_proof.proofs.plan.follows.Given as goal

abbrev pub invariant-loop-stop : goal.invariant-loop-stop
invariant-loop-stop l = record {
  within : l.passed ≤ length l.route;
  told : follows (drop l.passed l.route) (drop l.stop-index l.stops) ≡ follows l.route l.stops;
}
