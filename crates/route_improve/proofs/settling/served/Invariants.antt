use Rattle.std.proofs.Common.{◌≡◌}
use Rattle.route_improve.specs.Arranged.{are_served}
use Rattle.route_improve.proofs.settling.served.Given as goal

abbrev pub invariant-loop-route : goal.invariant-loop-route
invariant-loop-route l = l.served.items ≡ are_served l.yielded
