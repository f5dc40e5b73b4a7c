use Rattle.std.proofs.Common.{◌≡◌, drop}
use Rattle.ev_fleet.specs.Greedy.{with_all_apart}
use Rattle.ev_fleet.proofs.greedy.add_routes.Given as goal

abbrev pub invariant-loop-route : goal.invariant-loop-route
invariant-loop-route l =
    with_all_apart l.routes.items (drop l.route-index l.others) ≡ with_all_apart l.initial.routes.items l.others
