use Rattle.std.proofs.Common.{◌≡◌, ◌≤◌, ◌*◌, ◌^◌, take}
use Rattle.mixed_fleet.specs.Searched.{total_time}
use Rattle.mixed_fleet.proofs.held.total_time.Given as goal

abbrev pub invariant-loop-route : goal.invariant-loop-route
invariant-loop-route l = record {
  small : l.total ≤ l.route-index * 2 ^ 64;
  sum : l.total ≡ total_time (take l.route-index l.routes);
}
