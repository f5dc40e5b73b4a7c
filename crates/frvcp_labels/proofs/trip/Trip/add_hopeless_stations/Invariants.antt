use Rattle.std.specs.List.{All}
use Rattle.frvcp_labels.specs.Listing.{IsStateOnWay}
use Rattle.frvcp_labels.proofs.trip.Trip.add_hopeless_stations.Given as goal

abbrev pub invariant-loop-station : goal.invariant-loop-station
invariant-loop-station l = All (IsStateOnWay l.self) l.states.items
