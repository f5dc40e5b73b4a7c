use Rattle.std.specs.List.{All}
use Rattle.frvcp_labels.specs.Listing.{IsStateOnWay}
use Rattle.frvcp_labels.proofs.trip.Trip.add_hopeless.Given as goal

abbrev pub invariant-loop-passed : goal.invariant-loop-passed
invariant-loop-passed l = All (IsStateOnWay l.self) l.states.items
