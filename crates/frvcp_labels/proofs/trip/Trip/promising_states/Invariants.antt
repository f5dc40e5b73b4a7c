use Rattle.std.specs.List.{All}
use Rattle.frvcp_labels.specs.Listing.{IsStateOnWay}
use Rattle.frvcp_labels.proofs.trip.Trip.promising_states.Given as goal

abbrev pub invariant-loop-i : goal.invariant-loop-i
invariant-loop-i l = All (IsStateOnWay l.self) l.states.items
