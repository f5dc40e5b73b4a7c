use Rattle.std.proofs.Common.{take}
use Rattle.std.specs.List.{All}
use Rattle.frvcp_labels.specs.Listing.{IsPointWithin}
use Rattle.frvcp_labels.proofs.trip.Trip.are_low.Given as goal

abbrev pub invariant-loop-point : goal.invariant-loop-point
invariant-loop-point l = All (IsPointWithin l.self.network) (take l.point-index l.points)
