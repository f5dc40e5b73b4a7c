use Rattle.std.proofs.Common.{◌≡◌, length}
use Rattle.mixed_fleet.proofs.partition.candidates_of.Given as goal

abbrev pub invariant-loop-route : goal.invariant-loop-route
invariant-loop-route l = length l.candidates.items ≡ l.route-index
