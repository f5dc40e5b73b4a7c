use Rattle.std.proofs.Common.{◌≡◌, length}
use Rattle.route_pool.proofs.partial_pricing.places_of.Given as goal

abbrev pub invariant-loop-at : goal.invariant-loop-at
invariant-loop-at l = length l.found.items ≡ l.at-index
