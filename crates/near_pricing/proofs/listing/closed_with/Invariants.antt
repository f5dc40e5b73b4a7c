use Rattle.std.specs.List.{All}
use Rattle.near_proof.specs.Ranges.{NearLabelFits}
use Rattle.near_pricing.proofs.listing.closed_with.Given as goal

abbrev pub invariant-loop : goal.invariant-loop
invariant-loop l = All (NearLabelFits l.pricing.network) l.labels.items
