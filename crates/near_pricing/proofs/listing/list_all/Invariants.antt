use Rattle.std.proofs.Common.{length}
use Rattle.std.specs.List.{All}
use Rattle.near_proof.specs.Ranges.{NearLabelFits}
use Rattle.near_pricing.proofs.listing.list_all.Given as goal

abbrev pub invariant-loop-label : goal.invariant-loop-label
invariant-loop-label l = record {
  left : All (NearLabelFits l.pricing.network) l.labels.items;
  fit : All (NearLabelFits l.pricing.network) l.listed.items;
}

abbrev pub decreases-loop-label : goal.decreases-loop-label
decreases-loop-label l = length l.labels.items
