use Rattle.std.proofs.Common.{length}
use Rattle.std.specs.List.{All}
use Rattle.label_steps.specs.Arrivals.{IsWithin}
use Rattle.near_proof.specs.Ranges.{NearLabelFits}
use Rattle.near_pricing.proofs.listing.list_values.Given as goal

abbrev pub invariant-loop-value : goal.invariant-loop-value
invariant-loop-value l = record {
  values : All (IsWithin l.pricing.network) l.values.items;
  fit : All (NearLabelFits l.pricing.network) l.labels.items;
}

abbrev pub decreases-loop-value : goal.decreases-loop-value
decreases-loop-value l = length l.values.items
