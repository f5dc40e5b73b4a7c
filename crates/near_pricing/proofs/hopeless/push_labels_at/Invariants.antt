use Rattle.std.specs.List.{All}
use Rattle.near_proof.specs.Ranges.{NearLabelFits}
use Rattle.near_pricing.proofs.hopeless.push_labels_at.Given as goal

abbrev pub invariant-loop-layer : goal.invariant-loop-layer
invariant-loop-layer l = All (NearLabelFits l.inst) l.labels.items
