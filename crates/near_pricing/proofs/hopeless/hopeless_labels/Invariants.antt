use Rattle.std.specs.List.{All}
use Rattle.near_proof.specs.Ranges.{NearLabelFits}
use Rattle.near_pricing.proofs.hopeless.hopeless_labels.Given as goal

abbrev pub invariant-loop-node : goal.invariant-loop-node
invariant-loop-node l = All (NearLabelFits l.inst) l.labels.items
