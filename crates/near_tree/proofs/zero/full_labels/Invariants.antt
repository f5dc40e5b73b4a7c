use Rattle.std.proofs.Common.{◌≡◌, map}
use Rattle.std.specs.List.{All}
use Rattle.near_tree.specs.Preorder.{leaf_label}
use Rattle.near_tree.specs.Ranges.{SectionLabelFits}
use Rattle.near_tree.specs.Zero.{HasKeptMemory, zero_labels}
use Rattle.near_tree.proofs.zero.full_labels.Given as goal

abbrev pub invariant-loop-node : goal.invariant-loop-node
invariant-loop-node l = record {
  labels : map leaf_label l.labels.items ≡ zero_labels l.inst l.node;
  fit : All (SectionLabelFits l.inst) l.labels.items;
  kept : All HasKeptMemory l.labels.items;
}
