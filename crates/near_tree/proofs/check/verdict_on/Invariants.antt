use Rattle.std.proofs.Common.{◌≤◌, drop, map}
use Rattle.near_tree.specs.Paths.{IsPath, trees_at}
use Rattle.near_tree.specs.Preorder.{node_of}
use Rattle.near_tree.specs.Ranges.{IsFitTree}
use Rattle.near_tree.specs.Trees.{NearTree}
use Rattle.near_tree.specs.Walks.{IsWalkedTo}
use Rattle.near_tree.proofs.check.verdict_on.Given as goal

abbrev pub invariant-loop-node : goal.invariant-loop-node
invariant-loop-node l = record {
  path : IsPath l.inst l.path.items;
  walked : (t : NearTree) → IsFitTree l.inst l.nodes t → IsWalkedTo l.inst l.proof.bound t (trees_at l.path.items) (map node_of (drop l.node-index l.nodes)) l.leaf l.unbounded;
  few : l.leaf ≤ l.node-index;
}
