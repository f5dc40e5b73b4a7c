use Rattle.std.proofs.Common.{ℕ, ◌<◌}
use Rattle.near_tree.specs.Judging.{AreStepsCovered}
use Rattle.near_tree.specs.Preorder.{leaf_label}
use Rattle.near_tree.specs.Sites.{leaf_of}
use Rattle.near_tree.proofs.judge.Judge.uncovered_node.Given as goal

abbrev pub invariant-loop-node : goal.invariant-loop-node
invariant-loop-node l = (x : ℕ) → x < l.node → AreStepsCovered l.self.site.inst.now (leaf_of l.self.site) (leaf_label l.label) x
