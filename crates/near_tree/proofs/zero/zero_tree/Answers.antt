use Rattle.std.proofs.Common.{◌∙◌, ◌<◌, List, [], ◌∷◌, ◌++◌, Some, ap, arith, refl}
use Rattle.ev_model.specs.Network.{node_count}
use Rattle.near_tree.specs.declared.proof.TreeNode.{TreeNode}
use Rattle.near_tree.specs.declared.proof.TreeNode.TheVariants as node
use Rattle.near_tree.proofs.ZeroTrees.{zero_tree_shown}
use Rattle.near_tree.proofs.zero.zero_tree.Goals as goal

pub returns : goal.returns
returns c =
    let g = c.args.inst.now in
    let some : 0 < node_count g = omega (arith, c.nodes-nodes.ensures.value, c.nodes-nodes.ensures.some) in
    let s = c.in_ok-section.section in
    let nodes = c.from_vec.ensures ∙ c.in_ok-push.ensures.items ∙ ap (λ (ns : List TreeNode). ns ++ node.Leaf s ∷ []) c.new-nodes.ensures.items in
    zero_tree_shown g s (record { bound = Some 0; nodes = c.from_vec.result }) some c.in_ok-section.ensures refl nodes
