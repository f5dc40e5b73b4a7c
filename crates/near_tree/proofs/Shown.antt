-- What an accepted tree shows.
use Rattle.std.proofs.Common.{subst}
use Rattle.ev_model.specs.Network.{IsNetwork, Network}
use Rattle.near_proof.specs.Truth.{IsTrueNearBound}
use Rattle.near_tree.specs.Bounds.{IsAccepted}
use Rattle.near_tree.specs.Ranges.{TreeFits}
use Rattle.near_tree.specs.Verdicts.{IsVerdict}
use Rattle.near_tree.specs.declared.proof.TreeProof.{TreeProof}
use Rattle.near_tree.specs.declared.verdict.TreeVerdict.TheVariants.{Accepted}
use Rattle.near_tree.proofs.Leaves.{tree_bound}
use Rattle.near_tree.proofs.Preorder.{one_tree}

pub is_true : (g : Network) (p : TreeProof) → IsNetwork g → TreeFits g p → IsVerdict g p Accepted → IsTrueNearBound g p.bound
is_true g p network fits is =
    let t = fits.tree.0 in
    let fit = fits.tree.1 in
    let same = one_tree p.nodes is.0 t is.1 fit.nodes_are in
    tree_bound g t p.bound network fit.tree (subst (IsAccepted g p.bound) same is.2)
