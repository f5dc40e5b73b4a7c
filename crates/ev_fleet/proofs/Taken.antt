-- Between two nodes no node is taken.
use Rattle.std.proofs.Common.{◌≡◌, ◌∙◌, ℕ, ◌<◌, true, List, [], Option, Some, refl, sym, ap, subst, arith}
use Rattle.std.specs.Prelude.{cond, is_some}
use Rattle.std.proofs.lemmas.Option.{same_Some}
use Rattle.customer_sets.specs.Pairs.{any_pair}
use Rattle.bound_certificate.specs.declared.certificate.Section.{Section}
use Rattle.branching.specs.Nodes.{node_at, IsLive, IsOpen, awaits, lives}
use Rattle.branching.specs.SearchTree.{IsSearchTree, SearchTree, leaves_with}
use Rattle.branching.specs.declared.node.Node.{Node}
use Rattle.branching.specs.declared.node.NodeState.{NodeState}
use Rattle.branching.specs.declared.node.NodeState.TheVariants.{Open, Taken, Closed}
use Rattle.ev_fleet.specs.Searched.{SearchedTree, branches_of}
use Rattle.ev_fleet.specs.State.{IsLeafWell, IsNodeWell, IsSearchAt, IsStateWell}
use Rattle.ev_fleet.proofs.Nodes.{leaf_of}

open_by_state : (sections : List Section) (cost : Option ℕ) (floor : ℕ) (above : List ℕ) (own : Option ℕ) (name bound : ℕ) (state : NodeState)
    → IsStateWell sections cost floor above own name bound state → lives state ≡ true → awaits state ≡ true
open_by_state sections cost floor above own name bound Open well lives_ = refl
open_by_state sections cost floor above own name bound Taken well lives_ = absurd well
open_by_state sections cost floor above own name bound Closed well lives_ = lives_

pub live_is_open : (n : ℕ) (tree : SearchTree) (sections : List Section) (cost : Option ℕ) (floor : ℕ) (t : SearchedTree) → IsSearchTree tree → IsSearchAt n tree sections cost floor t
    → (key : ℕ) (node : Node) → node_at tree.nodes key ≡ Some node → IsLive node → IsOpen node
live_is_open n tree sections cost floor t sound is key node here live =
    let one : leaves_with key (branches_of t) ≡ 1 = ap (λ b. leaves_with key b) is.keys ∙ sound.leaves key ∙ ap (λ o. cond (is_some o) 1 0) here in
    let some : 0 < leaves_with key (branches_of t) = omega (arith, one) in
    let found = leaf_of (λ a b x. IsLeafWell tree.nodes sections cost floor b x) key any_pair [] t some is.leaves in
    let leaf = found.3 in
    let same : leaf.node ≡ node = same_Some leaf.node node (sym leaf.here ∙ here) in
    let well : IsNodeWell sections cost floor found.1 found.2 node = subst (IsNodeWell sections cost floor found.1 found.2) same leaf.is in
    open_by_state sections cost floor found.1 found.2 node.section node.bound node.state well live
