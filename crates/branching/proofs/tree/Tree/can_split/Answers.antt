use Rattle.std.proofs.Common.{◌≡◌, ◌∙◌, ◌↔◌, sym, subst, Some}
use Rattle.std.specs.Prelude.{IsTrue}
use Rattle.std.proofs.lemmas.Option.{same_Some}
use Rattle.customer_sets.specs.Pairs.{allows_of}
use Rattle.branching.specs.Nodes.{node_at}
use Rattle.branching.specs.SearchTree.{IsBranchPair, SearchTree}
use Rattle.branching.specs.Stored.{search_tree_of}
use Rattle.branching.specs.declared.node.Node.{Node}
use Rattle.branching.proofs.Stored.{node_customers}
use Rattle.branching.proofs.tree.Tree.can_split.Goals as goal

pub returns : goal.returns
returns c =
    let t : SearchTree = search_tree_of c.self.inside in
    let key = c.args.key in
    let old = c.index.result.now in
    let here = c.index.ensures in
    let among = node_customers t key old c.self.invariant.sound here in
    let told : IsTrue c.is_branch_pair.result ↔ IsBranchPair t.customers (allows_of old.pairs) c.args.i c.args.j = subst (λ n. IsTrue c.is_branch_pair.result ↔ IsBranchPair n (allows_of old.pairs) c.args.i c.args.j) among c.is_branch_pair.ensures in
    subst
    (λ (p : SearchTree). (node : Node) → node_at p.nodes key ≡ Some node → IsTrue c.is_branch_pair.result ↔ IsBranchPair p.customers (allows_of node.pairs) c.args.i c.args.j)
    c.self.view_is
    (λ node at. subst (λ (m : Node). IsTrue c.is_branch_pair.result ↔ IsBranchPair t.customers (allows_of m.pairs) c.args.i c.args.j) (same_Some old node (sym here ∙ at)) told)
