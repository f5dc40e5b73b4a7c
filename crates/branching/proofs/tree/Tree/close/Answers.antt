use Rattle.std.proofs.Common.{◌≡◌, ◌∙◌, ◌<◌, set, refl, sym, ap, subst, Some}
use Rattle.std.proofs.lemmas.Option.{same_Some}
use Rattle.branching.specs.Nodes.{IsTaken, node_at}
use Rattle.branching.specs.SearchTree.{closed_with, SearchTree, with_node}
use Rattle.branching.specs.Stored.{search_tree_of}
use Rattle.branching.specs.Work.{work_left}
use Rattle.branching.specs.declared.node.Node.{Node}
use Rattle.branching.proofs.Stored.{sound-set}
use Rattle.branching.proofs.Works.{work_closes}
use Rattle.branching.proofs.tree.Tree.close.Goals as goal

pub invariant_of-self : goal.invariant_of-self
invariant_of-self c =
    let t : SearchTree = search_tree_of c.self.inside in
    let old = c.index_mut-node.result.now in
    record {
      whole = c.self.invariant.whole;
      sound = sound-set t c.args.key old (closed_with c.args.section old) c.self.invariant.sound c.index_mut-node.ensures.value refl;
    }

pub returns-clause-closed : goal.returns-clause-closed
returns-clause-closed c =
    let t : SearchTree = search_tree_of c.self.inside in
    let old = c.index_mut-node.result.now in
    let here = c.index_mut-node.ensures.value in
    subst
    (λ (p : SearchTree). (node : Node) → node_at p.nodes c.args.key ≡ Some node → with_node t c.args.key (closed_with c.args.section old) ≡ with_node p c.args.key (closed_with c.args.section node))
    c.self.view_is (λ node at. ap (λ (m : Node). with_node t c.args.key (closed_with c.args.section m)) (same_Some old node (sym here ∙ at)))

pub returns-clause-work : goal.returns-clause-work
returns-clause-work c =
    let t : SearchTree = search_tree_of c.self.inside in
    let old = c.index_mut-node.result.now in
    let here = c.index_mut-node.ensures.value in
    let there : node_at t.nodes c.args.key ≡ Some c.requires.node = subst (λ (p : SearchTree). node_at p.nodes c.args.key ≡ Some c.requires.node) (sym c.self.view_is) c.requires.here in
    let taken : IsTaken old = subst IsTaken (same_Some c.requires.node old (sym there ∙ here)) c.requires.is in
    subst (λ (p : SearchTree). work_left (set t.nodes c.args.key (Some (closed_with c.args.section old))) < work_left p.nodes) c.self.view_is
    (work_closes t.nodes c.args.key old (closed_with c.args.section old) here taken refl)
