use Rattle.std.proofs.Common.{◌≡◌, ◌∙◌, ◌↔◌, ap, set, refl, sym, subst, Some}
use Rattle.std.specs.Prelude.{IsNone}
use Rattle.std.proofs.lemmas.Option.{same_Some}
use Rattle.branching.specs.Nodes.{IsNext, IsOpen, NoneIsOpen}
use Rattle.branching.specs.SearchTree.{SearchTree, with_node}
use Rattle.branching.specs.Stored.{search_tree_of}
use Rattle.branching.specs.Work.{work_left}
use Rattle.branching.specs.declared.node.Node.{Node}
use Rattle.branching.specs.declared.node.NodeState.TheVariants.{Taken}
use Rattle.branching.proofs.Elements.{node_set}
use Rattle.branching.proofs.Stored.{sound-set}
use Rattle.branching.proofs.Works.{open_lives, work_stays}
use Rattle.branching.proofs.tree.Tree.take.Goals as goal

pub returns-in_default-clause-none : goal.returns-in_default-clause-none
returns-in_default-clause-none c =
    subst (λ found. IsNone found ↔ NoneIsOpen c.args.self.now.nodes) c.in_default.is
    (subst (λ nodes. IsNone c.next_open.result ↔ NoneIsOpen nodes) (ap (λ (p : SearchTree). p.nodes) c.self.view_is) c.next_open.ensures.none)

pub returns-clause-none : goal.returns-clause-none
returns-clause-none c =
    subst (λ found. IsNone found ↔ NoneIsOpen c.args.self.now.nodes) c.in-Some.is
    (subst (λ nodes. IsNone c.next_open.result ↔ NoneIsOpen nodes) (ap (λ (p : SearchTree). p.nodes) c.self.view_is) c.next_open.ensures.none)

pub invariant_of-self : goal.invariant_of-self
invariant_of-self c =
    let t : SearchTree = search_tree_of c.self.inside in
    let old = c.index_mut.result.now in
    record {
      whole = c.self.invariant.whole;
      sound = sound-set t c.in-Some.key old (record old { state = Taken }) c.self.invariant.sound c.index_mut.ensures.value refl;
    }

pub returns-clause-next : goal.returns-clause-next
returns-clause-next c =
    let t : SearchTree = search_tree_of c.self.inside in
    let key = c.in-Some.key in
    let old = c.index_mut.result.now in
    let next = c.in-Some.ensures.next in
    let here = c.index_mut.ensures.value in
    let is : IsNext t.nodes key old = subst (λ (m : Node). IsNext t.nodes key m) (same_Some next.0 old (sym next.1.here ∙ here)) next.1 in
    subst
    (λ (p : SearchTree). (node : Node) × IsNext p.nodes key node × (with_node t key (record old { state = Taken }) ≡ with_node p key (record node { state = Taken })))
    c.self.view_is (old, is, refl)

pub returns-clause-work : goal.returns-clause-work
returns-clause-work c =
    let t : SearchTree = search_tree_of c.self.inside in
    let key = c.in-Some.key in
    let old = c.index_mut.result.now in
    let next = c.in-Some.ensures.next in
    let here = c.index_mut.ensures.value in
    let waits : IsOpen old = subst IsOpen (same_Some next.0 old (sym next.1.here ∙ here)) next.1.waits in
    subst (λ (p : SearchTree). work_left (set t.nodes key (Some (record old { state = Taken }))) ≡ work_left p.nodes) c.self.view_is
    (work_stays t.nodes key old (record old { state = Taken }) here (open_lives old waits) refl refl)

pub returns-clause-taken : goal.returns-clause-taken
returns-clause-taken c =
    let old = c.index_mut.result.now in
    record {
      node = record old { state = Taken };
      here = node_set c.self.inside.nodes.slots c.in-Some.key old (record old { state = Taken }) c.index_mut.ensures.value;
      is = refl;
    }
