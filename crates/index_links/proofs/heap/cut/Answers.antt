use Rattle.std.proofs.Common.{sym, ◌∙◌, subst, Some, refl, arith}
use Rattle.std.proofs.lemmas.Grind.{elements}
use Rattle.index_links.specs.Lists.{Lists, list_at}
use Rattle.index_links.specs.Forest.{IsForest, IsCut}
use Rattle.index_links.proofs.Members.{head_in, only_item}
use Rattle.index_links.proofs.Forest.{cut_some, forest_unlink, goes_on, same_chain, same_refl}
use Rattle.index_links.proofs.heap.cut.Goals as goal

pub loop-a-init : goal.loop-a-init
loop-a-init c = record {
  forest = c.requires.forest;
  same = same_refl c.args.children.now.lists;
  child = head_in (list_at c.args.children.now.lists c.args.parent) c.in-Some.first (sym c.first.ensures.first ∙ c.in-Some.is);
}

pub loop-a-preserved : goal.loop-a-preserved
loop-a-preserved c = record {
  forest = c.meld-winner.ensures.forest;
  same = same_chain c.args.children.now.lists c.loop-a.children.lists c.meld-winner.new.children.lists c.loop-a.invariant.same c.meld-winner.ensures.same;
  child = goes_on c.meld-winner.new.children.lists c.args.parent c.meld-winner.result c.next.result c.unwrap_or-at.result (c.next.ensures.disjoint.once c.args.parent) c.meld-winner.ensures.winner c.next.ensures.next c.unwrap_or-at.ensures;
}

pub returns-clause-forest : goal.returns-clause-forest
returns-clause-forest c =
    subst (λ (o : Lists). IsForest c.args.keys.now o) (sym c.unlink.ensures) (forest_unlink c.args.keys.now c.loop-a.children c.loop-a.at c.loop-a.invariant.forest)

pub returns-clause-cut : goal.returns-clause-cut
returns-clause-cut c =
    subst (λ (o : Lists). IsCut c.args.keys.now c.args.children.now.lists o.lists c.args.parent (Some c.loop-a.at)) (sym c.unlink.ensures)
    (cut_some c.args.keys.now c.args.children.now.lists c.loop-a.children c.args.parent c.loop-a.at c.loop-a.invariant.forest c.loop-a.invariant.same
    (only_item (list_at c.loop-a.children.lists c.args.parent) c.loop-a.at c.loop-a.invariant.child (c.in_default-neighbours.ensures.one refl)))

pub returns-in_default-clause-cut : goal.returns-in_default-clause-cut
returns-in_default-clause-cut = grind (arith, elements)
