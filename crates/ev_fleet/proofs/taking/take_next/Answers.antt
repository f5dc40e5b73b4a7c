use Rattle.std.proofs.Common.{◌≡◌, ◌∙◌, refl, sym, ap, subst, Some}
use Rattle.std.specs.Prelude.{IsNone}
use Rattle.branching.specs.Nodes.{node_at}
use Rattle.branching.specs.SearchTree.{SearchTree}
use Rattle.ev_fleet.specs.Splitting.{taken_of}
use Rattle.branching.proofs.Elements.{node_set}
use Rattle.ev_fleet.proofs.taking.take_next.Goals as goal

pub unreachable-requires : goal.unreachable-requires
unreachable-requires c = c.requires.open (c.take.ensures.none.0 (subst (λ r. IsNone r) (sym c.in_default.is) refl))

pub returns-clause-next : goal.returns-clause-next
returns-clause-next c =
    let next = c.in-Some.ensures.next in
    let taken = taken_of next.0 in
    let there = node_set c.args.tree.now.nodes c.in-Some.key next.0 taken next.1.here in
    let here : node_at c.take.new.self.nodes c.in-Some.key ≡ Some taken = ap (λ (x : SearchTree). node_at x.nodes c.in-Some.key) next.2 ∙ there in
    record {
      node = next.0;
      next = next.1;
      made = next.2;
      pairs = c.pairs.ensures.value taken here;
      among = c.pairs.ensures.customers ∙ ap (λ (x : SearchTree). x.customers) next.2;
      section = c.section.ensures taken here;
      bound = c.bound.ensures taken here;
    }
