use Rattle.std.proofs.Common.{sym, ◌∙◌}
use Rattle.index_links.specs.Lists.{list_at}
use Rattle.index_links.proofs.Members.{head_in}
use Rattle.index_links.proofs.Forest.{behind, no_item, only_one}
use Rattle.index_links.proofs.heap.neighbours.Goals as goal

pub returns-in-Some-clause-two : goal.returns-in-Some-clause-two
returns-in-Some-clause-two c =
    let ls = c.args.children.now.lists in
    let b = behind ls c.args.parent c.args.at c.in-Some.next c.next.result (c.next.ensures.disjoint.once c.args.parent) c.requires.at c.next.ensures.next c.in-Some.is in
    (c.requires.at, b.0, b.1)

pub returns-in_default-first-clause-one : goal.returns-in_default-first-clause-one
returns-in_default-first-clause-one c = λ _. no_item c.args.children.now.lists c.args.parent (sym c.first.ensures.first ∙ c.in_default-first.is)

pub next-requires-2 : goal.next-requires-2
next-requires-2 c = (c.args.parent, head_in (list_at c.args.children.now.lists c.args.parent) c.in-Some-first.first (sym c.first.ensures.first ∙ c.in-Some-first.is))

pub returns-in_default-next-clause-one : goal.returns-in_default-next-clause-one
returns-in_default-next-clause-one c =
    λ _. only_one c.args.children.now.lists c.args.parent c.in-Some-first.first c.next-2.result (sym c.first.ensures.first ∙ c.in-Some-first.is) c.next-2.ensures.next c.in_default-next.is

pub returns-clause-two : goal.returns-clause-two
returns-clause-two c =
    let ls = c.args.children.now.lists in
    let m = head_in (list_at ls c.args.parent) c.in-Some-first.first (sym c.first.ensures.first ∙ c.in-Some-first.is) in
    let b = behind ls c.args.parent c.in-Some-first.first c.in-Some-next.second c.next-2.result (c.next.ensures.disjoint.once c.args.parent) m c.next-2.ensures.next c.in-Some-next.is in
    (m, b.0, b.1)
