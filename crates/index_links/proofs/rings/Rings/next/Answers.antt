use Rattle.std.proofs.Common.{◌<◌, length, ◌∙◌, ap, arith}
use Rattle.std.proofs.lemmas.List.{get_or_default}
use Rattle.index_links.specs.declared.rings.Slot.{Slot}
use Rattle.index_links.specs.Lists.{Lists, list_at}
use Rattle.index_links.specs.Links.{unlinked, spelled_lists}
use Rattle.index_links.proofs.Chains.{next_is}
use Rattle.index_links.proofs.Calls.{disjoint_now, linked_now, next_linked}
use Rattle.index_links.proofs.rings.Rings.next.Goals as goal

pub index-requires : goal.index-requires
index-requires c =
    let s = c.self.inside.links.slots.items in
    let within : c.args.i < length s = (linked_now c.self.inside.links.ends.items s c.args.i c.args.self.now c.self.invariant c.self.view_is c.requires).0 in
    omega arith

next_is_head : goal.returns-clause-next
next_is_head c = λ k before after e.
    let es = c.self.inside.links.ends.items in
    let s = c.self.inside.links.slots.items in
    let within = (linked_now es s c.args.i c.args.self.now c.self.invariant c.self.view_is c.requires).0 in
    ap (λ (v : Slot). v.next) (c.index.ensures ∙ get_or_default s c.args.i c.index.result.now unlinked within)
    ∙ next_is es s (spelled_lists es s) c.self.invariant k c.args.i before after (ap (λ (o : Lists). list_at o.lists k) c.self.view_is ∙ e)

pub returns-clause-next : goal.returns-clause-next
returns-clause-next c = next_is_head c

pub returns-clause-linked : goal.returns-clause-linked
returns-clause-linked c = next_linked c.args.self.now c.args.i c.index.result.now.next c.requires (next_is_head c)

pub returns-clause-disjoint : goal.returns-clause-disjoint
returns-clause-disjoint c = disjoint_now c.self.inside.links.ends.items c.self.inside.links.slots.items c.args.self.now c.self.invariant c.self.view_is
