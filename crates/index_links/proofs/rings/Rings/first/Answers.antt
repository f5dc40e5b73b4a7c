use Rattle.std.proofs.Common.{◌≡◌, length, ◌∙◌, ap, arith}
use Rattle.std.specs.Prelude.{slice_get}
use Rattle.std.proofs.lemmas.List.{get_or_default}
use Rattle.index_links.specs.declared.rings.Ends.{Ends}
use Rattle.index_links.specs.Lists.{Lists, list_at}
use Rattle.index_links.specs.Links.{no_ends, spelled_lists}
use Rattle.index_links.proofs.Chains.{first_is}
use Rattle.index_links.proofs.Calls.{disjoint_now, first_linked}
use Rattle.index_links.proofs.rings.Rings.first.Goals as goal

first_is_head : goal.returns-clause-first
first_is_head c =
    let es = c.self.inside.links.ends.items in
    let s = c.self.inside.links.slots.items in
    let n : length (spelled_lists es s) ≡ length es = c.self.invariant.count in
    let m : length (spelled_lists es s) ≡ length c.args.self.now.lists = ap (λ (o : Lists). length o.lists) c.self.view_is in
    ap (λ (e : Ends). e.first) (c.index.ensures ∙ get_or_default es c.args.list c.index.result.now no_ends (omega arith))
    ∙ first_is es s (spelled_lists es s) c.self.invariant c.args.list (omega arith) ∙ ap (λ (o : Lists). slice_get (list_at o.lists c.args.list) 0) c.self.view_is

pub returns-clause-first : goal.returns-clause-first
returns-clause-first c = first_is_head c

pub returns-clause-linked : goal.returns-clause-linked
returns-clause-linked c = first_linked c.args.self.now c.args.list c.index.result.now.first (first_is_head c)

pub returns-clause-disjoint : goal.returns-clause-disjoint
returns-clause-disjoint c = disjoint_now c.self.inside.links.ends.items c.self.inside.links.slots.items c.args.self.now c.self.invariant c.self.view_is
