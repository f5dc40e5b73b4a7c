use Rattle.std.proofs.Common.{◌≡◌, ◌<◌, length, ◌∙◌, ap, arith}
use Rattle.std.proofs.lemmas.List.{get_or_default}
use Rattle.index_links.specs.declared.rings.Ends.{Ends}
use Rattle.index_links.specs.Lists.{Lists}
use Rattle.index_links.specs.Links.{no_ends, spelled_lists}
use Rattle.index_links.proofs.Calls.{last_within, link_last_done}
use Rattle.index_links.proofs.rings.Rings.link_last.Goals as goal

pub set_next-requires-clause-prev : goal.set_next-requires-clause-prev
set_next-requires-clause-prev c =
    let es = c.self.inside.links.ends.items in
    let s = c.self.inside.links.slots.items in
    let n : length (spelled_lists es s) ≡ length es = c.self.invariant.count in
    let m : length (spelled_lists es s) ≡ length c.args.self.now.lists = ap (λ (o : Lists). length o.lists) c.self.view_is in
    let l : c.args.list < length es = omega (arith, c.requires.list) in
    last_within es s (spelled_lists es s) c.self.invariant c.args.list l c.index.result.now.last
    (ap (λ (e : Ends). e.last) (c.index.ensures ∙ get_or_default es c.args.list c.index.result.now no_ends l))

pub invariant_of-self : goal.invariant_of-self
invariant_of-self c =
    let es = c.self.inside.links.ends.items in
    let s = c.self.inside.links.slots.items in
    let n : length (spelled_lists es s) ≡ length es = c.self.invariant.count in
    let m : length (spelled_lists es s) ≡ length c.args.self.now.lists = ap (λ (o : Lists). length o.lists) c.self.view_is in
    let l : c.args.list < length es = omega (arith, c.requires.list) in
    (link_last_done es c.set_next.new.self.ends.items c.set_prev.new.self.ends.items s c.set_next.new.self.slots.items c.set_prev.new.self.slots.items
    c.args.self.now c.self.invariant c.self.view_is c.args.list c.args.i c.index.result.now.last c.requires.list c.requires.item c.requires.free
    (ap (λ (e : Ends). e.last) (c.index.ensures ∙ get_or_default es c.args.list c.index.result.now no_ends l))
    c.set_next.ensures.ends c.set_next.ensures.slots c.set_prev.ensures.ends c.set_prev.ensures.slots).0

pub returns : goal.returns
returns c =
    let es = c.self.inside.links.ends.items in
    let s = c.self.inside.links.slots.items in
    let n : length (spelled_lists es s) ≡ length es = c.self.invariant.count in
    let m : length (spelled_lists es s) ≡ length c.args.self.now.lists = ap (λ (o : Lists). length o.lists) c.self.view_is in
    let l : c.args.list < length es = omega (arith, c.requires.list) in
    (link_last_done es c.set_next.new.self.ends.items c.set_prev.new.self.ends.items s c.set_next.new.self.slots.items c.set_prev.new.self.slots.items
    c.args.self.now c.self.invariant c.self.view_is c.args.list c.args.i c.index.result.now.last c.requires.list c.requires.item c.requires.free
    (ap (λ (e : Ends). e.last) (c.index.ensures ∙ get_or_default es c.args.list c.index.result.now no_ends l))
    c.set_next.ensures.ends c.set_next.ensures.slots c.set_prev.ensures.ends c.set_prev.ensures.slots).1
