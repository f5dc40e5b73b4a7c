use Rattle.std.proofs.Common.{◌<◌, length, sym, ◌∙◌, ap, arith}
use Rattle.std.proofs.lemmas.Option.{none-some}
use Rattle.index_links.specs.declared.rings.Slot.{Slot}
use Rattle.index_links.specs.Links.{spelled_lists}
use Rattle.index_links.proofs.Calls.{linked_now, linked_slot, slot_read, link_before_done}
use Rattle.index_links.proofs.rings.Rings.link_before.Goals as goal

pub index-behind-requires : goal.index-behind-requires
index-behind-requires c =
    let es = c.self.inside.links.ends.items in
    let s = c.self.inside.links.slots.items in
    let within : c.args.next < length s = (linked_now es s c.args.next c.args.self.now c.self.invariant c.self.view_is c.requires.next).0 in
    omega arith

pub set_next-requires-clause-list : goal.set_next-requires-clause-list
set_next-requires-clause-list c =
    let es = c.self.inside.links.ends.items in
    let s = c.self.inside.links.slots.items in
    let is = slot_read es s c.args.next c.index-behind.result.now c.args.self.now c.self.invariant c.self.view_is c.requires.next c.index-behind.ensures in
    let linked = linked_slot es s (spelled_lists es s) c.self.invariant c.args.next c.in-Some.list c.index-behind.result.now is c.in-Some.is in
    linked.list

pub set_next-requires-clause-prev : goal.set_next-requires-clause-prev
set_next-requires-clause-prev c =
    let es = c.self.inside.links.ends.items in
    let s = c.self.inside.links.slots.items in
    let is = slot_read es s c.args.next c.index-behind.result.now c.args.self.now c.self.invariant c.self.view_is c.requires.next c.index-behind.ensures in
    let linked = linked_slot es s (spelled_lists es s) c.self.invariant c.args.next c.in-Some.list c.index-behind.result.now is c.in-Some.is in
    linked.prev

pub set_prev-requires-clause-list : goal.set_prev-requires-clause-list
set_prev-requires-clause-list c =
    let es = c.self.inside.links.ends.items in
    let s = c.self.inside.links.slots.items in
    let is = slot_read es s c.args.next c.index-behind.result.now c.args.self.now c.self.invariant c.self.view_is c.requires.next c.index-behind.ensures in
    let linked = linked_slot es s (spelled_lists es s) c.self.invariant c.args.next c.in-Some.list c.index-behind.result.now is c.in-Some.is in
    let list : c.in-Some.list < length es = linked.list in
    omega arith

pub set_prev-requires-clause-next : goal.set_prev-requires-clause-next
set_prev-requires-clause-next c =
    let es = c.self.inside.links.ends.items in
    let s = c.self.inside.links.slots.items in
    let is = slot_read es s c.args.next c.index-behind.result.now c.args.self.now c.self.invariant c.self.view_is c.requires.next c.index-behind.ensures in
    let linked = linked_slot es s (spelled_lists es s) c.self.invariant c.args.next c.in-Some.list c.index-behind.result.now is c.in-Some.is in
    let item : c.args.next < length s = linked.item in
    omega arith

pub invariant_of-self : goal.invariant_of-self
invariant_of-self c =
    let es = c.self.inside.links.ends.items in
    let s = c.self.inside.links.slots.items in
    let is = slot_read es s c.args.next c.index-behind.result.now c.args.self.now c.self.invariant c.self.view_is c.requires.next c.index-behind.ensures in
    (link_before_done es c.set_next.new.self.ends.items c.set_prev.new.self.ends.items s c.set_next.new.self.slots.items c.set_prev.new.self.slots.items
    c.args.self.now c.self.invariant c.self.view_is c.in-Some.list c.args.i c.index-behind.result.now.prev c.args.next (ap (λ (v : Slot). v.list) (sym is) ∙ c.in-Some.is) c.requires.item c.requires.free (ap (λ (v : Slot). v.prev) is)
    c.set_next.ensures.ends c.set_next.ensures.slots c.set_prev.ensures.ends c.set_prev.ensures.slots).0

pub returns-in-Some : goal.returns-in-Some
returns-in-Some c =
    let es = c.self.inside.links.ends.items in
    let s = c.self.inside.links.slots.items in
    let is = slot_read es s c.args.next c.index-behind.result.now c.args.self.now c.self.invariant c.self.view_is c.requires.next c.index-behind.ensures in
    (link_before_done es c.set_next.new.self.ends.items c.set_prev.new.self.ends.items s c.set_next.new.self.slots.items c.set_prev.new.self.slots.items
    c.args.self.now c.self.invariant c.self.view_is c.in-Some.list c.args.i c.index-behind.result.now.prev c.args.next (ap (λ (v : Slot). v.list) (sym is) ∙ c.in-Some.is) c.requires.item c.requires.free (ap (λ (v : Slot). v.prev) is)
    c.set_next.ensures.ends c.set_next.ensures.slots c.set_prev.ensures.ends c.set_prev.ensures.slots).1

pub returns-in_default : goal.returns-in_default
returns-in_default c =
    let es = c.self.inside.links.ends.items in
    let s = c.self.inside.links.slots.items in
    let is = slot_read es s c.args.next c.index-behind.result.now c.args.self.now c.self.invariant c.self.view_is c.requires.next c.index-behind.ensures in
    let home = linked_now es s c.args.next c.args.self.now c.self.invariant c.self.view_is c.requires.next in
    absurd (none-some home.1 (sym c.in_default.is ∙ ap (λ (v : Slot). v.list) is ∙ home.2))
