use Rattle.std.proofs.Common.{◌<◌, length, sym, ◌∙◌, ap, arith}
use Rattle.std.proofs.lemmas.Option.{none-some}
use Rattle.index_links.specs.declared.rings.Slot.{Slot}
use Rattle.index_links.specs.Links.{spelled_lists}
use Rattle.index_links.proofs.Calls.{linked_now, linked_slot, slot_read, unlink_done}
use Rattle.index_links.proofs.rings.Rings.unlink.Goals as goal

pub index-slot-requires : goal.index-slot-requires
index-slot-requires c =
    let es = c.self.inside.links.ends.items in
    let s = c.self.inside.links.slots.items in
    let within : c.args.i < length s = (linked_now es s c.args.i c.args.self.now c.self.invariant c.self.view_is c.requires).0 in
    omega arith

pub set_next-requires-clause-list : goal.set_next-requires-clause-list
set_next-requires-clause-list c =
    let es = c.self.inside.links.ends.items in
    let s = c.self.inside.links.slots.items in
    let is = slot_read es s c.args.i c.index-slot.result.now c.args.self.now c.self.invariant c.self.view_is c.requires c.index-slot.ensures in
    let linked = linked_slot es s (spelled_lists es s) c.self.invariant c.args.i c.in-Some.list c.index-slot.result.now is c.in-Some.is in
    linked.list

pub set_next-requires-clause-prev : goal.set_next-requires-clause-prev
set_next-requires-clause-prev c =
    let es = c.self.inside.links.ends.items in
    let s = c.self.inside.links.slots.items in
    let is = slot_read es s c.args.i c.index-slot.result.now c.args.self.now c.self.invariant c.self.view_is c.requires c.index-slot.ensures in
    let linked = linked_slot es s (spelled_lists es s) c.self.invariant c.args.i c.in-Some.list c.index-slot.result.now is c.in-Some.is in
    linked.prev

pub set_prev-requires-clause-list : goal.set_prev-requires-clause-list
set_prev-requires-clause-list c =
    let es = c.self.inside.links.ends.items in
    let s = c.self.inside.links.slots.items in
    let is = slot_read es s c.args.i c.index-slot.result.now c.args.self.now c.self.invariant c.self.view_is c.requires c.index-slot.ensures in
    let linked = linked_slot es s (spelled_lists es s) c.self.invariant c.args.i c.in-Some.list c.index-slot.result.now is c.in-Some.is in
    let list : c.in-Some.list < length es = linked.list in
    omega arith

pub set_prev-requires-clause-next : goal.set_prev-requires-clause-next
set_prev-requires-clause-next c =
    let es = c.self.inside.links.ends.items in
    let s = c.self.inside.links.slots.items in
    let is = slot_read es s c.args.i c.index-slot.result.now c.args.self.now c.self.invariant c.self.view_is c.requires c.index-slot.ensures in
    let linked = linked_slot es s (spelled_lists es s) c.self.invariant c.args.i c.in-Some.list c.index-slot.result.now is c.in-Some.is in
    rw c.set_next.ensures.items linked.next

pub index_mut-requires : goal.index_mut-requires
index_mut-requires c =
    let es = c.self.inside.links.ends.items in
    let s = c.self.inside.links.slots.items in
    let is = slot_read es s c.args.i c.index-slot.result.now c.args.self.now c.self.invariant c.self.view_is c.requires c.index-slot.ensures in
    let linked = linked_slot es s (spelled_lists es s) c.self.invariant c.args.i c.in-Some.list c.index-slot.result.now is c.in-Some.is in
    let item : c.args.i < length s = linked.item in
    omega arith

pub invariant_of-self : goal.invariant_of-self
invariant_of-self c =
    let es = c.self.inside.links.ends.items in
    let s = c.self.inside.links.slots.items in
    let is = slot_read es s c.args.i c.index-slot.result.now c.args.self.now c.self.invariant c.self.view_is c.requires c.index-slot.ensures in
    (unlink_done es c.set_next.new.self.ends.items c.set_prev.new.self.ends.items s c.set_next.new.self.slots.items c.set_prev.new.self.slots.items
    c.args.self.now c.self.invariant c.self.view_is c.in-Some.list c.args.i c.index-slot.result.now.prev c.index-slot.result.now.next (ap (λ (v : Slot). v.list) (sym is) ∙ c.in-Some.is) (ap (λ (v : Slot). v.prev) is) (ap (λ (v : Slot). v.next) is)
    c.set_next.ensures.ends c.set_next.ensures.slots c.set_prev.ensures.ends c.set_prev.ensures.slots).0

pub returns-in-Some : goal.returns-in-Some
returns-in-Some c =
    let es = c.self.inside.links.ends.items in
    let s = c.self.inside.links.slots.items in
    let is = slot_read es s c.args.i c.index-slot.result.now c.args.self.now c.self.invariant c.self.view_is c.requires c.index-slot.ensures in
    (unlink_done es c.set_next.new.self.ends.items c.set_prev.new.self.ends.items s c.set_next.new.self.slots.items c.set_prev.new.self.slots.items
    c.args.self.now c.self.invariant c.self.view_is c.in-Some.list c.args.i c.index-slot.result.now.prev c.index-slot.result.now.next (ap (λ (v : Slot). v.list) (sym is) ∙ c.in-Some.is) (ap (λ (v : Slot). v.prev) is) (ap (λ (v : Slot). v.next) is)
    c.set_next.ensures.ends c.set_next.ensures.slots c.set_prev.ensures.ends c.set_prev.ensures.slots).1

pub returns-in_default : goal.returns-in_default
returns-in_default c =
    let es = c.self.inside.links.ends.items in
    let s = c.self.inside.links.slots.items in
    let is = slot_read es s c.args.i c.index-slot.result.now c.args.self.now c.self.invariant c.self.view_is c.requires c.index-slot.ensures in
    let home = linked_now es s c.args.i c.args.self.now c.self.invariant c.self.view_is c.requires in
    absurd (none-some home.1 (sym c.in_default.is ∙ ap (λ (v : Slot). v.list) is ∙ home.2))
