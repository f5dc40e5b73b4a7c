use Rattle.std.proofs.Common.{◌≡◌, ◌∙◌, ap, ◌<◌, subst, sym, set, arith}
use Rattle.std.proofs.lemmas.Grind.{common_steps}
use Rattle.std.specs.Prelude.{insert, remove, slice_index}
use Rattle.std.proofs.lemmas.List.{length-map}
use Rattle.route_improve.specs.declared.route.Route.{Route}
use Rattle.index_links.specs.Lists.{list_at}
use Rattle.route_improve.specs.Routes.{AreNoCheaper, lists_of}
use Rattle.route_improve.specs.Taking.{AreOfPair}
use Rattle.route_improve.proofs.Made.{copied, kept_by, read_at, two_relocated}
use Rattle.route_improve.proofs.MovedOrders.{relocated_between}
use Rattle.route_improve.proofs.TriedMoves.{shows}
use Rattle.route_improve.proofs.moves.relocate_between.Goals as goal
use Rattle.route_improve.proofs.moves.relocate_between.Goals.{In_ok-insert}

first_is : (c : In_ok-insert) → c.remove-customer.new.self.items ≡ remove (list_at (lists_of c.args.routes.now.items) c.args.a) c.args.i
first_is c =
    let list = copied c.args.routes.now.items c.args.a c.index-2.result.now c.deref.result.now c.in_ok-first.first.items c.requires.place.from.list c.index-2.ensures c.deref.ensures.value c.in_ok-first.ensures in
    c.remove-customer.ensures.items ∙ ap (λ l. remove l c.args.i) list

second_is : (c : In_ok-insert) → c.insert.new.self.items ≡ insert (list_at (lists_of c.args.routes.now.items) c.args.b) c.args.j (slice_index (list_at (lists_of c.args.routes.now.items) c.args.a) c.args.i)
second_is c =
    let list = copied c.args.routes.now.items c.args.a c.index-2.result.now c.deref.result.now c.in_ok-first.first.items c.requires.place.from.list c.index-2.ensures c.deref.ensures.value c.in_ok-first.ensures in
    let there = subst (λ n. c.args.b < n) (sym (length-map c.args.routes.now.items (λ (r : Route). r.order.items))) c.requires.place.to in
    let other = copied c.args.routes.now.items c.args.b c.index-3.result.now c.deref-2.result.now c.in_ok-second.second.items there c.index-3.ensures c.deref-2.ensures.value c.in_ok-second.ensures in
    let x = read_at (lists_of c.args.routes.now.items) c.args.a c.args.i c.in_ok-first.first.items c.remove-customer.result c.requires.place.from list c.remove-customer.ensures.value in
    c.in_ok-insert.ensures.items ∙ ap (λ l. insert l c.args.j c.remove-customer.result) other ∙ ap (λ n. insert (list_at (lists_of c.args.routes.now.items) c.args.b) c.args.j n) x

pub take_pair-requires-clause-same : goal.take_pair-requires-clause-same
take_pair-requires-clause-same c =
    subst (λ l. AreOfPair c.args.pricer.now c.args.routes.now.items c.args.a c.args.b l c.insert.new.self.items) (sym (first_is (goal.at.take_pair-requires-clause-same c).In_ok-insert))
    (subst (AreOfPair c.args.pricer.now c.args.routes.now.items c.args.a c.args.b (remove (list_at (lists_of c.args.routes.now.items) c.args.a) c.args.i)) (sym (second_is (goal.at.take_pair-requires-clause-same c).In_ok-insert))
    (two_relocated c.args.pricer.now c.args.routes.now.items c.requires.place.routes c.args.a c.args.i c.args.b c.args.j c.requires.place.from c.requires.place.to))

pub returns-clause-tried : goal.returns-clause-tried
returns-clause-tried c =
    kept_by c.take_pair.result _ _ (λ made. shows _ _ _ _ _ made (λ none room.
    subst (AreNoCheaper c.args.pricer.now c.args.routes.now.items)
    (ap (λ l. set (set (lists_of c.args.routes.now.items) c.args.a l) c.args.b c.insert.new.self.items) (first_is (goal.at.returns-clause-tried c).In_ok-insert)
    ∙ ap (λ l. set (set (lists_of c.args.routes.now.items) c.args.a (remove (list_at (lists_of c.args.routes.now.items) c.args.a) c.args.i)) c.args.b l) (second_is (goal.at.returns-clause-tried c).In_ok-insert)
    ∙ sym (relocated_between (lists_of c.args.routes.now.items) c.args.a c.args.i c.args.b c.args.j c.requires.apart)) (none)))
    c.take_pair.ensures.tried

pub take_pair-requires-clause-one : goal.take_pair-requires-clause-one
take_pair-requires-clause-one = grind (arith, common_steps)

pub remove-customer-requires : goal.remove-customer-requires
remove-customer-requires = grind (arith, common_steps)

pub insert-requires : goal.insert-requires
insert-requires = grind (arith, common_steps)

pub returns-then-j-len-clause-tried : goal.returns-then-j-len-clause-tried
returns-then-j-len-clause-tried = grind (arith, common_steps)
