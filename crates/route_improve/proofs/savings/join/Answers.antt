use Rattle.std.proofs.Common.{◌≡◌, ◌∙◌, ◌++◌, ◌<◌, ap, length, refl, subst, sym, List, arith}
use Rattle.std.proofs.lemmas.Grind.{common_steps}
use Rattle.std.proofs.lemmas.List.{length-map}
use Rattle.index_links.specs.Lists.{list_at}
use Rattle.route_improve.specs.Routes.{lists_of}
use Rattle.route_improve.specs.Taking.{AreOfPair}
use Rattle.route_improve.specs.declared.route.Route.{Route}
use Rattle.route_improve.proofs.Made.{copied, two_joined}
use Rattle.route_improve.proofs.savings.join.Goals as goal
use Rattle.route_improve.proofs.savings.join.Goals.{After-new}

one : (c : After-new) → c.in-Some.a < length c.args.routes.now.items
one c = subst (λ (rs : List Route). c.in-Some.a < length rs) c.deref.ensures.value c.in-Some.ensures

other : (c : After-new) → c.in-Some-beginning_with.b < length c.args.routes.now.items
other c = subst (λ (rs : List Route). c.in-Some-beginning_with.b < length rs) c.deref-2.ensures.value c.in-Some-beginning_with.ensures

order_is : (c : After-new) → c.extend_from_slice.new.self.items ≡ list_at (lists_of c.args.routes.now.items) c.in-Some.a ++ list_at (lists_of c.args.routes.now.items) c.in-Some-beginning_with.b
order_is c =
    let lists = sym (length-map c.args.routes.now.items (λ (r : Route). r.order.items)) in
    let list = copied c.args.routes.now.items c.in-Some.a c.index.result.now c.deref-3.result.now c.in_ok-order.order.items (subst (λ n. c.in-Some.a < n) lists (one c)) c.index.ensures c.deref-3.ensures.value c.in_ok-order.ensures in
    let next = copied c.args.routes.now.items c.in-Some-beginning_with.b c.index-2.result.now c.deref-4.result.now c.deref-4.result.now (subst (λ n. c.in-Some-beginning_with.b < n) lists (other c)) c.index-2.ensures c.deref-4.ensures.value refl in
    c.in_ok-extend_from_slice.ensures.items ∙ ap (λ l. l ++ c.deref-4.result.now) list ∙ ap (λ l. list_at (lists_of c.args.routes.now.items) c.in-Some.a ++ l) next

pub take_pair-requires-clause-same : goal.take_pair-requires-clause-same
take_pair-requires-clause-same c =
    subst (λ l. AreOfPair c.args.pricer.now c.args.routes.now.items c.in-Some.a c.in-Some-beginning_with.b l c.new.result.items) (sym (order_is c))
    (subst (AreOfPair c.args.pricer.now c.args.routes.now.items c.in-Some.a c.in-Some-beginning_with.b (list_at (lists_of c.args.routes.now.items) c.in-Some.a ++ list_at (lists_of c.args.routes.now.items) c.in-Some-beginning_with.b)) (sym c.new.ensures.items)
    (two_joined c.args.pricer.now c.args.routes.now.items c.requires c.in-Some.a c.in-Some-beginning_with.b (one c) (other c)))

pub returns-clause-same : goal.returns-clause-same
returns-clause-same = grind (arith, common_steps)

pub take_pair-requires-clause-other : goal.take_pair-requires-clause-other
take_pair-requires-clause-other = grind (arith, common_steps)

pub take_pair-requires-clause-one : goal.take_pair-requires-clause-one
take_pair-requires-clause-one = grind (arith, common_steps)

pub returns-in_default-beginning_with-clause-made : goal.returns-in_default-beginning_with-clause-made
returns-in_default-beginning_with-clause-made = grind (arith, common_steps)

pub returns-in_default-clause-made : goal.returns-in_default-clause-made
returns-in_default-clause-made = grind (arith, common_steps)

pub returns-then-a-b-clause-made : goal.returns-then-a-b-clause-made
returns-then-a-b-clause-made = grind (arith, common_steps)
