use Rattle.std.proofs.Common.{◌≡◌, ◌∙◌, ap, subst, sym, set, arith}
use Rattle.std.proofs.lemmas.Grind.{common_steps}
use Rattle.std.specs.Prelude.{insert, remove, slice_index}
use Rattle.index_links.specs.Lists.{list_at}
use Rattle.route_improve.specs.Routes.{AreNoCheaper, lists_of}
use Rattle.route_improve.specs.Taking.{AreOfRoute}
use Rattle.route_improve.proofs.Made.{copied, kept_by, one_relocated, read_at}
use Rattle.route_improve.proofs.MovedOrders.{relocated_within}
use Rattle.route_improve.proofs.TriedMoves.{shows}
use Rattle.route_improve.proofs.moves.relocate_within.Goals as goal
use Rattle.route_improve.proofs.moves.relocate_within.Goals.{In_ok-insert}

-- the order that was made
made_is : (c : In_ok-insert) → c.insert.new.self.items ≡ insert (remove (list_at (lists_of c.args.routes.now.items) c.args.a) c.args.i) c.args.j (slice_index (list_at (lists_of c.args.routes.now.items) c.args.a) c.args.i)
made_is c =
    let list = copied c.args.routes.now.items c.args.a c.index-2.result.now c.deref.result.now c.in_ok-order.order.items c.requires.from.list c.index-2.ensures c.deref.ensures.value c.in_ok-order.ensures in
    let x = read_at (lists_of c.args.routes.now.items) c.args.a c.args.i c.in_ok-order.order.items c.remove-customer.result c.requires.from list c.remove-customer.ensures.value in
    c.in_ok-insert.ensures.items
    ∙ ap (λ l. insert l c.args.j c.remove-customer.result) (c.remove-customer.ensures.items ∙ ap (λ l. remove l c.args.i) list)
    ∙ ap (λ n. insert (remove (list_at (lists_of c.args.routes.now.items) c.args.a) c.args.i) c.args.j n) x

pub take_one-requires-clause-same : goal.take_one-requires-clause-same
take_one-requires-clause-same c = subst (AreOfRoute c.args.pricer.now c.args.routes.now.items c.args.a) (sym (made_is (goal.at.take_one-requires-clause-same c).In_ok-insert)) (one_relocated c.args.pricer.now c.args.routes.now.items c.requires.routes c.args.a c.args.i c.args.j c.requires.from)

pub returns-clause-tried : goal.returns-clause-tried
returns-clause-tried c =
    kept_by c.take_one.result _ _ (λ made. shows _ _ _ _ _ made (λ none room.
    subst (AreNoCheaper c.args.pricer.now c.args.routes.now.items) (ap (λ l. set (lists_of c.args.routes.now.items) c.args.a l) (made_is (goal.at.returns-clause-tried c).In_ok-insert) ∙ sym (relocated_within (lists_of c.args.routes.now.items) c.args.a c.args.i c.args.j c.requires.from.list)) none))
    c.take_one.ensures.tried

pub returns-then-j-len-clause-tried : goal.returns-then-j-len-clause-tried
returns-then-j-len-clause-tried = grind (arith, common_steps)

pub insert-requires : goal.insert-requires
insert-requires = grind (arith, common_steps)

pub remove-customer-requires : goal.remove-customer-requires
remove-customer-requires = grind (arith, common_steps)

pub take_one-requires-clause-list : goal.take_one-requires-clause-list
take_one-requires-clause-list = grind (arith, common_steps)
