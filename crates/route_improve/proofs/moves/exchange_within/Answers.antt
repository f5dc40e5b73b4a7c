use Rattle.std.proofs.Common.{◌≡◌, ◌∙◌, ap, subst, sym, set, arith}
use Rattle.std.proofs.lemmas.Grind.{common_steps}
use Rattle.std.specs.Prelude.{slice_index}
use Rattle.index_links.specs.Lists.{list_at}
use Rattle.route_improve.specs.Routes.{AreNoCheaper, lists_of}
use Rattle.route_improve.specs.Taking.{AreOfRoute}
use Rattle.route_improve.proofs.Made.{copied, kept_by, one_exchanged, read_at}
use Rattle.route_improve.proofs.MovedOrders.{exchanged_within}
use Rattle.route_improve.proofs.TriedMoves.{shows}
use Rattle.route_improve.proofs.moves.exchange_within.Goals as goal
use Rattle.route_improve.proofs.moves.exchange_within.Goals.{After-index_mut-2}

-- the order that was made
made_is : (c : After-index_mut-2) → set (set c.in_ok-order.order.items c.args.i c.index-2.result.now) c.args.j c.index-customer.result.now
    ≡ set (set (list_at (lists_of c.args.routes.now.items) c.args.a) c.args.i (slice_index (list_at (lists_of c.args.routes.now.items) c.args.a) c.args.j)) c.args.j (slice_index (list_at (lists_of c.args.routes.now.items) c.args.a) c.args.i)
made_is c =
    let list = copied c.args.routes.now.items c.args.a c.index.result.now c.deref.result.now c.in_ok-order.order.items c.requires.one.list c.index.ensures c.deref.ensures.value c.in_ok-order.ensures in
    let x = read_at (lists_of c.args.routes.now.items) c.args.a c.args.i c.in_ok-order.order.items c.index-customer.result.now c.requires.one list c.index-customer.ensures in
    let y = read_at (lists_of c.args.routes.now.items) c.args.a c.args.j c.in_ok-order.order.items c.index-2.result.now c.requires.other list c.index-2.ensures in
    ap (λ l. set (set l c.args.i c.index-2.result.now) c.args.j c.index-customer.result.now) list
    ∙ ap (λ n. set (set (list_at (lists_of c.args.routes.now.items) c.args.a) c.args.i n) c.args.j c.index-customer.result.now) y
    ∙ ap (λ n. set (set (list_at (lists_of c.args.routes.now.items) c.args.a) c.args.i (slice_index (list_at (lists_of c.args.routes.now.items) c.args.a) c.args.j)) c.args.j n) x

pub take_one-requires-clause-same : goal.take_one-requires-clause-same
take_one-requires-clause-same c = subst (AreOfRoute c.args.pricer.now c.args.routes.now.items c.args.a) (sym (made_is (goal.at.take_one-requires-clause-same c).After-index_mut-2)) (one_exchanged c.args.pricer.now c.args.routes.now.items c.requires.routes c.args.a c.args.i c.args.j c.requires.one c.requires.other)

pub returns-clause-tried : goal.returns-clause-tried
returns-clause-tried c =
    kept_by c.take_one.result _ _ (λ made. shows _ _ _ _ _ made (λ none.
    subst (AreNoCheaper c.args.pricer.now c.args.routes.now.items) (ap (λ l. set (lists_of c.args.routes.now.items) c.args.a l) (made_is (goal.at.returns-clause-tried c).After-index_mut-2) ∙ sym (exchanged_within (lists_of c.args.routes.now.items) c.args.a c.args.i c.args.j c.requires.one.list)) none))
    c.take_one.ensures.tried

pub index_mut-requires-2 : goal.index_mut-requires-2
index_mut-requires-2 = grind (arith, common_steps)

pub index-requires-2 : goal.index-requires-2
index-requires-2 = grind (arith, common_steps)

pub take_one-requires-clause-list : goal.take_one-requires-clause-list
take_one-requires-clause-list = grind (arith, common_steps)

pub index-customer-requires : goal.index-customer-requires
index-customer-requires = grind (arith, common_steps)

pub index_mut-requires : goal.index_mut-requires
index_mut-requires = grind (arith, common_steps)
