use Rattle.std.proofs.Common.{◌≡◌, ◌∙◌, ap, subst, sym, set, arith}
use Rattle.std.proofs.lemmas.Grind.{common_steps}
use Rattle.std.specs.Prelude.{slice_index}
use Rattle.index_links.specs.Lists.{list_at}
use Rattle.route_improve.specs.Routes.{AreNoCheaper, lists_of}
use Rattle.route_improve.specs.Taking.{AreOfPair}
use Rattle.route_improve.proofs.Made.{copied, kept_by, read_at, two_exchanged}
use Rattle.route_improve.proofs.MovedOrders.{exchanged_between}
use Rattle.route_improve.proofs.TriedMoves.{shows}
use Rattle.route_improve.proofs.moves.exchange_between.Goals as goal
use Rattle.route_improve.proofs.moves.exchange_between.Goals.{After-index_mut-2}

first_is : (c : After-index_mut-2) → set c.in_ok-first.first.items c.args.i c.index-3.result.now ≡ set (list_at (lists_of c.args.routes.now.items) c.args.a) c.args.i (slice_index (list_at (lists_of c.args.routes.now.items) c.args.b) c.args.j)
first_is c =
    let list = copied c.args.routes.now.items c.args.a c.index.result.now c.deref.result.now c.in_ok-first.first.items c.requires.one.list c.index.ensures c.deref.ensures.value c.in_ok-first.ensures in
    let other = copied c.args.routes.now.items c.args.b c.index-2.result.now c.deref-2.result.now c.in_ok-second.second.items c.requires.other.list c.index-2.ensures c.deref-2.ensures.value c.in_ok-second.ensures in
    let y = read_at (lists_of c.args.routes.now.items) c.args.b c.args.j c.in_ok-second.second.items c.index-3.result.now c.requires.other other c.index-3.ensures in
    ap (λ l. set l c.args.i c.index-3.result.now) list ∙ ap (λ n. set (list_at (lists_of c.args.routes.now.items) c.args.a) c.args.i n) y

second_is : (c : After-index_mut-2) → set c.in_ok-second.second.items c.args.j c.index-customer.result.now ≡ set (list_at (lists_of c.args.routes.now.items) c.args.b) c.args.j (slice_index (list_at (lists_of c.args.routes.now.items) c.args.a) c.args.i)
second_is c =
    let list = copied c.args.routes.now.items c.args.a c.index.result.now c.deref.result.now c.in_ok-first.first.items c.requires.one.list c.index.ensures c.deref.ensures.value c.in_ok-first.ensures in
    let other = copied c.args.routes.now.items c.args.b c.index-2.result.now c.deref-2.result.now c.in_ok-second.second.items c.requires.other.list c.index-2.ensures c.deref-2.ensures.value c.in_ok-second.ensures in
    let x = read_at (lists_of c.args.routes.now.items) c.args.a c.args.i c.in_ok-first.first.items c.index-customer.result.now c.requires.one list c.index-customer.ensures in
    ap (λ l. set l c.args.j c.index-customer.result.now) other ∙ ap (λ n. set (list_at (lists_of c.args.routes.now.items) c.args.b) c.args.j n) x

pub take_pair-requires-clause-same : goal.take_pair-requires-clause-same
take_pair-requires-clause-same c =
    subst (λ l. AreOfPair c.args.pricer.now c.args.routes.now.items c.args.a c.args.b l (set c.in_ok-second.second.items c.args.j c.index-customer.result.now)) (sym (first_is (goal.at.take_pair-requires-clause-same c).After-index_mut-2))
    (subst (AreOfPair c.args.pricer.now c.args.routes.now.items c.args.a c.args.b (set (list_at (lists_of c.args.routes.now.items) c.args.a) c.args.i (slice_index (list_at (lists_of c.args.routes.now.items) c.args.b) c.args.j))) (sym (second_is (goal.at.take_pair-requires-clause-same c).After-index_mut-2))
    (two_exchanged c.args.pricer.now c.args.routes.now.items c.requires.routes c.args.a c.args.i c.args.b c.args.j c.requires.one c.requires.other))

pub returns-clause-tried : goal.returns-clause-tried
returns-clause-tried c =
    kept_by c.take_pair.result _ _ (λ made. shows _ _ _ _ _ made (λ none.
    subst (AreNoCheaper c.args.pricer.now c.args.routes.now.items)
    (ap (λ l. set (set (lists_of c.args.routes.now.items) c.args.a l) c.args.b (set c.in_ok-second.second.items c.args.j c.index-customer.result.now)) (first_is (goal.at.returns-clause-tried c).After-index_mut-2)
    ∙ ap (λ l. set (set (lists_of c.args.routes.now.items) c.args.a (set (list_at (lists_of c.args.routes.now.items) c.args.a) c.args.i (slice_index (list_at (lists_of c.args.routes.now.items) c.args.b) c.args.j))) c.args.b l) (second_is (goal.at.returns-clause-tried c).After-index_mut-2)
    ∙ sym (exchanged_between (lists_of c.args.routes.now.items) c.args.a c.args.i c.args.b c.args.j c.requires.apart)) (none)))
    c.take_pair.ensures.tried

pub index_mut-requires : goal.index_mut-requires
index_mut-requires = grind (arith, common_steps)

pub index-requires-3 : goal.index-requires-3
index-requires-3 = grind (arith, common_steps)

pub index_mut-requires-2 : goal.index_mut-requires-2
index_mut-requires-2 = grind (arith, common_steps)

pub take_pair-requires-clause-one : goal.take_pair-requires-clause-one
take_pair-requires-clause-one = grind (arith, common_steps)

pub index-requires-2 : goal.index-requires-2
index-requires-2 = grind (arith, common_steps)

pub take_pair-requires-clause-other : goal.take_pair-requires-clause-other
take_pair-requires-clause-other = grind (arith, common_steps)
