use Rattle.std.proofs.Common.{◌+◌, arith, refl, subst, sym}
use Rattle.std.proofs.lemmas.Grind.{common_steps}
use Rattle.order_pricing.specs.Orders.{IsOrder}
use Rattle.route_improve.proofs.Changed.{pair_orders, take_pair_kept, take_pair_made}
use Rattle.route_improve.proofs.TriedMoves.{tried_made, tried_not}
use Rattle.route_improve.proofs.moves.take_pair.Goals as goal

pub least_times-requires-clause-first : goal.least_times-requires-clause-first
least_times-requires-clause-first c =
    subst (IsOrder c.args.pricer.now) (sym c.deref.ensures.value)
    (pair_orders c.args.pricer.now c.args.routes.now.items c.args.a c.args.b (record { order = c.args.first; time = 0 }) (record { order = c.args.second; time = 0 }) c.requires.routes c.requires.one c.requires.other c.requires.apart c.requires.same).0

pub least_times-requires-clause-second : goal.least_times-requires-clause-second
least_times-requires-clause-second c =
    subst (IsOrder c.args.pricer.now) (sym c.deref-2.ensures.value)
    (pair_orders c.args.pricer.now c.args.routes.now.items c.args.a c.args.b (record { order = c.args.first; time = 0 }) (record { order = c.args.second; time = 0 }) c.requires.routes c.requires.one c.requires.other c.requires.apart c.requires.same).1

pub returns-in-Some-clause-tried : goal.returns-in-Some-clause-tried
returns-in-Some-clause-tried c = tried_made _ _ _ _
    (take_pair_made c.args.pricer.now c.args.routes.now.items c.args.a c.args.b (record { order = c.args.first; time = c.in-Some.first_time }) (record { order = c.args.second; time = c.in-Some.second_time })
    c.index.result.now c.index-2.result.now c.deref.result.now c.deref-2.result.now (c.from.result + c.from-2.result) c.in_ok-first_time.field-0 (c.in-Some.first_time, c.in-Some.second_time)
    c.requires.routes c.requires.one c.requires.other c.requires.apart c.requires.same c.index.ensures c.index-2.ensures (omega arith) c.deref.ensures.value c.deref-2.ensures.value c.in-Some.is c.in_ok-first_time.ensures.times
    refl refl)

pub returns-in-None-clause-tried : goal.returns-in-None-clause-tried
returns-in-None-clause-tried c = tried_not _ _ _
    (take_pair_kept c.args.pricer.now c.args.routes.now.items c.args.a c.args.b (record { order = c.args.first; time = 0 }) (record { order = c.args.second; time = 0 })
    c.index.result.now c.index-2.result.now c.deref.result.now c.deref-2.result.now (c.from.result + c.from-2.result) c.in_ok-first_time.field-0
    c.requires.routes c.requires.one c.requires.other c.requires.apart c.index.ensures c.index-2.ensures (omega arith) c.deref.ensures.value c.deref-2.ensures.value c.in-None.is c.in_ok-first_time.ensures.times)

pub index_mut-requires-in-Some : goal.index_mut-requires-in-Some
index_mut-requires-in-Some = grind (arith, common_steps)
