use Rattle.std.proofs.Common.{refl, arith}
use Rattle.std.proofs.lemmas.Grind.{common_steps}
use Rattle.route_improve.proofs.Changed.{take_one_kept, take_one_made}
use Rattle.route_improve.proofs.TriedMoves.{tried_made, tried_not}
use Rattle.route_improve.proofs.moves.take_one.Goals as goal

pub returns-in-Some-clause-tried : goal.returns-in-Some-clause-tried
returns-in-Some-clause-tried c = tried_made _ _ _ _
    (take_one_made c.args.pricer.now c.args.routes.now.items c.args.a (record { order = c.args.order; time = c.in-Some.time }) c.index.result.now c.deref.result.now c.from-than.result c.in_ok-time.field-0 (c.in-Some.time, c.in-Some.field-0-1)
    c.requires.routes c.requires.list c.requires.same c.index.ensures c.from-than.ensures c.deref.ensures.value c.in-Some.is c.in_ok-time.ensures.times refl)

pub returns-in-None-clause-tried : goal.returns-in-None-clause-tried
returns-in-None-clause-tried c = tried_not _ _ _
    (take_one_kept c.args.pricer.now c.args.routes.now.items c.args.a (record { order = c.args.order; time = 0 }) c.index.result.now c.deref.result.now c.from-than.result c.in_ok-time.field-0
    c.requires.routes c.requires.list c.index.ensures c.from-than.ensures c.deref.ensures.value c.in-None.is c.in_ok-time.ensures.times)

pub least_times-requires-clause-first : goal.least_times-requires-clause-first
least_times-requires-clause-first = grind (arith, common_steps)
