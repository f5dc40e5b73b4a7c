use Rattle.std.proofs.Common.{arith}
use Rattle.std.proofs.lemmas.Grind.{common_steps}
use Rattle.frvcp_labels.proofs.SearchLoops.{next_taken, taken_turn_on_way}
use Rattle.frvcp_labels.proofs.TakenLabels.{taken_charged, taken_falls, taken_full, taken_inside, taken_sound}
use Rattle.frvcp_labels.proofs.trip.Trip.settle_all.Goals as goal

pub spread_on_way-requires-clause-pool : goal.spread_on_way-requires-clause-pool
spread_on_way-requires-clause-pool c = taken_sound c.args.self.now c.loop-i.pool c.take_next.new.self c.in-Some.i (next_taken c.loop-i.pool c.take_next.new.self c.take_next.result c.in-Some.i c.in-Some.is c.take_next.ensures.next) c.loop-i.invariant.pool

pub spread_on_way-requires-clause-full : goal.spread_on_way-requires-clause-full
spread_on_way-requires-clause-full c = taken_full c.args.self.now c.loop-i.pool c.take_next.new.self c.in-Some.i (next_taken c.loop-i.pool c.take_next.new.self c.take_next.result c.in-Some.i c.in-Some.is c.take_next.ensures.next) c.loop-i.full c.loop-i.invariant.full

pub spread_on_way-requires-clause-from : goal.spread_on_way-requires-clause-from
spread_on_way-requires-clause-from c = taken_inside c.args.self.now c.loop-i.pool c.take_next.new.self c.in-Some.i (next_taken c.loop-i.pool c.take_next.new.self c.take_next.result c.in-Some.i c.in-Some.is c.take_next.ensures.next)

pub spread_on_way-requires-clause-charged : goal.spread_on_way-requires-clause-charged
spread_on_way-requires-clause-charged c = taken_charged c.args.self.now c.loop-i.pool c.take_next.new.self c.in-Some.i (next_taken c.loop-i.pool c.take_next.new.self c.take_next.result c.in-Some.i c.in-Some.is c.take_next.ensures.next) c.loop-i.invariant.charged

pub loop-i-preserved : goal.loop-i-preserved
loop-i-preserved c = record {
  pool = c.in_ok-spread_on_way.ensures.pool;
  full = c.in_ok-spread_on_way.ensures.full;
  charged = c.in_ok-spread_on_way.ensures.charged;
  spread = taken_turn_on_way c.args.self.now c.loop-i.pool c.take_next.new.self c.in-Some.i (next_taken c.loop-i.pool c.take_next.new.self c.take_next.result c.in-Some.i c.in-Some.is c.take_next.ensures.next) c.spread_on_way.new.pool c.loop-i.invariant.spread c.in_ok-spread_on_way.ensures.grown c.in_ok-spread_on_way.ensures.spreads;
}

pub loop-i-smaller : goal.loop-i-smaller
loop-i-smaller c = taken_falls c.args.self.now c.loop-i.pool c.take_next.new.self c.in-Some.i (next_taken c.loop-i.pool c.take_next.new.self c.take_next.result c.in-Some.i c.in-Some.is c.take_next.ensures.next) c.spread_on_way.new.pool c.in_ok-spread_on_way.ensures.grown c.take_next.ensures.small

pub returns-clause-spread : goal.returns-clause-spread
returns-clause-spread = grind (arith, common_steps)

pub returns-clause-pool : goal.returns-clause-pool
returns-clause-pool = grind (arith, common_steps)
