use Rattle.std.proofs.Common.{◌<◌, ◌^◌, ℕ, Some, length, refl, subst, sym}
use Rattle.std.specs.Prelude.{IfSome, IsNone, Option}
use Rattle.label_pool.specs.Labels.{Labels}
use Rattle.frvcp_labels.specs.Full.{AreFull}
use Rattle.frvcp_labels.specs.Search.{IsSoundPool}
use Rattle.route_steps.specs.declared.state.State.{State}
use Rattle.frvcp_labels.proofs.TakenLabels.{is_below, is_taken, taken_charged, taken_falls, taken_full, taken_home, taken_inside, taken_on_way, taken_sound, taken_turn}
use Rattle.frvcp_labels.proofs.trip.Trip.first_home.Goals as goal

pub value-requires : goal.value-requires
value-requires c = taken_inside c.args.self.now c.loop-i.pool c.take_in_time.new.pool c.in-Some.i (is_taken c.loop-i.pool c.take_in_time.new.pool c.take_in_time.result c.in-Some.i c.in-Some.is c.take_in_time.ensures.next)

pub returns-then-value-end-clause-pool : goal.returns-then-value-end-clause-pool
returns-then-value-end-clause-pool c = taken_sound c.args.self.now c.loop-i.pool c.take_in_time.new.pool c.in-Some.i (is_taken c.loop-i.pool c.take_in_time.new.pool c.take_in_time.result c.in-Some.i c.in-Some.is c.take_in_time.ensures.next) c.loop-i.invariant.pool

pub returns-then-value-end-clause-home : goal.returns-then-value-end-clause-home
returns-then-value-end-clause-home c =
    taken_home c.args.self.now c.loop-i.pool c.take_in_time.new.pool c.in-Some.i (is_taken c.loop-i.pool c.take_in_time.new.pool c.take_in_time.result c.in-Some.i c.in-Some.is c.take_in_time.ensures.next) c.value.result.now c.end.result c.args.bar c.loop-i.invariant.pool c.loop-i.invariant.spread c.end.ensures.value c.if-value-end.true c.value.ensures
    (is_below c.loop-i.pool c.args.bar c.take_in_time.result c.in-Some.i c.in-Some.is c.take_in_time.ensures.below)

pub spread-requires-clause-pool : goal.spread-requires-clause-pool
spread-requires-clause-pool c = taken_sound c.args.self.now c.loop-i.pool c.take_in_time.new.pool c.in-Some.i (is_taken c.loop-i.pool c.take_in_time.new.pool c.take_in_time.result c.in-Some.i c.in-Some.is c.take_in_time.ensures.next) c.loop-i.invariant.pool

pub spread-requires-clause-from : goal.spread-requires-clause-from
spread-requires-clause-from c = taken_inside c.args.self.now c.loop-i.pool c.take_in_time.new.pool c.in-Some.i (is_taken c.loop-i.pool c.take_in_time.new.pool c.take_in_time.result c.in-Some.i c.in-Some.is c.take_in_time.ensures.next)

pub spread-requires-clause-on_way : goal.spread-requires-clause-on_way
spread-requires-clause-on_way c =
    taken_on_way c.args.self.now c.loop-i.pool c.take_in_time.new.pool c.in-Some.i (is_taken c.loop-i.pool c.take_in_time.new.pool c.take_in_time.result c.in-Some.i c.in-Some.is c.take_in_time.ensures.next) c.value.result.now c.end.result c.loop-i.invariant.pool c.end.ensures.value c.if-value-end.false c.value.ensures

pub loop-i-preserved : goal.loop-i-preserved
loop-i-preserved c = record {
  pool = c.in_ok-spread.ensures.pool;
  full = c.in_ok-spread.ensures.full;
  charged = c.in_ok-spread.ensures.charged;
  spread = taken_turn c.args.self.now c.loop-i.pool c.take_in_time.new.pool c.in-Some.i (is_taken c.loop-i.pool c.take_in_time.new.pool c.take_in_time.result c.in-Some.i c.in-Some.is c.take_in_time.ensures.next) c.spread.new.pool (Some c.args.bar) c.loop-i.invariant.spread c.in_ok-spread.ensures.grown
      (taken_on_way c.args.self.now c.loop-i.pool c.take_in_time.new.pool c.in-Some.i (is_taken c.loop-i.pool c.take_in_time.new.pool c.take_in_time.result c.in-Some.i c.in-Some.is c.take_in_time.ensures.next) c.value.result.now c.end.result c.loop-i.invariant.pool c.end.ensures.value c.if-value-end.false c.value.ensures) c.in_ok-spread.ensures.spreads;
}

pub loop-i-smaller : goal.loop-i-smaller
loop-i-smaller c = taken_falls c.args.self.now c.loop-i.pool c.take_in_time.new.pool c.in-Some.i (is_taken c.loop-i.pool c.take_in_time.new.pool c.take_in_time.result c.in-Some.i c.in-Some.is c.take_in_time.ensures.next) c.spread.new.pool c.in_ok-spread.ensures.grown
    (subst (λ (o : Option ℕ). IfSome o (λ _. length c.take_in_time.new.pool.labels < 2 ^ 63)) c.in-Some.is c.take_in_time.ensures.small)

pub returns-clause-pool : goal.returns-clause-pool
returns-clause-pool c = subst (λ (p : Labels State). IsSoundPool c.args.self.now p) (sym (c.take_in_time.ensures.unchanged (subst (λ (o : Option ℕ). IsNone o) (sym c.in_default.is) refl))) c.loop-i.invariant.pool

pub returns-clause-home : goal.returns-clause-home
returns-clause-home c = (c.take_in_time.ensures.none (subst (λ (o : Option ℕ). IsNone o) (sym c.in_default.is) refl))

pub spread-requires-clause-full : goal.spread-requires-clause-full
spread-requires-clause-full c = taken_full c.args.self.now c.loop-i.pool c.take_in_time.new.pool c.in-Some.i (is_taken c.loop-i.pool c.take_in_time.new.pool c.take_in_time.result c.in-Some.i c.in-Some.is c.take_in_time.ensures.next) c.loop-i.full c.loop-i.invariant.full

pub spread-requires-clause-charged : goal.spread-requires-clause-charged
spread-requires-clause-charged c = taken_charged c.args.self.now c.loop-i.pool c.take_in_time.new.pool c.in-Some.i (is_taken c.loop-i.pool c.take_in_time.new.pool c.take_in_time.result c.in-Some.i c.in-Some.is c.take_in_time.ensures.next) c.loop-i.invariant.charged

pub returns-then-value-end-clause-full : goal.returns-then-value-end-clause-full
returns-then-value-end-clause-full c = taken_full c.args.self.now c.loop-i.pool c.take_in_time.new.pool c.in-Some.i (is_taken c.loop-i.pool c.take_in_time.new.pool c.take_in_time.result c.in-Some.i c.in-Some.is c.take_in_time.ensures.next) c.loop-i.full c.loop-i.invariant.full

pub returns-clause-full : goal.returns-clause-full
returns-clause-full c =
    subst (λ (p : Labels State). AreFull c.args.self.now p.labels c.loop-i.full) (sym (c.take_in_time.ensures.unchanged (subst (λ (o : Option ℕ). IsNone o) (sym c.in_default.is) refl))) c.loop-i.invariant.full
