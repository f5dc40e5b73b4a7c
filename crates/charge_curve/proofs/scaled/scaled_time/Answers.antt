use Rattle.std.proofs.Common.{◌∙◌, arith}
use Rattle.std.proofs.lemmas.Grind.{common_steps}
use Rattle.std.proofs.Math.Nat.{mul-le-mul_left}
use Rattle.charge_curve.proofs.Denominators.{rises_at}
use Rattle.charge_curve.proofs.Steps.{charge_time-here, charge_time-next}
use Rattle.charge_curve.proofs.scaled.scaled_time.Goals as goal

pub time_between-requires-clause-higher : goal.time_between-requires-clause-higher
time_between-requires-clause-higher c = (rises_at c.args.points.now c.loop-index.index (0, 0) c.requires.rises (omega arith)).1

pub time_between-requires-clause-later : goal.time_between-requires-clause-later
time_between-requires-clause-later c =
    let up = (rises_at c.args.points.now c.loop-index.index (0, 0) c.requires.rises (omega arith)).0 in
    mul-le-mul_left c.args.d (omega (arith, up))

pub returns-then-level-to-clause-value : goal.returns-then-level-to-clause-value
returns-then-level-to-clause-value c =
    c.time_between.ensures.value ∙ charge_time-here c.args.d c.args.level c.args.points.now c.loop-index.index (0, 0) (omega arith) c.if-level-to.true ∙ c.loop-index.invariant

pub loop-index-preserved : goal.loop-index-preserved
loop-index-preserved c = charge_time-next c.args.d c.args.level c.args.points.now c.loop-index.index (0, 0) (omega arith) c.if-level-to.false ∙ c.loop-index.invariant

pub returns-clause-value : goal.returns-clause-value
returns-clause-value = grind (arith, common_steps)
