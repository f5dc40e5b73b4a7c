use Rattle.std.proofs.Common.{◌∙◌, arith}
use Rattle.std.proofs.lemmas.Grind.{common_steps}
use Rattle.charge_curve.proofs.Steps.{ArePoints-next, time_on-next}
use Rattle.charge_curve.proofs.scaled.time_at.Goals as goal

pub loop-index-preserved : goal.loop-index-preserved
loop-index-preserved c =
    let next = ArePoints-next c.args.points.now c.loop-index.index (0, 0) (omega arith) c.loop-index.invariant.0 in
    (next.2, time_on-next c.args.level c.args.points.now c.loop-index.index (0, 0) (omega arith) c.if-level-to.false ∙ c.loop-index.invariant.1)

pub time_between-requires-clause-later : goal.time_between-requires-clause-later
time_between-requires-clause-later = grind (arith, common_steps)
