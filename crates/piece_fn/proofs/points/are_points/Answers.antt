use Rattle.std.proofs.Common.{◌∙◌, arith, sym}
use Rattle.std.proofs.lemmas.Grind.{common_steps}
use Rattle.std.proofs.lemmas.Bool.{eqb-false}
use Rattle.piece_fn.proofs.Walks.{one_point}
use Rattle.piece_fn.proofs.points.are_points.Goals as goal

pub returns : goal.returns
returns c =
    let some = eqb-false _ _ (sym c.if-is_empty.ensures) in
    sym (one_point c.args.points.now c.loop-index.index (omega (arith, c.loop-index-test.false, c.loop-index.auto.index-end, some)) (omega (arith, c.loop-index-test.false))) ∙ c.loop-index.invariant

pub returns-then-not-is_step : goal.returns-then-not-is_step
returns-then-not-is_step = grind (arith, common_steps)

pub loop-index-preserved : goal.loop-index-preserved
loop-index-preserved = grind (arith, common_steps)
