use Rattle.std.proofs.Common.{sym, ◌∙◌, ◌+◌, arith}
use Rattle.std.proofs.lemmas.Grind.{common_steps}
use Rattle.charge_curve.proofs.Falls.{first_fall-end}
use Rattle.charge_curve.proofs.fault.fall.Goals as goal

pub returns : goal.returns
returns c = sym (first_fall-end c.args.points.now (c.loop-index.index + 1) c.loop-index.index (omega arith)) ∙ c.loop-index.invariant

pub loop-index-preserved : goal.loop-index-preserved
loop-index-preserved = grind (arith, common_steps)
