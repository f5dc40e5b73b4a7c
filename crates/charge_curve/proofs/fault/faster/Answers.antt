use Rattle.std.proofs.Common.{sym, ◌∙◌, ◌+◌, arith}
use Rattle.std.proofs.lemmas.Grind.{common_steps}
use Rattle.charge_curve.proofs.Falls.{first_faster-end}
use Rattle.charge_curve.proofs.fault.faster.Goals as goal

pub returns : goal.returns
returns c = sym (first_faster-end c.args.points.now (c.loop-index.index + 2) c.loop-index.index (omega arith)) ∙ c.loop-index.invariant

pub returns-then-not-no_faster : goal.returns-then-not-no_faster
returns-then-not-no_faster = grind (arith, common_steps)
