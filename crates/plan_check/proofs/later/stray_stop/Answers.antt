use Rattle.std.proofs.Common.{sym, ◌∙◌, arith}
use Rattle.std.proofs.lemmas.Grind.{common_steps}
use Rattle.route_plan.proofs.Ends.{first_before_last-end}
use Rattle.plan_check.specs.FirstFaults.{strays}
use Rattle.plan_check.proofs.later.stray_stop.Goals as goal

pub returns : goal.returns
returns c = sym (first_before_last-end (strays c.args.inst.now) c.args.stops.now c.loop-at.at c.loop-at.at (omega arith)) ∙ c.loop-at.invariant.1

pub loop-at-preserved : goal.loop-at-preserved
loop-at-preserved = grind (arith, common_steps)
