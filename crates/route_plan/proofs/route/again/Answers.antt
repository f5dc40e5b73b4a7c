use Rattle.std.proofs.Common.{sym, ◌∙◌, ◌+◌, arith}
use Rattle.std.proofs.lemmas.Grind.{common_steps}
use Rattle.route_plan.proofs.Rules.{first_again-end}
use Rattle.route_plan.proofs.route.again.Goals as goal

pub returns : goal.returns
returns c = sym (first_again-end c.args.nodes.now (c.loop-at.at + 1) c.loop-at.at (omega arith)) ∙ c.loop-at.invariant

pub loop-at-preserved : goal.loop-at-preserved
loop-at-preserved = grind (arith, common_steps)
