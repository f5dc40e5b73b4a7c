use Rattle.std.proofs.Common.{sym, ◌∙◌, arith}
use Rattle.std.proofs.lemmas.Grind.{common_steps}
use Rattle.route_plan.specs.RouteRules.{is_depot}
use Rattle.route_plan.proofs.Ends.{first_before_last-end}
use Rattle.route_plan.proofs.route.inner_depot.Goals as goal

pub returns : goal.returns
returns c = sym (first_before_last-end is_depot c.args.nodes.now c.loop-at.at c.loop-at.at (omega arith)) ∙ c.loop-at.invariant.1

pub loop-at-preserved : goal.loop-at-preserved
loop-at-preserved = grind (arith, common_steps)
