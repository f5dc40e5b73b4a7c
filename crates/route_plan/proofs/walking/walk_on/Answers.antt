use Rattle.std.proofs.Common.{arith}
use Rattle.std.proofs.lemmas.Grind.{common_steps}
use Rattle.route_plan.proofs.Ends.{begins_at_depot}
use Rattle.route_plan.proofs.walking.walk_on.Goals as goal

pub loop-at-init : goal.loop-at-init
loop-at-init c = record {
  from = c.nodes-count.ensures.network.depot;
  some = omega arith;
  told = begins_at_depot c.args.inst.now c.args.start c.args.stops.now c.requires;
}

pub returns-in_err-reached : goal.returns-in_err-reached
returns-in_err-reached = grind (arith, common_steps)

pub loop-at-preserved : goal.loop-at-preserved
loop-at-preserved = grind (arith, common_steps)
