use Rattle.std.proofs.Common.{arith}
use Rattle.std.proofs.lemmas.Grind.{elements}
use Rattle.mixed_model.proofs.Walks.{cost_more, walked_more}
use Rattle.mixed_model.proofs.plan_judge.cost_of_routes.Goals as goal

pub loop-route-preserved : goal.loop-route-preserved
loop-route-preserved c =
    let kinds = c.args.kinds.now in
    let plan = c.args.plan.now in
    let i = c.loop-route.route in
    let r = c.index-plan-route.result in
    let more = cost_more kinds plan i r c.loop-route-test.true c.index-plan-route.is in
    let small = c.loop-route.invariant.small in
    let sum = c.loop-route.invariant.sum in
    let time = c.in-Ok.ensures.time in
    record {
      small = omega (arith, small);
      walked = walked_more kinds plan i r c.loop-route-test.true c.index-plan-route.is c.loop-route.invariant.walked c.in-Ok.ensures.feasible;
      sum = omega (arith, more, sum, time);
    }

pub returns-in-Err-clause-fault : goal.returns-in-Err-clause-fault
returns-in-Err-clause-fault = grind (arith, elements)
