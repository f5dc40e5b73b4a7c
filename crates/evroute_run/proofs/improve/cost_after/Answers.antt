use Rattle.std.proofs.Common.{subst}
use Rattle.plan_check.proofs.FleetPlans.{fleet_plan_keeps}
use Rattle.plan_check.specs.LargeFaults.{IsLargeFault}
use Rattle.plan_check.specs.declared.fault.LargeFault.{LargeFault}
use Rattle.evroute_run.proofs.improve.cost_after.Goals as goal

pub unreachable-requires : goal.unreachable-requires
unreachable-requires c =
    let routes = c.args.better.now.routes in
    let first = subst (λ (fault : LargeFault). IsLargeFault c.args.inst.now routes fault) c.in-Err-Plan.field-0-is c.in-Err-Plan.ensures.broken in
    fleet_plan_keeps c.args.inst.now routes c.requires.fleet c.in-Err-Plan.field-0-0 first.broken
