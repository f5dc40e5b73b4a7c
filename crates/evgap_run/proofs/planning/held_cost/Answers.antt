use Rattle.std.proofs.Common.{Option, subst}
use Rattle.evgap_run.proofs.Outcomes.{costs_held, held_unbroken, text_of_held}
use Rattle.fleet_steps.specs.PlanFile.{IsUnfit, IsValid}
use Rattle.plan_check.specs.declared.fault.LargeFault.{LargeFault}
use Rattle.route_plan.specs.declared.plan.FleetPlan.{FleetPlan}
use Rattle.std.specs.Option.{option_map}
use Rattle.evgap_run.proofs.planning.held_cost.Goals as goal

pub returns-in-Ok-clause-cost : goal.returns-in-Ok-clause-cost
returns-in-Ok-clause-cost c =
    costs_held c.args.inst.now c.args.held.now c.in-Ok.cost (subst (λ (p : Option FleetPlan). IsValid c.args.inst.now p c.in-Ok.cost) c.plan_held.ensures c.in-Ok.ensures.ok)

pub returns-in-Ok-clause-small : goal.returns-in-Ok-clause-small
returns-in-Ok-clause-small c = c.in-Ok.ensures.small (text_of_held c.args.inst.now c.args.held.now (option_map (λ p. p.now) c.plan_held.result) c.plan_held.ensures c.requires)

pub unreachable-requires : goal.unreachable-requires
unreachable-requires c =
    let broken = subst (λ (fault : LargeFault). IsUnfit c.args.inst.now (option_map (λ p. p.now) c.plan_held.result) fault) c.in-Err-Plan.field-0-is c.in-Err-Plan.ensures.fault in
    held_unbroken c.args.inst.now c.args.held.now (option_map (λ p. p.now) c.plan_held.result) c.in-Err-Plan.field-0-0 c.plan_held.ensures c.requires broken
