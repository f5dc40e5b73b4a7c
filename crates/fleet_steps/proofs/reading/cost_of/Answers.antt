use Rattle.std.proofs.Common.{Bor, Option, Some, ap, subst, ℕ}
use Rattle.std.specs.Option.{option_map}
use Rattle.fleet_steps.proofs.Costs.{small_cost}
use Rattle.route_plan.specs.PlanTexts.{FitsFile}
use Rattle.route_plan.specs.declared.plan.FleetPlan.{FleetPlan}
use Rattle.fleet_steps.proofs.reading.cost_of.Goals as goal

pub returns-in-Ok-clause-small : goal.returns-in-Ok-clause-small
returns-in-Ok-clause-small c = λ fits.
    let plan = c.in-Some.plan.now in
    let held = subst (λ (p : Option (Bor FleetPlan)). FitsFile (option_map (λ b. b.now) p)) c.in-Some.is fits in
    small_cost c.args.inst.now (Some plan) (Some c.in-Ok.cost) c.nodes-nodes.ensures.network held
    (c.in-Ok.ensures.valid, ap (λ (n : ℕ). Some n) c.in-Ok.ensures.cost)
