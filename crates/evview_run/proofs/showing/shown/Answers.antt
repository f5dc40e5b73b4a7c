use Rattle.std.proofs.Common.{Option, subst}
use Rattle.evview_run.proofs.Shown.{part_is_there}
use Rattle.evview_run.specs.ViewAnswer.{HasRoute}
use Rattle.route_plan.specs.declared.plan.FleetPlan.{FleetPlan}
use Rattle.evview_run.proofs.showing.shown.Goals as goal

pub part_of-requires : goal.part_of-requires
part_of-requires c =
    let there = subst (λ (p : Option FleetPlan). HasRoute c.args.route p) c.in-Some.is c.requires.route in
    part_is_there c.args.inst.now c.args.held.now.start c.in-Some.plan c.args.route c.in_ok-whole.whole there c.in_ok-whole.ensures.value
