use Rattle.std.proofs.Common.{List, subst}
use Rattle.std.specs.List.{All}
use Rattle.route_plan.specs.declared.plan.RoutePlan.{RoutePlan}
use Rattle.near_pricing.specs.Labels.{IsBetterPlan}
use Rattle.label_search.proofs.Lists.{of_last}
use Rattle.near_pricing.proofs.answer.better_of.Goals as goal

pub returns : goal.returns
returns c =
    let all = subst (λ (rs : List RoutePlan). All (IsBetterPlan c.args.pricing.now) rs) c.in-Some.ensures.items c.requires.routes in
    of_last (IsBetterPlan c.args.pricing.now) c.pop.new.self.items c.in-Some.plan all
