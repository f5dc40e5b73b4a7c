use Rattle.std.proofs.Common.{◌≡◌, [], ◌∷◌, ◌++◌, ap, subst, Option}
use Rattle.std.specs.Prelude.{MatchOption}
use Rattle.ev_model.specs.Fastest.{HasNoPlan, IsFastest}
use Rattle.ev_model.specs.Network.{Network}
use Rattle.route_plan.specs.declared.plan.RoutePlan.{RoutePlan}
use Rattle.route_plan.proofs.PlanRanges.{feasible_fits}
use Rattle.near_pricing.specs.Questions.{IsQuestion, Question}
use Rattle.near_pricing.proofs.Fastest.{fastest_better}
use Rattle.near_pricing.proofs.labels.QuestionResources.route.Goals as goal

pub returns : goal.returns
returns c =
    let q = c.args.self.now in
    let is = subst (λ (p : Question). IsQuestion p) c.self.view_is c.self.invariant in
    let network : c.self.inside.inst.now ≡ c.args.self.now.network = ap (λ (p : Question). p.network) c.self.view_is in
    let route = 0 ∷ c.deref.result.now ++ 0 ∷ [] in
    let told : IsFastest c.self.inside.inst.now (0 ∷ c.deref.result.now ++ 0 ∷ []) c.self.inside.inst.now.capacity c.in-Some.plan.stops =
    subst (λ (o : Option RoutePlan). MatchOption o (HasNoPlan c.self.inside.inst.now route c.self.inside.inst.now.capacity) (λ plan. IsFastest c.self.inside.inst.now route c.self.inside.inst.now.capacity plan.stops)) c.in-Some.is c.in_ok-plan.ensures in
    let by_order = subst (λ ns. IsFastest c.self.inside.inst.now (0 ∷ ns ++ 0 ∷ []) c.self.inside.inst.now.capacity c.in-Some.plan.stops) c.deref.ensures.value told in
    let by_network = subst (λ (g : Network). IsFastest g (0 ∷ c.args.order.items ++ 0 ∷ []) g.capacity c.in-Some.plan.stops) network by_order in
    let better = fastest_better q c.args.order.items c.requires c.in-Some.plan.stops by_network in
    record {
      route = better.route;
      earns = better.earns;
      fits = feasible_fits q.network q.network.capacity c.in-Some.plan.stops is.network by_network.feasible;
    }
