use Rattle.std.proofs.Common.{List, [], ◌∷◌, ℕ, Option, subst, sym, arith}
use Rattle.std.proofs.lemmas.Grind.{common_steps}
use Rattle.std.specs.Prelude.{MatchOption}
use Rattle.ev_model.specs.Fastest.{HasNoPlan, IsFastest}
use Rattle.route_plan.proofs.PlanRanges.{feasible_fits}
use Rattle.route_plan.specs.declared.plan.RoutePlan.{RoutePlan}
use Rattle.ng_pricing.specs.Met.{AreMet}
use Rattle.ng_pricing.specs.declared.met.MetRoute.{MetRoute}
use Rattle.ng_pricing.proofs.Alone.{own_near_route, own_route}
use Rattle.ng_pricing.proofs.PriceLimits.{met_more, met_route}
use Rattle.ng_pricing.proofs.setting.Setting.meet_own.Goals as goal

pub solve_route-requires-clause-route : goal.solve_route-requires-clause-route
solve_route-requires-clause-route c = own_route c.args.self.now.inst.now c.args.node c.requires.customer c.requires.setting.network c.requires.known

pub returns : goal.returns
returns c =
    let g = c.args.self.now.inst.now in
    let sets = c.args.self.now.sets.now in
    let node = c.args.node in
    let plan = c.in-Some.plan in
    let r = c.in_ok-new.field-0 in
    let told = subst (λ (o : Option RoutePlan). MatchOption o (HasNoPlan c.args.self.now.inst.now (0 ∷ c.args.node ∷ 0 ∷ []) c.max_q.result) (λ p. IsFastest c.args.self.now.inst.now (0 ∷ c.args.node ∷ 0 ∷ []) c.max_q.result p.stops)) c.in-Some.is c.in_ok-plan.ensures in
    let fastest = subst (λ (q : ℕ). IsFastest c.args.self.now.inst.now (0 ∷ c.args.node ∷ 0 ∷ []) q c.in-Some.plan.stops) c.max_q.ensures.value told in
    let route = own_near_route g node c.requires.customer sets plan.stops fastest in
    let fits = feasible_fits g g.capacity plan.stops c.requires.setting.network fastest.feasible in
    let is = met_route g sets plan r route fits c.in_ok-new.ensures in
    subst (λ (ms : List MetRoute). AreMet c.args.self.now.inst.now c.args.self.now.sets.now ms) (sym c.in_ok-push.ensures.items) (met_more g sets c.args.met.now.items r c.requires.met is)

pub new-requires : goal.new-requires
new-requires = grind (arith, common_steps)
