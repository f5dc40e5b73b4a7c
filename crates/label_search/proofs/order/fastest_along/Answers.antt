use Rattle.std.proofs.Common.{◌∙◌, ℕ, List, subst, sym}
use Rattle.std.specs.Prelude.{IfOk, MatchOption}
use Rattle.ev_model.specs.Fastest.{HasNoPlan, IsFastest}
use Rattle.ev_model.specs.Route.{IsRoute}
use Rattle.label_search.proofs.order.fastest_along.Goals as goal

pub solve_route-requires-clause-route : goal.solve_route-requires-clause-route
solve_route-requires-clause-route c =
    subst (λ (r : List ℕ). IsRoute c.args.inst.now r) (sym (c.deref.ensures.value ∙ c.in_ok-route.ensures)) c.requires

pub returns : goal.returns
returns c =
    let by_start = subst (λ s. IfOk c.solve_route.result (λ answer. MatchOption answer (HasNoPlan c.args.inst.now c.deref.result.now s) (λ plan. IsFastest c.args.inst.now c.deref.result.now s plan.stops))) c.max_q.ensures.value c.solve_route.ensures in
    subst (λ (r : List ℕ). IfOk c.solve_route.result (λ answer. MatchOption answer (HasNoPlan c.args.inst.now r c.args.inst.now.capacity) (λ plan. IsFastest c.args.inst.now r c.args.inst.now.capacity plan.stops))) (c.deref.ensures.value ∙ c.in_ok-route.ensures) by_start
