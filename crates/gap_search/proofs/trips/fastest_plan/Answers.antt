use Rattle.std.proofs.Common.{◌≡◌, ◌<◌, ◌∷◌, ◌++◌, ◌∙◌, [], true, subst, sym, arith}
use Rattle.std.proofs.lemmas.Grind.{common_steps}
use Rattle.ev_model.specs.Network.{node_count}
use Rattle.ev_model.specs.Route.{IsRoute}
use Rattle.gap_search.proofs.Inner.{is_route}
use Rattle.gap_search.proofs.trips.fastest_plan.Goals as goal

pub solve_route-requires-clause-route : goal.solve_route-requires-clause-route
solve_route-requires-clause-route c =
    let is : c.are_inner.result ≡ true = grind (arith, common_steps) in
    let some : 0 < node_count c.args.inst.now = grind (arith, common_steps) in
    let same : c.deref.result.now ≡ 0 ∷ c.args.inner.now ++ 0 ∷ [] = c.deref.ensures.value ∙ c.in_ok-route.ensures in
    subst (λ route. IsRoute c.args.inst.now route) (sym same) (is_route c.args.inst.now c.args.inner.now some (c.are_inner.ensures is))
