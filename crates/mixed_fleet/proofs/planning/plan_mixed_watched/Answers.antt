use Rattle.std.proofs.Common.{◌∙◌, ◌<◌, List, ap, length, subst, sym, arith}
use Rattle.std.proofs.lemmas.Grind.{common_steps}
use Rattle.std.specs.List.{All}
use Rattle.std.proofs.lemmas.List.Elements.{All-map, All-weaker}
use Rattle.mixed_model.specs.declared.proof.MixedRoute.{MixedRoute}
use Rattle.mixed_fleet.specs.Searched.{IsSearched}
use Rattle.mixed_fleet.specs.declared.searched.Searched.{Searched}
use Rattle.mixed_fleet.proofs.Wides.{routes_of}
use Rattle.mixed_fleet.proofs.planning.plan_mixed_watched.Goals as goal

pub greedy_routes-requires-clause-alone : goal.greedy_routes-requires-clause-alone
greedy_routes-requires-clause-alone g c =
    let kinds = c.args.kinds.now in
    let rs = c.in_ok-own.own.routes.items in
    let P = λ (r : MixedRoute). r.kind < length kinds in
    let each = All-weaker (IsSearched kinds) (λ (r : Searched). P r.route) (λ r is. is.route.known) rs c.in_ok-own.ensures.routes in
    let all = All-map P (λ (r : Searched). r.route) rs each in
    let made = c.deref-2.ensures.value ∙ c.in_ok-alone.ensures ∙ ap (λ (xs : List Searched). routes_of xs) c.deref.ensures.value in
    subst (λ (xs : List MixedRoute). All P xs) (sym made) all

pub cheaper-held-requires-clause-own : goal.cheaper-held-requires-clause-own
cheaper-held-requires-clause-own = grind (arith, common_steps)

pub with_met-requires-clause-met : goal.with_met-requires-clause-met
with_met-requires-clause-met = grind (arith, common_steps)

pub outcome_of-requires-clause-proof : goal.outcome_of-requires-clause-proof
outcome_of-requires-clause-proof = grind (arith, common_steps)

pub cheaper-held-requires-clause-held : goal.cheaper-held-requires-clause-held
cheaper-held-requires-clause-held = grind (arith, common_steps)
