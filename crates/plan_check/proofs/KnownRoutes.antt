-- The nodes of one of the routes of which no more is told than their stops.
use Rattle.std.proofs.Common.{◌≡◌, ◌∙◌, ℕ, ◌<◌, List, length, get_or, ap, sym, subst, arith}
use Rattle.std.proofs.lemmas.List.{get_or-map, length-map}
use Rattle.std.proofs.lemmas.List.Elements.{All-get_or}
use Rattle.ev_model.specs.Network.{Network}
use Rattle.ev_model.specs.declared.Stop.{Stop}
use Rattle.route_plan.specs.declared.plan.RoutePlan.{RoutePlan}
use Rattle.plan_check.specs.LaterRules.{plans_by}
use Rattle.plan_check.specs.Tallies.{AllKnown, AreKnown}

pub known_at : {R : Type 0} (g : Network) (stops : R → List Stop) (routes : List R) (i : ℕ) (r : R) (own : List Stop) → i < length routes → r ≡ get_or routes i r → own ≡ stops r → AllKnown g (plans_by stops routes) → AreKnown g own
known_at {R} g stops routes i r own within is same all =
    let plan_of : R → RoutePlan = λ q. record { stops = stops q } in
    let P = λ (p : RoutePlan). AreKnown g p.stops in
    let long : i < length (plans_by stops routes) = omega (arith, within, length-map routes plan_of) in
    let at : get_or (plans_by stops routes) i (plan_of r) ≡ plan_of r = get_or-map plan_of routes i r (plan_of r) within ∙ ap plan_of (sym is) in
    subst (AreKnown g) (sym same) (subst P at (All-get_or P (plans_by stops routes) i (plan_of r) long all))
