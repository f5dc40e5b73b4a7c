-- A plan whose routes are in order of their first stops may be held: it may be written as text.
use Rattle.std.proofs.Common.{◌≡◌, ◌≢◌, ℕ, ◌<◌, ◌≤◌, List, [], ◌∷◌, length, get_or, map, refl, subst, ap, arith}
use Rattle.std.specs.List.{All}
use Rattle.std.specs.List.Sorted.{IsNonDecreasingBy}
use Rattle.std.proofs.lemmas.List.{get_or-map, length-map}
use Rattle.std.proofs.lemmas.List.Elements.{All-get_or}
use Rattle.ev_model.specs.Fleet.{all_customers, customers_of, ServesOnly, times_in}
use Rattle.ev_model.specs.Network.{Network, node_count}
use Rattle.ev_model.specs.declared.Stop.{Stop}
use Rattle.route_plan.proofs.PlanRanges.{feasible_fits}
use Rattle.fleet_model.proofs.Fleets.{plan_below}
use Rattle.fleet_model.proofs.Weighed.{AreBelow}
use Rattle.set_partitioning.specs.FirstCustomers.{first_outside}
use Rattle.set_partitioning.proofs.FirstCustomers.{AreApart, few_routes, firsts_rise}
use Rattle.mixed_model.specs.Kinds.{first_of, network_of}
use Rattle.mixed_model.specs.Meaning.{kind_plan, kind_plans}
use Rattle.mixed_model.specs.Plans.{IsFeasibleIn, IsMixedPlan, KindPlan, plain_plans}
use Rattle.mixed_model.specs.declared.proof.MixedRoute.{MixedRoute}
use Rattle.mixed_model.proofs.AgreeingNetworks.{same_customers}
use Rattle.mixed_model.proofs.Known.{plan_known}
use Rattle.mixed_model.proofs.Whole.{network_at}
use Rattle.mixed_fleet.specs.Fleets.{AreFleetKinds}
use Rattle.mixed_fleet.specs.Plans.{IsHeld}
use Rattle.mixed_fleet.proofs.Once.{agrees_at}

abbrev stops_in : MixedRoute → List Stop
stops_in r = r.plan.stops

plain_stops : (rs : List MixedRoute) → plain_plans (kind_plans rs) ≡ map stops_in rs
plain_stops [] = refl
plain_stops (r ∷ rs) = ap (λ (plans : List (List Stop)). r.plan.stops ∷ plans) (plain_stops rs)

-- what holds of the plans of all routes holds at each
at_route : (P : KindPlan → Type 0) (rs : List MixedRoute) (k : ℕ) (d : MixedRoute) → k < length rs → All P (kind_plans rs) → P (kind_plan (get_or rs k d))
at_route P rs k d within all =
    let long : k < length (kind_plans rs) = rw length-map within in
    subst P (get_or-map kind_plan rs k d (kind_plan d) within) (All-get_or P (kind_plans rs) k (kind_plan d) long all)

module _ (kinds : List Network) (fleet : AreFleetKinds kinds) where
  abbrev g : Network
  g = first_of kinds

  abbrev IsKnown : KindPlan → Type 0
  IsKnown p = p.kind < length kinds

  -- the customers of a route are nodes of the first kind
  customers_below : (p : KindPlan) → IsKnown p → IsFeasibleIn kinds 1 p → AreBelow (node_count g) (customers_of g p.stops)
  customers_below p known feasible =
      let own = network_of kinds p.kind in
      let agrees = agrees_at kinds fleet p.kind known in
      subst (λ (n : ℕ). AreBelow n (customers_of g p.stops)) agrees.nodes
      (subst (λ (cs : List ℕ). AreBelow (node_count own) cs) (same_customers g own agrees p.stops (plan_known own 1 own.capacity p.stops feasible)) (plan_below own 1 own.capacity p.stops feasible))

  are_apart : (rs : List MixedRoute) → IsMixedPlan kinds 1 (kind_plans rs) → AreApart stops_in g rs
  are_apart rs plan = record {
    some = λ k d within. at_route (λ p. customers_of g p.stops ≢ []) rs k d within plan.some;
    only = λ k d within. at_route (λ p. ServesOnly g p.stops) rs k d within plan.only;
    below = λ k d within.
        customers_below (kind_plan (get_or rs k d)) (at_route IsKnown rs k d within plan.known) (at_route (IsFeasibleIn kinds 1) rs k d within plan.feasible);
    once = λ x less is.
        let one = plan.once x less is in
        let same = ap (λ (plans : List (List Stop)). times_in (all_customers g plans) x) (plain_stops rs) in
        omega (arith, one, same);
  }

  -- a plan in order of these stops may be held
  pub may_hold : (rs : List MixedRoute) → IsMixedPlan kinds 1 (kind_plans rs) → IsNonDecreasingBy (λ (r : MixedRoute). first_outside r.plan.stops) rs → IsHeld kinds rs
  may_hold rs plan up =
      let apart = are_apart rs plan in
      let rising = firsts_rise stops_in g rs apart up in
      let routes : length rs ≤ node_count g = few_routes stops_in g rs apart rising in
      let network = network_at kinds fleet.networks 0 fleet.are.some in
      let nodes = network.few_nodes in
      record {
        plan = plan;
        order = rising;
        text = (
          omega (arith, routes, nodes),
          λ k d within.
              let p = kind_plan (get_or rs k d) in
              let known = at_route IsKnown rs k d within plan.known in
              let own = network_of kinds p.kind in
              record {
                kind = known;
                stops = feasible_fits own own.capacity p.stops (network_at kinds fleet.networks p.kind known) (at_route (IsFeasibleIn kinds 1) rs k d within plan.feasible);
              },
        );
      }
