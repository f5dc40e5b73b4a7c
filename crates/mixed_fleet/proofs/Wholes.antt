-- Where each route of an exact root has its whole share, they are a plan at exactly the bound.
use Rattle.std.proofs.Common.{◌≡◌, ◌≢◌, ◌∙◌, ℕ, ◌+◌, ◌*◌, ◌<◌, ◌≤◌, List, [], ◌∷◌, ◌++◌, Option, Some, None, length, map, sym, ap, subst, arith}
use Rattle.std.specs.Prelude.{ℤ, pos}
use Rattle.std.specs.List.{All}
use Rattle.std.specs.List.Sorted.{IsNonDecreasingBy, IsPermutation}
use Rattle.std.proofs.lemmas.List.Elements.{All-cons, All-head, All-nil, All-tail}
use Rattle.std.proofs.lemmas.List.Sorted.{IsPermutation-map}
use Rattle.ev_model.specs.Fleet.{all_customers, customers_of, ServesOnly, times_in}
use Rattle.ev_model.specs.Network.{Network}
use Rattle.fleet_model.specs.Cover.{shares_of}
use Rattle.fleet_model.specs.Prices.{price_total}
use Rattle.fleet_model.proofs.Counts.{times_append}
use Rattle.mixed_model.specs.Accepted.{RootHolds}
use Rattle.mixed_model.specs.Covers.{IsExactCover, IsKindRoute, KindShare, mixed_cost_of_shares, plain_shares}
use Rattle.mixed_model.specs.Kinds.{first_of, network_of}
use Rattle.mixed_model.specs.Meaning.{kind_plan, kind_plans, kind_shares}
use Rattle.mixed_model.specs.Plans.{IsFeasibleIn, IsMixedPlan, KindPlan, plain_plans}
use Rattle.mixed_model.specs.declared.proof.MixedProof.{MixedProof}
use Rattle.mixed_model.specs.declared.proof.MixedRoot.{MixedRoot}
use Rattle.mixed_model.specs.declared.proof.MixedRoot.TheVariants.{Exact}
use Rattle.mixed_model.specs.declared.proof.MixedRoute.{MixedRoute}
use Rattle.mixed_model.specs.declared.proof.MixedShare.{MixedShare}
use Rattle.mixed_model.proofs.AgreeingNetworks.{same_customers}
use Rattle.mixed_model.proofs.Known.{plan_known}
use Rattle.certificate_check.proofs.RoundedSums.{cancelled, rounded_is_cost, same_factor}
use Rattle.set_partitioning.specs.FirstCustomers.{first_outside}
use Rattle.mixed_fleet.specs.Fleets.{AreFleetKinds}
use Rattle.mixed_fleet.specs.Plans.{cost_of_routes}
use Rattle.mixed_fleet.specs.Proofs.{IsBestProof, IsBoundOf}
use Rattle.mixed_fleet.specs.Whole.{AreWhole, IsAtBound}
use Rattle.mixed_fleet.proofs.Firsts.{may_hold}
use Rattle.mixed_fleet.proofs.Once.{agrees_at}
use Rattle.mixed_fleet.proofs.RouteOrders.{permuted_cost, permuted_plan}

abbrev route_in : MixedShare → MixedRoute
route_in x = x.route

abbrev routes_in : List MixedShare → List MixedRoute
routes_in shares = map route_in shares

module _ (kinds : List Network) (over : ℕ) where
  abbrev g : Network
  g = first_of kinds

  times_whole : (shares : List MixedShare) → AreWhole over shares → (node : ℕ) → shares_of g (plain_shares (kind_shares shares)) node ≡ over * times_in (all_customers g (plain_plans (kind_plans (routes_in shares)))) node
  times_whole [] whole node = omega arith
  times_whole (x ∷ xs) whole node =
      let P = λ (x : MixedShare). x.share ≡ over in
      let here : x.share * times_in (customers_of g x.route.plan.stops) node ≡ over * times_in (customers_of g x.route.plan.stops) node = ap (λ k. k * times_in (customers_of g x.route.plan.stops) node) (All-head P x xs whole) in
      let rest = times_whole xs (All-tail P x xs whole) node in
      let both = times_append (customers_of g x.route.plan.stops) (all_customers g (plain_plans (kind_plans (routes_in xs)))) node in
      let sum : over * times_in (customers_of g x.route.plan.stops ++ all_customers g (plain_plans (kind_plans (routes_in xs)))) node
      ≡ over * (times_in (customers_of g x.route.plan.stops) node + times_in (all_customers g (plain_plans (kind_plans (routes_in xs)))) node) = ap (λ k. over * k) both in
      omega (arith, here, rest, sum)

  cost_whole : (shares : List MixedShare) → AreWhole over shares → mixed_cost_of_shares kinds 1 (kind_shares shares) ≡ over * cost_of_routes kinds (routes_in shares)
  cost_whole [] whole = omega arith
  cost_whole (x ∷ xs) whole =
      let P = λ (x : MixedShare). x.share ≡ over in
      let share = All-head P x xs whole in
      let rest = cost_whole xs (All-tail P x xs whole) in
      rw share (omega (arith, rest))

  module _ (fleet : AreFleetKinds kinds) where
    abbrev IsRoute : KindShare → Type 0
    IsRoute x = IsKindRoute kinds 1 x.plan

    abbrev as_share : MixedShare → KindShare
    as_share x = record { share = x.share; plan = kind_plan x.route }

    module _ (Q : KindPlan → Type 0) (of : (p : KindPlan) → IsKindRoute kinds 1 p → Q p) where
      each : (shares : List MixedShare) → All IsRoute (kind_shares shares) → All Q (kind_plans (routes_in shares))
      each [] routes = All-nil Q
      each (x ∷ xs) routes = All-cons Q (kind_plan x.route) (kind_plans (routes_in xs)) (of (kind_plan x.route) (All-head IsRoute (as_share x) (kind_shares xs) routes)) (each xs (All-tail IsRoute (as_share x) (kind_shares xs) routes))

    same_served : (p : KindPlan) → IsKindRoute kinds 1 p → customers_of (network_of kinds p.kind) p.stops ≡ customers_of g p.stops
    same_served p route =
        let own = network_of kinds p.kind in
        same_customers g own (agrees_at kinds fleet p.kind route.known) p.stops (plan_known own 1 own.capacity p.stops route.route.feasible)

    whole_plan : (shares : List MixedShare) (weight : ℕ) (prices : List ℤ) → AreWhole over shares → IsExactCover kinds weight prices over (kind_shares shares) → IsMixedPlan kinds 1 (kind_plans (routes_in shares))
    whole_plan shares weight prices whole exact =
        let routes = exact.cover.routes in
        let some_over = exact.cover.some_weight in
        record {
          known = each (λ (p : KindPlan). p.kind < length kinds) (λ p route. route.known) shares routes;
          feasible = each (IsFeasibleIn kinds 1) (λ p route. route.route.feasible) shares routes;
          some = each (λ (p : KindPlan). customers_of g p.stops ≢ []) (λ p route none. route.route.some (same_served p route ∙ none)) shares routes;
          only = each (λ (p : KindPlan). ServesOnly g p.stops) (λ p route. route.route.only ∙ ap (λ (cs : List ℕ). 0 ∷ cs ++ 0 ∷ []) (same_served p route)) shares routes;
          once = λ node known is.
              let covered = exact.cover.covers node known is in
              let times = times_whole shares whole node in
              let one : over * 1 ≡ over = omega arith in
              same_factor over (times_in (all_customers g (plain_plans (kind_plans (routes_in shares)))) node) 1 some_over (sym times ∙ covered ∙ sym one);
        }

    whole_cost : (shares : List MixedShare) (weight : ℕ) (prices : List ℤ) → AreWhole over shares → IsExactCover kinds weight prices over (kind_shares shares) → price_total prices ≡ pos (weight * cost_of_routes kinds (routes_in shares))
    whole_cost shares weight prices whole exact =
        let cost = cost_of_routes kinds (routes_in shares) in
        let same : mixed_cost_of_shares kinds 1 (kind_shares shares) * weight ≡ over * (weight * cost) = ap (λ n. n * weight) (cost_whole shares whole) ∙ omega arith in
        cancelled over (weight * cost) (price_total prices) exact.cover.some_weight (sym (ap pos same) ∙ exact.cost)

-- ---- the bound of an exact root

bound_at : (weight cost : ℕ) (prices : List ℤ) (bound : Option ℕ) → IsBoundOf weight prices bound → 1 ≤ weight → price_total prices ≡ pos (weight * cost) → bound ≡ Some cost
bound_at weight cost prices None is some sum = absurd (let none = is.0 in omega (arith, none, some))
bound_at weight cost prices (Some bound) is some sum = ap Some (rounded_is_cost (price_total prices) weight cost bound some sum is.1)

pub at_bound : (kinds : List Network) (p : MixedProof) (over : ℕ) (shares : List MixedShare) (routes sorted : List MixedRoute) → AreFleetKinds kinds → IsBestProof kinds p → p.root ≡ Exact over shares → AreWhole over shares
    → routes ≡ routes_in shares → IsPermutation routes sorted → IsNonDecreasingBy (λ (r : MixedRoute). first_outside r.plan.stops) sorted → IsAtBound kinds p sorted
at_bound kinds p over shares routes sorted fleet best is whole are same order =
    let exact : IsExactCover kinds p.weight p.prices over (kind_shares shares) = subst (λ (r : MixedRoot). RootHolds kinds p r) is best.accepted.root in
    let made = whole_plan kinds over fleet shares p.weight p.prices whole exact in
    let sum = whole_cost kinds over fleet shares p.weight p.prices whole exact in
    let moved : IsPermutation (routes_in shares) sorted = subst (λ (rs : List MixedRoute). IsPermutation rs sorted) are same in
    let plans = IsPermutation-map kind_plan (routes_in shares) sorted moved in
    let plan = permuted_plan kinds 1 (kind_plans (routes_in shares)) (kind_plans sorted) plans made in
    let cost = permuted_cost kinds 1 (kind_plans (routes_in shares)) (kind_plans sorted) plans in
    record {
      held = may_hold kinds fleet sorted plan order;
      cost = bound_at p.weight (cost_of_routes kinds (routes_in shares)) p.prices p.bound best.bound_is exact.some_weight sum ∙ ap Some (sym cost);
    }
