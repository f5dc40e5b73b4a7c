-- The routes of a node, and which of them earn.
use Rattle.std.proofs.Common.{◌≡◌, ◌∙◌, ℕ, ◌+◌, ◌*◌, ◌<◌, ◌≤◌, refl, sym, ap, subst, add-one, List, [], ◌∷◌, ◌++◌, drop, drop-cons, get_or, length, map, Vec, ℤ, pos, ◌<ℤ◌, ◌≤ℤ◌, suc}
use Rattle.std.specs.Global.{Global}
use Rattle.std.specs.List.{All}
use Rattle.std.proofs.lemmas.List.Elements.{All-contains, All-map, All-weaker}
use Rattle.customer_sets.specs.CustSet.{with_customer}
use Rattle.customer_sets.specs.Pairs.{allows_of, ForbiddenPairs}
use Rattle.ev_model.specs.Fleet.{customers_of}
use Rattle.ev_model.specs.Network.{IsNetwork, Network}
use Rattle.ev_model.specs.Route.{route_of}
use Rattle.ev_model.specs.declared.Stop.{Stop}
use Rattle.fleet_model.specs.Labels.{IsLevel, Label as PricedLabel}
use Rattle.fleet_model.specs.Pairs.{KeepsPairs, PlanKeepsPairs}
use Rattle.fleet_model.specs.Places.{customer_number, numbers_of, place_of}
use Rattle.fleet_model.specs.Prices.{price_sum}
use Rattle.fleet_model.specs.Section.{IsSectionOf}
use Rattle.fleet_model.proofs.Counts.{numbers_once}
use Rattle.fleet_model.proofs.Numbers.{counted}
use Rattle.fleet_model.proofs.Plans.{filtered, plan_pays}
use Rattle.instance_reader.specs.Instance.{customer_nodes}
use Rattle.piece_fn.specs.declared.label.Label.{Label}
use Rattle.closed_lists.specs.Sections.{paid_label, section_of}
use Rattle.price_loop.specs.Columns.{set_of}
use Rattle.price_loop.specs.Problems.{IsClosing, IsEarning}
use Rattle.pricing.specs.Answers.{AreClosed, IsBetterRoute, IsInRange}
use Rattle.pricing.specs.declared.priced.PricedRoute.{PricedRoute}
use Rattle.route_plan.specs.declared.plan.RoutePlan.{RoutePlan}
use Rattle.route_pool.specs.Pool.{full_time, IsColumn, IsPool}
use Rattle.column_pool.specs.Columns.{AreNodeRoutes, IsNodeRoute}
use Rattle.column_pool.specs.Nodes.{asked, IsColumnOf, IsTimedRoute, node_problem, plans_of_routes, timed}
use Rattle.column_pool.specs.declared.route.NodeRoute.{NodeRoute}

-- one customer more is in the set
pub set_step : (g : Network) (order : List ℕ) (i : ℕ) (set new : List ℕ) (number : ℕ) (all : List ℕ) → i < length order → number ≡ customer_number g (get_or order i 0) → new ≡ with_customer number set
    → set_of set (map (customer_number g) (drop i order)) ≡ all → set_of new (map (customer_number g) (drop (i + 1) order)) ≡ all
set_step g order i set new number all less is made before =
    let cut = ap (λ xs. set_of set (map (customer_number g) xs)) (drop-cons order i 0 less) in
    let here : new ≡ with_customer (customer_number g (get_or order i 0)) set = made ∙ ap (λ m. with_customer m set) is in
    ap (λ k. set_of new (map (customer_number g) (drop k order))) (add-one i)
    ∙ ap (λ s. set_of s (map (customer_number g) (drop (suc i) order))) here
    ∙ sym cut ∙ before

abbrev LevelsFit : Network → PricedLabel → Type 0
LevelsFit g l = (y : ℕ) → IsLevel l y → y ≤ g.capacity

module _ (g : Network) (p : ForbiddenPairs) where
  -- ---- routes with their times
  pub node_route : (r : NodeRoute) → IsTimedRoute g p r → IsNodeRoute g p r.plan.stops
  node_route r is = record { route = is.column.route; keeps = is.keeps }

  pub node_routes : (routes : List NodeRoute) → All (IsTimedRoute g p) routes → AreNodeRoutes g p (plans_of_routes routes)
  node_routes routes all =
      let P = λ (plan : RoutePlan). IsNodeRoute g p plan.stops in
      All-map P (λ (r : NodeRoute). r.plan) routes (All-weaker (IsTimedRoute g p) (λ (r : NodeRoute). P r.plan) node_route routes all)

  pub all_columns : (routes : List NodeRoute) → All (IsTimedRoute g p) routes → All (IsColumnOf g) routes
  all_columns routes all = All-weaker (IsTimedRoute g p) (IsColumnOf g) (λ r is. is.column) routes all

  pub timed_route : (r : NodeRoute) → IsColumnOf g r → PlanKeepsPairs g (allows_of p) r.plan.stops → r.time ≡ full_time g r.plan.stops → IsTimedRoute g p r
  timed_route r column keeps time = record {
    column = column;
    keeps = keeps;
    once = numbers_once g (customers_of g r.plan.stops) (filtered g (route_of r.plan.stops)) column.route.once;
    time = time;
  }

  -- a route whose order keeps the pairs
  pub kept_route : (plan : RoutePlan) (order : List ℕ) → IsColumn g order plan.stops → KeepsPairs (allows_of p) (0 ∷ map (place_of g) order ++ 0 ∷ [])
      → IsTimedRoute g p (record { plan = plan; order = order; time = full_time g plan.stops })
  kept_route plan order column keeps =
      timed_route (record { plan = plan; order = order; time = full_time g plan.stops }) column
      (subst (λ xs. KeepsPairs (allows_of p) (0 ∷ map (place_of g) xs ++ 0 ∷ [])) (sym column.serves) keeps) refl

  -- a route of the node by its stops
  abbrev pub route_by : List Stop → NodeRoute
  route_by stops = record { plan = record { stops = stops }; order = customers_of g stops; time = full_time g stops }

  pub is_route_by : (stops : List Stop) → IsNodeRoute g p stops → IsTimedRoute g p (route_by stops)
  is_route_by stops is = timed_route (route_by stops) (record { route = is.route; serves = refl }) is.keeps refl

  module _ (weight : ℕ) (prices : List ℤ) where
    -- ---- routes that pricing finds
    pub better_earns : (r : PricedRoute) → IsBetterRoute (asked g p weight prices) r → IsEarning (node_problem g p) weight prices (timed g r)
    better_earns r is = record {
      route = timed_route (timed g r) (record { route = is.route; serves = is.serves }) is.keeps refl;
      earns = subst (λ (ns : List ℕ). pos (weight * full_time g r.plan.stops) <ℤ price_sum prices (map (customer_number g) ns)) (sym is.serves) is.earns;
    }

    pub all_earn : (routes : List PricedRoute) → All (IsBetterRoute (asked g p weight prices)) routes → All (IsEarning (node_problem g p) weight prices) (map (timed g) routes)
    all_earn routes all =
        let E = IsEarning (node_problem g p) weight prices in
        All-map E (timed g) routes (All-weaker (IsBetterRoute (asked g p weight prices)) (λ (r : PricedRoute). E (timed g r)) better_earns routes all)

    pub better_pool : (routes : List PricedRoute) → All (IsBetterRoute (asked g p weight prices)) routes → IsPool g routes
    better_pool routes all =
        All-weaker (IsBetterRoute (asked g p weight prices)) (λ (r : PricedRoute). IsColumn g r.order.items r.plan.stops) (λ r is. record { route = is.route; serves = is.serves }) routes all

    -- ---- what closed labels show
    module _ (labels : Vec Label Global) (count : length prices ≡ length (customer_nodes g)) (are : AreClosed (asked g p weight prices) labels.items) where
      levels_of : (l : Label) → IsInRange g l → LevelsFit g (paid_label prices l)
      levels_of l range y level = range.levels y level

      section_is : IsSectionOf g (section_of p weight prices labels.items)
      section_is =
          let each = All-map (LevelsFit g) (paid_label prices) labels.items (All-weaker (IsInRange g) (λ l. LevelsFit g (paid_label prices l)) levels_of labels.items are.ranges) in
          record {
            one_price = count ∙ counted g;
            levels = λ l y there level. All-contains (LevelsFit g) (map (paid_label prices) labels.items) l each there y level;
          }

      pays : IsNetwork g → (stops : List Stop) → IsNodeRoute g p stops → price_sum prices (numbers_of g stops) ≤ℤ pos (weight * full_time g stops)
      pays network stops is = plan_pays g (section_of p weight prices labels.items) stops network section_is are.closed is.route.feasible is.route.only is.keeps is.route.once

      pub closing : IsNetwork g → IsClosing (node_problem g p) weight prices labels
      closing network = record {
        closes = are;
        none = λ r is. subst (λ t. price_sum prices (numbers_of g r.plan.stops) ≤ℤ pos (weight * t)) (sym is.time) (pays network r.plan.stops (node_route r is));
      }
