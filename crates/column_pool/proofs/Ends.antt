-- Where the price loop ends at a basis past the caps, this is one of the columns that certificates list.
use Rattle.std.proofs.Common.{◌≡◌, ℕ, zero, suc, refl, ap, subst, List, [], ◌∷◌, ◌++◌, map, length}
use Rattle.std.specs.List.{All}
use Rattle.std.proofs.lemmas.List.Elements.{All-head, All-tail}
use Rattle.customer_sets.specs.Pairs.{ForbiddenPairs}
use Rattle.ev_model.specs.Network.{Network}
use Rattle.fleet_model.specs.Equations.{Column, column_at, helpers, route}
use Rattle.fleet_model.specs.Places.{numbers_of}
use Rattle.fleet_model.specs.Strong.{column_of as listed_column}
use Rattle.fleet_model.proofs.Numbers.{counted}
use Rattle.instance_reader.specs.Instance.{customer_nodes}
use Rattle.master_table.specs.Tableau.{Limits}
use Rattle.price_loop.specs.Masters.{IsPastBasis as IsPastAmong, IsWide}
use Rattle.price_loop.specs.Problems.{column_of}
use Rattle.price_loop.proofs.Alike.{alike_same, AreAlike, IsAlike}
use Rattle.price_loop.proofs.ListedBases.{listed_past}
use Rattle.price_loop.proofs.Optimum.{has_of}
use Rattle.column_pool.specs.Nodes.{IsTimedRoute, node_problem, plans_of_routes}
use Rattle.column_pool.specs.TooWide.{IsPastBasis}
use Rattle.column_pool.specs.declared.route.NodeRoute.{NodeRoute}

module _ (g : Network) (p : ForbiddenPairs) where
  abbrev tabled : List NodeRoute → List Column
  tabled routes = map (column_of (node_problem g p)) routes

  abbrev listed : List NodeRoute → List Column
  listed routes = map (listed_column g) (map (λ c. c.stops) (plans_of_routes routes))

  route_alike : (r : NodeRoute) → IsTimedRoute g p r → IsAlike (column_of (node_problem g p) r) (listed_column g r.plan.stops)
  route_alike r is = record { members = λ c. has_of (numbers_of g r.plan.stops) c; cost = is.time; help = refl }

  count_columns : (routes : List NodeRoute) → length (tabled routes) ≡ length (listed routes)
  count_columns [] = refl
  count_columns (r ∷ rs) = ap suc (count_columns rs)

  each_alike : (routes : List NodeRoute) → All (IsTimedRoute g p) routes → (j : ℕ) → IsAlike (column_at (tabled routes) j) (column_at (listed routes) j)
  each_alike [] are j = alike_same (route [] 0)
  each_alike (r ∷ rs) are zero = route_alike r (All-head (IsTimedRoute g p) r rs are)
  each_alike (r ∷ rs) are (suc j) = each_alike rs (All-tail (IsTimedRoute g p) r rs are) j

  columns_alike : (routes : List NodeRoute) → All (IsTimedRoute g p) routes → AreAlike (tabled routes) (listed routes)
  columns_alike routes are = record { count = count_columns routes; each = each_alike routes are }

  pub wide_plans : (caps : Limits) (routes : List NodeRoute) (basis : List ℕ) → IsWide (node_problem g p) caps routes basis → IsPastBasis g caps (plans_of_routes routes) basis
  wide_plans caps routes basis wide =
      let past = listed_past (length (customer_nodes g)) caps (tabled routes) (listed routes) (columns_alike routes wide.routes_are) basis wide.past in
      subst (λ k. IsPastAmong k caps (helpers k ++ listed routes) basis) (counted g) past
