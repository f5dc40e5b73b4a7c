-- The routes of a node as columns of the master problem.
use Rattle.std.specs.Prelude.{ℕ, ◌-◌, ◌≤◌, ◌^◌, List, [], get_or, Vec}
use Rattle.std.specs.Global.{Global}
use Rattle.std.specs.List.{All}
use Rattle.customer_sets.specs.Pairs.{allows_of, ForbiddenPairs}
use Rattle.ev_model.specs.Network.{Network}
use Rattle.ev_model.specs.declared.Stop.{Stop}
use Rattle.fleet_model.specs.Cover.{IsFleetRoute, Share as RouteShare}
use Rattle.fleet_model.specs.Pairs.{PlanKeepsPairs}
use Rattle.master_simplex.specs.declared.prices.Lp.{Lp}
use Rattle.master_table.specs.Tableau.{Limits}
use Rattle.piece_fn.specs.declared.label.Label.{Label}
use Rattle.price_loop.specs.Endings.{IsOver}
use Rattle.route_plan.specs.declared.plan.RoutePlan.{RoutePlan}
use Rattle.column_pool.specs.Nodes.{node_problem}
use Rattle.column_pool.specs.declared.route.NodeRoute.{NodeRoute}

-- a feasible plan from full that serves no customer twice and keeps the pairs
pub record IsNodeRoute (g : Network) (p : ForbiddenPairs) (stops : List Stop) : Type 0 where
  pub route : IsFleetRoute g 1 stops
  pub keeps : PlanKeepsPairs g (allows_of p) stops

abbrev pub AreNodeRoutes : Network → ForbiddenPairs → List RoutePlan → Type 0
AreNodeRoutes g p plans = All (λ plan. IsNodeRoute g p plan.stops) plans

-- the price loop has ended with these routes, at an answer of the simplex method and labels that show that none earns; its
-- caps are no more than a certificate's ranges
pub record IsPricedOut (g : Network) (p : ForbiddenPairs) (routes : List NodeRoute) (lp : Lp)
    (labels : Vec Label Global) : Type 0 where
  pub caps : Limits
  pub body : caps.body ≤ 2 ^ 40
  pub cost : caps.cost ≤ 2 ^ 84
  pub basis : List ℕ
  pub over : IsOver (node_problem g p) caps lp routes basis labels

-- a route without stops: what a number past the end stands for
abbrev pub no_route : NodeRoute
no_route = record { plan = record { stops = [] }; order = []; time = 0 }

-- the share of a column, with the plan of the column's route; the first n columns are helpers
abbrev pub share_of : ℕ → List NodeRoute → ℕ × ℕ → RouteShare
share_of n routes x = record { share = x.1; plan = (get_or routes (x.0 - n) no_route).plan.stops }
