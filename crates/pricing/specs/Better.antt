-- Routes that earn more than they take: columns of negative reduced cost (column generation: Desaulniers,
-- Desrosiers, Solomon 2005).
use Rattle.std.specs.Prelude.{◌≡◌, ℕ, ◌*◌, List, [], ◌∷◌, ◌++◌, map, pos, ◌<ℤ◌}
use Rattle.customer_sets.specs.Pairs.{allows_of}
use Rattle.ev_model.specs.Fleet.{customers_of}
use Rattle.ev_model.specs.Route.{IsRoute}
use Rattle.ev_model.specs.Time.{time_of}
use Rattle.ev_model.specs.declared.Stop.{Stop}
use Rattle.fleet_model.specs.Cover.{IsFleetRoute}
use Rattle.fleet_model.specs.Pairs.{PlanKeepsPairs}
use Rattle.fleet_model.specs.Places.{customer_number}
use Rattle.fleet_model.specs.Prices.{price_sum}
use Rattle.closed_lists.specs.Questions.{Question}

-- a feasible plan from full that serves the customers at these nodes in this order, each once, and no other,
-- keeps the pairs, and takes, times the weight, less time than the sum of their prices
pub record IsBetter (q : Question) (stops : List Stop) (order : List ℕ) : Type 0 where
  pub route : IsFleetRoute q.network 1 stops
  pub serves : customers_of q.network stops ≡ order
  pub keeps : PlanKeepsPairs q.network (allows_of q.pairs) stops
  pub earns : pos (q.weight * time_of q.network 1 q.network.capacity stops)
      <ℤ price_sum q.prices (map (customer_number q.network) order)

-- these nodes make a route, of which there is such a plan
pub record HasBetter (q : Question) (order : List ℕ) : Type 0 where
  pub is_route : IsRoute q.network (0 ∷ order ++ 0 ∷ [])
  pub stops : List Stop
  pub better : IsBetter q stops order
