-- Near routes that earn more than they take: columns of negative reduced cost (column generation:
-- Desaulniers, Desrosiers, Solomon 2005).
use Rattle.std.specs.Prelude.{◌≡◌, ℕ, ◌*◌, ◌<◌, List, [], ◌∷◌, ◌++◌}
use Rattle.ev_model.specs.Fleet.{customers_of}
use Rattle.ev_model.specs.Route.{IsRoute}
use Rattle.ev_model.specs.Time.{time_of}
use Rattle.ev_model.specs.declared.Stop.{Stop}
use Rattle.fleet_model.specs.Places.{numbers_of}
use Rattle.near_proof.specs.Routes.{IsNearRoute}
use Rattle.near_proof.specs.Terms.{earned_by}
use Rattle.near_pricing.specs.Questions.{Question}

-- a near route that takes, times the weight, less than it earns
pub record IsBetterNear (q : Question) (stops : List Stop) : Type 0 where
  pub route : IsNearRoute q.network q.terms.sets stops
  pub earns : q.terms.weight * time_of q.network 1 q.network.capacity stops
      < earned_by q.terms.prices (numbers_of q.network stops)

-- the customers at these nodes in this order make a route, of which there is such a plan
pub record HasBetter (q : Question) (order : List ℕ) : Type 0 where
  pub is_route : IsRoute q.network (0 ∷ order ++ 0 ∷ [])
  pub stops : List Stop
  pub serves : customers_of q.network stops ≡ order
  pub better : IsBetterNear q stops
