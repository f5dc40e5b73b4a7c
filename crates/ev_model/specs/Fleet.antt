-- Plans of a fleet, the answer of the electric vehicle routing problem with nonlinear charging
-- (Montoya, Gueret, Mendoza, Villegas 2017). A fleet plan is a list of plans with the same k; each vehicle starts full.
use Rattle.std.specs.Prelude.{◌≡◌, ◌≢◌, ℕ, ◌+◌, ◌<◌, List, [], ◌∷◌, ◌++◌, filter, nat_eq, if◌then◌else◌, true}
use Rattle.std.specs.List.{All}
use Rattle.ev_model.specs.Network.{Network, node_count, is_customer}
use Rattle.ev_model.specs.Feasible.{IsFeasible}
use Rattle.ev_model.specs.Route.{FollowsRoute, route_of}
use Rattle.ev_model.specs.Time.{time_of}
use Rattle.ev_model.specs.declared.Stop.{Stop}

-- the customers that a plan serves, in order
abbrev pub customers_of : Network → List Stop → List ℕ
customers_of g stops = filter (is_customer g) (route_of stops)

-- a stop that was not inserted is at a customer, or is the first or the last
abbrev pub ServesOnly : Network → List Stop → Type 0
ServesOnly g stops = FollowsRoute (0 ∷ customers_of g stops ++ 0 ∷ []) stops

-- the customers of all plans, in order
abbrev pub all_customers : Network → List (List Stop) → List ℕ
all_customers g [] = []
all_customers g (stops ∷ plans) = customers_of g stops ++ all_customers g plans

-- how often a number stands in a list
abbrev pub times_in : List ℕ → ℕ → ℕ
times_in [] x = 0
times_in (y ∷ ys) x = (if nat_eq y x then 1 else 0) + times_in ys x

-- a fleet plan in kths: each plan is feasible from full and has a customer, and each customer is served exactly once
pub record IsFleetPlan (g : Network) (k : ℕ) (plans : List (List Stop)) : Type 0 where
  pub feasible : All (IsFeasible g k g.capacity) plans
  pub some : All (λ stops. customers_of g stops ≢ []) plans
  pub only : All (ServesOnly g) plans
  pub once : (node : ℕ) → node < node_count g → is_customer g node ≡ true →
      times_in (all_customers g plans) node ≡ 1

-- the cost of a fleet plan: the sum of its plans' scaled times, in kths
abbrev pub cost_of : Network → ℕ → List (List Stop) → ℕ
cost_of g k [] = 0
cost_of g k (stops ∷ plans) = time_of g k g.capacity stops + cost_of g k plans
