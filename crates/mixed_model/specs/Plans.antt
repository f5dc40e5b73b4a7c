-- Plans of a fleet of several kinds of vehicles, in kths of a unit of charge. Each vehicle starts
-- full; there are as many vehicles of a kind as the plan has routes for it.
use Rattle.std.specs.Prelude.{◌≡◌, ◌≢◌, ℕ, ◌+◌, ◌<◌, List, [], ◌∷◌, length, map, true}
use Rattle.std.specs.List.{All}
use Rattle.ev_model.specs.Feasible.{IsFeasible}
use Rattle.ev_model.specs.Fleet.{all_customers, customers_of, ServesOnly, times_in}
use Rattle.ev_model.specs.Network.{is_customer, Network, node_count}
use Rattle.ev_model.specs.Time.{time_of}
use Rattle.ev_model.specs.declared.Stop.{Stop}
use Rattle.mixed_model.specs.Kinds.{first_of, network_of}

-- a plan of a vehicle, with the number of its kind
pub record KindPlan : Type 0 where
  pub kind : ℕ
  pub stops : List Stop

-- the plans without their kinds
abbrev pub plain_plans : List KindPlan → List (List Stop)
plain_plans plans = map (λ p. p.stops) plans

-- the plan is feasible from full in the network of its kind
abbrev pub IsFeasibleIn : List Network → ℕ → KindPlan → Type 0
IsFeasibleIn kinds k p =
    IsFeasible (network_of kinds p.kind) k (network_of kinds p.kind).capacity p.stops

-- its scaled time there, in kths
abbrev pub time_in : List Network → ℕ → KindPlan → ℕ
time_in kinds k p = time_of (network_of kinds p.kind) k (network_of kinds p.kind).capacity p.stops

-- a plan of such a fleet: each plan is feasible in the network of its kind, has a customer and
-- serves customers alone, and over all of them each customer is served exactly once
pub record IsMixedPlan (kinds : List Network) (k : ℕ) (plans : List KindPlan) : Type 0 where
  pub known : All (λ p. p.kind < length kinds) plans
  pub feasible : All (IsFeasibleIn kinds k) plans
  pub some : All (λ p. customers_of (first_of kinds) p.stops ≢ []) plans
  pub only : All (λ p. ServesOnly (first_of kinds) p.stops) plans
  pub once : (node : ℕ) → node < node_count (first_of kinds) →
      is_customer (first_of kinds) node ≡ true →
      times_in (all_customers (first_of kinds) (plain_plans plans)) node ≡ 1

-- what it costs: the sum of the scaled times, each in the network of its kind, in kths
abbrev pub mixed_cost : List Network → ℕ → List KindPlan → ℕ
mixed_cost kinds k [] = 0
mixed_cost kinds k (p ∷ plans) = time_in kinds k p + mixed_cost kinds k plans
