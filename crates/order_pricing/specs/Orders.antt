-- Orders in which a vehicle serves its customers, and what they cost.
use Rattle.std.specs.Prelude.{◌≡◌, ℕ, ◌≤◌, List, [], ◌∷◌, ◌++◌}
use Rattle.std.specs.List.{All}
use Rattle.ev_model.specs.Fastest.{IsFastest}
use Rattle.ev_model.specs.Fleet.{times_in}
use Rattle.ev_model.specs.Network.{Network}
use Rattle.ev_model.specs.Time.{time_of}
use Rattle.ev_model.specs.declared.Stop.{Stop}
use Rattle.plan_check.specs.FleetRules.{IsCustomer}

-- from the depot over the customers to the depot
abbrev pub route_over : List ℕ → List ℕ
route_over order = 0 ∷ order ++ 0 ∷ []

-- the scaled time of a fastest plan, from full, that serves the customers in this order; none are
-- served in no time
abbrev pub IsLeastTime : Network → List ℕ → ℕ → Type 0
IsLeastTime g [] time = time ≡ 0
IsLeastTime g (x ∷ xs) time =
    (stops : List Stop) × IsFastest g (route_over (x ∷ xs)) g.capacity stops
    × (time ≡ time_of g 1 g.capacity stops)

-- the nodes are customers, of which none stands twice
pub record IsOrder (g : Network) (order : List ℕ) : Type 0 where
  pub customers : All (IsCustomer g) order
  pub once : (node : ℕ) → IsCustomer g node → times_in order node ≤ 1
