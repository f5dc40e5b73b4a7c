-- Customers by number, and the places of a route: the depot and the customers, whatever stations stand
-- between.
use Rattle.std.specs.Prelude.{ℕ, zero, suc, ◌+◌, List, [], ◌∷◌, ◌++◌, map, if◌then◌else◌}
use Rattle.ev_model.specs.Network.{Network, node_count, is_customer}
use Rattle.ev_model.specs.Fleet.{customers_of}
use Rattle.ev_model.specs.declared.Stop.{Stop}

-- the number of a customer: how many customers have a smaller node
abbrev pub customer_number : Network → ℕ → ℕ
customer_number g zero = 0
customer_number g (suc node) = customer_number g node + (if is_customer g node then 1 else 0)

abbrev pub customer_count : Network → ℕ
customer_count g = customer_number g (node_count g)

-- the numbers of the customers that a plan serves, in order
abbrev pub numbers_of : Network → List Stop → List ℕ
numbers_of g stops = map (customer_number g) (customers_of g stops)

-- one more than a customer's number, 0 for the depot
abbrev pub place_of : Network → ℕ → ℕ
place_of g node = if is_customer g node then customer_number g node + 1 else 0

-- the places of a plan's route: the depot, its customers in order, the depot
abbrev pub places_of : Network → List Stop → List ℕ
places_of g stops = 0 ∷ map (place_of g) (customers_of g stops) ++ 0 ∷ []
