-- Steps of a vehicle from a state: to a customer, to a station where it may charge to any whole level, or
-- home.
use Rattle.std.specs.Prelude.{◌≡◌, ◌≢◌, ℕ, ◌+◌, ◌-◌, ◌*◌, ◌<◌, ◌≤◌, true, false, [], ◌∷◌, nat_lt, IsSome, if◌then◌else◌, pos, ◌+ℤ◌}
use Rattle.customer_sets.specs.CustSet.{has}
use Rattle.ev_model.specs.Network.{Network, node_count, energy, travel_time, process_time, plug_time, curve_at, is_customer, scaled_limit}
use Rattle.ev_model.specs.Time.{charging_time}
use Rattle.fleet_model.specs.Labels.{State}
use Rattle.fleet_model.specs.Places.{customer_number, place_of}
use Rattle.fleet_model.specs.Prices.{price_of}
use Rattle.fleet_model.specs.Section.{Section}

-- at the depot with a full battery, before any customer
abbrev pub start : Network → State
start g = record { last = 0; node = 0; served = []; paid = pos 0; level = g.capacity; time = 0 }

-- the level on arriving at a node
abbrev pub level_at : Network → State → ℕ → ℕ
level_at g a x = a.level - energy g a.node x

-- the scaled time when a node was reached and its process time is over
abbrev pub time_at : Network → State → ℕ → ℕ
time_at g a x = a.time + g.denominator * (travel_time g a.node x + process_time g x)

-- what holds of a step to any node: it is another one, and is reached with the reserve at least
pub record IsStep (g : Network) (a : State) (x : ℕ) : Type 0 where
  pub known : x < node_count g
  pub moves : x ≢ a.node
  pub reaches : energy g a.node x + g.reserve ≤ a.level

-- the state after serving a customer
abbrev pub at_customer : Network → Section → State → ℕ → State
at_customer g s a x = record {
  last = x;
  node = x;
  served = customer_number g x ∷ a.served;
  paid = price_of s.prices (customer_number g x) +ℤ a.paid;
  level = level_at g a x;
  time = time_at g a x;
}

-- a step to a customer who wasn't served yet, along an allowed pair
pub record IsCustomerStep (g : Network) (s : Section) (a : State) (x : ℕ) : Type 0 where
  pub step : IsStep g a x
  pub customer : is_customer g x ≡ true
  pub new : has a.served (customer_number g x) ≡ false
  pub allowed : s.allows (place_of g a.last) (place_of g x) ≡ true
  pub in_time : time_at g a x ≤ scaled_limit g

-- the state after charging at a station up to the level z; plugging in is paid where something is charged
abbrev pub at_station : Network → State → ℕ → ℕ → State
at_station g a x z = record a {
  node = x;
  level = z;
  time = time_at g a x + g.denominator * (if nat_lt (level_at g a x) z then plug_time g x else 0)
      + charging_time 1 g.denominator (curve_at g x) (level_at g a x) z;
}

-- a step to a station
pub record IsStationStep (g : Network) (a : State) (x z : ℕ) : Type 0 where
  pub step : IsStep g a x
  pub station : IsSome (curve_at g x)
  pub charges : level_at g a x ≤ z
  pub full : z ≤ g.capacity
  pub in_time : (at_station g a x z).time ≤ scaled_limit g

-- the step that ends a route, after a customer and along an allowed pair, with the level at home at least
pub record IsHomeStep (g : Network) (s : Section) (a : State) : Type 0 where
  pub step : IsStep g a 0
  pub some : a.last ≢ 0
  pub allowed : s.allows (place_of g a.last) 0 ≡ true
  pub home : energy g a.node 0 + g.home_level ≤ a.level
  pub in_time : time_at g a 0 ≤ scaled_limit g
