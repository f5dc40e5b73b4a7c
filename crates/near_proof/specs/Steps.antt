-- Steps of a vehicle on a near route: to a customer who isn't remembered, to a station where it may
-- charge to any whole level, or home.
use Rattle.std.specs.Prelude.{◌≡◌, ℕ, ◌+◌, ◌<◌, ◌≤◌, true, false, pos, ◌+ℤ◌}
use Rattle.customer_sets.specs.CustSet.{has}
use Rattle.ev_model.specs.Network.{Network, energy, is_customer, scaled_limit}
use Rattle.fleet_model.specs.Places.{customer_count, customer_number}
use Rattle.fleet_model.specs.Steps.{at_station, IsStationStep, IsStep, level_at, time_at}
use Rattle.near_proof.specs.States.{NearState}
use Rattle.near_proof.specs.Terms.{price_of, remembered, Terms}

-- the state after serving a customer
abbrev pub at_near_customer : Network → Terms → NearState → ℕ → NearState
at_near_customer g t a x = record {
  state = record {
    last = 0;
    node = x;
    served = remembered t.sets a.state.served (customer_number g x);
    paid = pos (price_of t.prices (customer_number g x)) +ℤ a.state.paid;
    level = level_at g a.state x;
    time = time_at g a.state x;
  };
  count = a.count + 1;
}

-- a step to a customer who isn't remembered, with fewer services before than there are customers
pub record IsNearCustomerStep (g : Network) (a : NearState) (x : ℕ) : Type 0 where
  pub step : IsStep g a.state x
  pub customer : is_customer g x ≡ true
  pub new : has a.state.served (customer_number g x) ≡ false
  pub fewer : a.count < customer_count g
  pub in_time : time_at g a.state x ≤ scaled_limit g

-- the state after charging at a station up to the level z
abbrev pub at_near_station : Network → NearState → ℕ → ℕ → NearState
at_near_station g a x z = record { state = at_station g a.state x z; count = a.count }

-- a step to a station
abbrev pub IsNearStationStep : Network → NearState → ℕ → ℕ → Type 0
IsNearStationStep g a x z = IsStationStep g a.state x z

-- the step that ends a route, with the level at home at least
pub record IsNearHomeStep (g : Network) (a : NearState) : Type 0 where
  pub step : IsStep g a.state 0
  pub home : energy g a.state.node 0 + g.home_level ≤ a.state.level
  pub in_time : time_at g a.state 0 ≤ scaled_limit g
