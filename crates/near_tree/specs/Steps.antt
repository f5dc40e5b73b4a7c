-- Steps of a vehicle on a near route at a leaf: to a customer who may come next and isn't
-- remembered, to a station where it may charge to any whole level, or home.
use Rattle.std.specs.Prelude.{◌≡◌, ℕ, ◌+◌, ◌≤◌, ℤ, ◌+ℤ◌, true, false}
use Rattle.customer_sets.specs.CustSet.{has}
use Rattle.ev_model.specs.Network.{energy, is_customer, Network, scaled_limit}
use Rattle.fleet_model.specs.Labels.{state_at}
use Rattle.fleet_model.specs.Places.{customer_number, place_of}
use Rattle.fleet_model.specs.Prices.{price_of}
use Rattle.fleet_model.specs.Steps.{at_station, IsStationStep, IsStep, level_at, start, time_at}
use Rattle.near_tree.specs.Branches.{Branch}
use Rattle.near_tree.specs.Follows.{entries_earned, MayFollow}
use Rattle.near_proof.specs.Terms.{remembered}
use Rattle.near_tree.specs.Sections.{after, Last, LeafLabel, NearSection, LeafState}

-- at the depot with a full battery, before any customer
abbrev pub leaf_start : Network → LeafState
leaf_start g = record { last = after 0; state = start g }

-- the state of a label at one of its levels
abbrev pub leaf_at : LeafLabel → ℕ → LeafState
leaf_at l y = record { last = l.last; state = state_at l.label y }

-- what serving the customer at a node earns: the customer's price, and what coming next earns by
-- counted sets
abbrev pub earned_at : Network → Branch → NearSection → Last → ℕ → ℤ
earned_at g b s l x =
    price_of s.prices (customer_number g x)
    +ℤ entries_earned b.counted s.entry_prices l (place_of g x)

-- the state after serving a customer
abbrev pub at_leaf_customer : Network → Branch → NearSection → LeafState → ℕ → LeafState
at_leaf_customer g b s a x = record {
  last = after (place_of g x);
  state = record {
    last = 0;
    node = x;
    served = remembered s.sets a.state.served (customer_number g x);
    paid = earned_at g b s a.last x +ℤ a.state.paid;
    level = level_at g a.state x;
    time = time_at g a.state x;
  };
}

pub record IsLeafCustomerStep (g : Network) (b : Branch) (a : LeafState) (x : ℕ) : Type 0 where
  pub step : IsStep g a.state x
  pub customer : is_customer g x ≡ true
  pub new : has a.state.served (customer_number g x) ≡ false
  pub next : MayFollow b a.last (place_of g x)
  pub in_time : time_at g a.state x ≤ scaled_limit g

-- the state after charging at a station up to the level z: the last customer stays
abbrev pub at_leaf_station : Network → LeafState → ℕ → ℕ → LeafState
at_leaf_station g a x z = record a { state = at_station g a.state x z }

-- a step to a station
abbrev pub IsLeafStationStep : Network → LeafState → ℕ → ℕ → Type 0
IsLeafStationStep g a x z = IsStationStep g a.state x z

-- the step that ends a route, where home may come next, with the level at home at least
pub record IsLeafHomeStep (g : Network) (b : Branch) (a : LeafState) : Type 0 where
  pub step : IsStep g a.state 0
  pub next : MayFollow b a.last 0
  pub home : energy g a.state.node 0 + g.home_level ≤ a.state.level
  pub in_time : time_at g a.state 0 ≤ scaled_limit g
