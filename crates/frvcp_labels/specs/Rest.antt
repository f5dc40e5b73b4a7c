-- A lower bound on the rest of a way: whoever drives on has to charge what the battery lacks,
-- nowhere faster than at one rate.
use Rattle.std.specs.Prelude.{◌≡◌, ℕ, ◌+◌, ◌-◌, ◌*◌, ◌<◌, ◌≤◌, List, length, slice_index}
use Rattle.std.specs.List.{All}
use Rattle.std.specs.Option.{IsSome}
use Rattle.ev_model.specs.Network.{Network, curve_at, energy, node_count}
use Rattle.ev_model.specs.Time.{charging_time}
use Rattle.label_steps.specs.Arrivals.{drive_time}

-- at a node a unit of charge takes at least so much scaled time
abbrev pub IsRateAt : Network → ℕ → ℕ → Type 0
IsRateAt g rate node =
    (a b : ℕ) → a ≤ b → b ≤ g.capacity →
    rate * (b - a) ≤ charging_time 1 g.denominator (curve_at g node) a b

-- it does at each station
abbrev pub IsRate : Network → ℕ → Type 0
IsRate g rate =
    (node : ℕ) → node < node_count g → IsSome (curve_at g node) → IsRateAt g rate node

-- the time of an arc, of the visit at its end, and of charging what the arc takes at a rate
abbrev pub step_cost : Network → ℕ → ℕ → ℕ → ℕ
step_cost g rate from to = drive_time g from to + rate * energy g from to

-- a number is no greater than each cost of going on from a node over a station, by a table that has
-- the node number n of a layer at base + n
abbrev pub IsBelowSteps : Network → ℕ → List ℕ → ℕ → ℕ → ℕ → Type 0
IsBelowSteps g rate least base from most =
    (to : ℕ) → to < node_count g → IsSome (curve_at g to) →
    most ≤ step_cost g rate from to + slice_index least (base + to)

-- so is each entry of the layer
abbrev pub IsSteady : Network → ℕ → List ℕ → ℕ → Type 0
IsSteady g rate least base =
    (node : ℕ) → node < node_count g →
    IsBelowSteps g rate least base node (slice_index least (base + node))

-- and no greater than the cost of going on to a node that costs `after` from there
abbrev pub IsDirect : Network → ℕ → List ℕ → ℕ → ℕ → ℕ → Type 0
IsDirect g rate least base next after =
    (node : ℕ) → node < node_count g →
    slice_index least (base + node) ≤ step_cost g rate node next + after

-- entries have fallen or stayed, those from an index on have stayed
pub record IsLowered (from : ℕ) (old now : List ℕ) : Type 0 where
  pub count : length now ≡ length old
  pub falls : (i : ℕ) → slice_index now i ≤ slice_index old i
  pub stays : (i : ℕ) → from ≤ i → slice_index now i ≡ slice_index old i

-- the layers from one on are such that no entry is above a cost of going on
pub record AreLayers (g : Network) (route : List ℕ) (rate : ℕ) (least : List ℕ)
    (from : ℕ) : Type 0 where
  pub steady : (passed : ℕ) → from ≤ passed → passed < length route - 1 →
      IsSteady g rate least (passed * node_count g)
  pub direct : (passed : ℕ) → from ≤ passed → passed < length route - 1 →
      IsDirect g rate least (passed * node_count g) (slice_index route (passed + 1))
      (slice_index least ((passed + 1) * node_count g + slice_index route (passed + 1)))
  pub home : (node : ℕ) → node < node_count g →
      slice_index least ((length route - 1) * node_count g + node) ≤ rate * g.home_level

-- a rate, and for each bucket no more than the time of the rest of any way, and of charging at that
-- rate what the battery has
pub record IsRestBound (g : Network) (route : List ℕ) (rate : ℕ) (least : List ℕ) : Type 0 where
  pub is_rate : IsRate g rate
  pub count : length least ≡ length route * node_count g
  pub layers : AreLayers g route rate least 0

-- no supporting point (level, time) has less time, with that of a rest, and without that of
-- charging the level
abbrev pub IsBelowPoints : ℕ → ℕ → List (ℕ × ℕ) → ℕ → Type 0
IsBelowPoints rate rest points most = All (λ p. most ≤ p.1 + rest - rate * p.0) points
