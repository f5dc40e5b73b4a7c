-- Closed lists of labels for a depot, one customer and one station.
use Rattle.std.specs.Prelude.{ℕ, List, [], ◌∷◌, pos}
use Rattle.customer_sets.specs.Pairs.{any_pair}
use Rattle.ev_model.specs.Examples.OneStation.{charging_before}
use Rattle.fleet_model.specs.Cover.{Share}
use Rattle.fleet_model.specs.Labels.{Label}
use Rattle.fleet_model.specs.Prices.{priced}
use Rattle.fleet_model.specs.Section.{Section}

-- a label that is priced by its set: the last customer, the node, the set, the first level and the times from
-- there
abbrev pub label : ℕ → ℕ → ℕ → List ℕ → ℕ → List ℕ → Label
label price last node served first times =
    priced (pos price ∷ []) (record {
      last = last;
      node = node;
      served = served;
      paid = pos 0;
      first = first;
      times = times;
    })

-- the station is left before the customer at these times from level 7 on, and the customer after it from
-- level 5 on
abbrev section : ℕ → List ℕ → List ℕ → Section
section price charged reached = record {
  weight = 1;
  prices = pos price ∷ [];
  allows = any_pair;
  labels = label price 0 0 [] 10 (0 ∷ []) ∷ label price 1 1 (0 ∷ []) 4 (20 ∷ []) ∷
      label price 0 2 [] 7 charged
      ∷ label price 1 2 (0 ∷ []) 2 (26 ∷ 27 ∷ 28 ∷ 29 ∷ 30 ∷ 31 ∷ 32 ∷ 38 ∷ 44 ∷ [])
      ∷ label price 1 1 (0 ∷ []) 5 reached ∷ [];
}

-- the same labels under two prices for the customer, and others where plugging in takes a unit of time
abbrev pub priced_at : ℕ → Section
priced_at price = section price (16 ∷ 17 ∷ 23 ∷ 29 ∷ []) (22 ∷ 23 ∷ 29 ∷ 35 ∷ [])

abbrev pub priced_with_plug : ℕ → Section
priced_with_plug price = section price (16 ∷ 19 ∷ 25 ∷ 31 ∷ []) (22 ∷ 25 ∷ 31 ∷ 37 ∷ [])

-- one vehicle that charges one unit before the customer, as a fractional cover
abbrev pub shares : List Share
shares = record { share = 1; plan = charging_before 1 } ∷ []
