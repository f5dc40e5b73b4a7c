-- A depot, one customer and one station: examples/one_station.json.
use Rattle.std.specs.Prelude.{ℕ, List, [], ◌∷◌, Some, None, true, false}
use Rattle.ev_model.specs.Network.{Network}
use Rattle.ev_model.specs.declared.Stop.{Stop}

-- the station's curve: a unit takes half a unit of time up to 8, and 3 above
abbrev pub curve : List (ℕ × ℕ)
curve = (0, 0) ∷ (4, 8) ∷ (10, 10) ∷ []

-- node 1 is the customer and node 2 the station; slopes are 1/2 and 3, so times are counted in halves
abbrev pub one_station : Network
one_station = record {
  capacity = 10;
  reserve = 0;
  home_level = 0;
  energies = (0 ∷ 6 ∷ 3 ∷ []) ∷ (6 ∷ 0 ∷ 2 ∷ []) ∷ (5 ∷ 2 ∷ 0 ∷ []) ∷ [];
  times = (0 ∷ 10 ∷ 8 ∷ []) ∷ (10 ∷ 0 ∷ 3 ∷ []) ∷ (8 ∷ 3 ∷ 0 ∷ []) ∷ [];
  process_times = 0 ∷ 0 ∷ 0 ∷ [];
  curves = None ∷ None ∷ Some curve ∷ [];
  plug_times = 0 ∷ 0 ∷ 0 ∷ [];
  denominator = 2;
  limit = 500000000000000000;
}

-- the same with another limit
abbrev pub one_station_within : ℕ → Network
one_station_within limit = record one_station { limit = limit }

-- a stop of the route where nothing is charged
abbrev pub at : ℕ → Stop
at node = record { node = node; added = 0; via = false }

-- an inserted stop
abbrev pub via : ℕ → ℕ → Stop
via node added = record { node = node; added = added; via = true }

-- the amount is charged on the way to the customer, or on the way home
abbrev pub charging_before : ℕ → List Stop
charging_before added = at 0 ∷ via 2 added ∷ at 1 ∷ at 0 ∷ []

abbrev pub charging_after : ℕ → List Stop
charging_after added = at 0 ∷ at 1 ∷ via 2 added ∷ at 0 ∷ []

-- without the station the way home is out of reach
abbrev pub without_charging : List Stop
without_charging = at 0 ∷ at 1 ∷ at 0 ∷ []

-- plans that break a rule on stops
abbrev pub station_twice : List Stop
station_twice = at 0 ∷ via 2 0 ∷ via 2 0 ∷ at 0 ∷ []

abbrev pub inserted_customer : List Stop
inserted_customer = at 0 ∷ via 1 0 ∷ at 0 ∷ []

abbrev pub charging_customer : List Stop
charging_customer = at 0 ∷ via 2 1 ∷ record { node = 1; added = 1; via = false } ∷ at 0 ∷ []
