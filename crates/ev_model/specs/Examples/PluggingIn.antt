-- A depot, one customer and one station where plugging in takes a unit of time: examples/plug_time.json.
use Rattle.std.specs.Prelude.{List, [], ◌∷◌}
use Rattle.ev_model.specs.Network.{Network}
use Rattle.ev_model.specs.Examples.OneStation.{at, one_station, via}
use Rattle.ev_model.specs.declared.Stop.{Stop}

abbrev pub plugging_in : Network
plugging_in = record one_station { plug_times = 0 ∷ 0 ∷ 1 ∷ [] }

-- one half of a unit is charged before the customer and three after it
abbrev pub over_halves : List Stop
over_halves = at 0 ∷ via 2 1 ∷ at 1 ∷ via 2 3 ∷ at 0 ∷ []

-- the whole plans that it rounds to: the first passes through the station before the customer
abbrev pub halves_down : List Stop
halves_down = at 0 ∷ via 2 0 ∷ at 1 ∷ via 2 2 ∷ at 0 ∷ []

abbrev pub halves_up : List Stop
halves_up = at 0 ∷ via 2 1 ∷ at 1 ∷ via 2 1 ∷ at 0 ∷ []
