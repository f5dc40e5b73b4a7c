-- A depot, one customer and one station, with a reserve or with a level at home: examples/reserve.json.
use Rattle.std.specs.Prelude.{ℕ, List, [], ◌∷◌, Some, None}
use Rattle.ev_model.specs.Network.{Network}
use Rattle.ev_model.specs.Examples.OneStation.{at, curve, one_station, via}
use Rattle.ev_model.specs.declared.Stop.{Stop}

abbrev pub with_reserve : ℕ → Network
with_reserve reserve = record one_station { reserve = reserve }

abbrev pub with_home_level : ℕ → Network
with_home_level level = record one_station { home_level = level }

-- the depot is a station too
abbrev pub with_depot_station : ℕ → Network
with_depot_station level =
    record one_station { home_level = level; curves = Some curve ∷ None ∷ Some curve ∷ [] }

-- the depot is reached empty in the middle of the route, which is not its end
abbrev pub over_depot : List Stop
over_depot = at 0 ∷ at 1 ∷ via 2 3 ∷ via 0 10 ∷ via 2 3 ∷ at 0 ∷ []
