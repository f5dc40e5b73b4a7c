-- A depot, one customer and two stations that both stand on each way: examples/two_stations.json.
use Rattle.std.specs.Prelude.{List, [], ◌∷◌, Some, None}
use Rattle.ev_model.specs.Network.{Network}
use Rattle.ev_model.specs.Examples.OneStation.{at, curve, via}
use Rattle.ev_model.specs.declared.Stop.{Stop}

-- node 1 is the customer, nodes 2 and 3 are stations; an arc of 11 is out of reach
abbrev pub two_stations : Network
two_stations = record {
  capacity = 10;
  reserve = 0;
  home_level = 0;
  energies = (0 ∷ 11 ∷ 8 ∷ 11 ∷ []) ∷ (11 ∷ 0 ∷ 11 ∷ 4 ∷ []) ∷ (8 ∷ 11 ∷ 0 ∷ 8 ∷ []) ∷
      (11 ∷ 4 ∷ 8 ∷ 0 ∷ []) ∷ [];
  times = (0 ∷ 11 ∷ 8 ∷ 11 ∷ []) ∷ (11 ∷ 0 ∷ 11 ∷ 4 ∷ []) ∷ (8 ∷ 11 ∷ 0 ∷ 8 ∷ []) ∷
      (11 ∷ 4 ∷ 8 ∷ 0 ∷ []) ∷ [];
  process_times = 0 ∷ 0 ∷ 0 ∷ 0 ∷ [];
  curves = None ∷ None ∷ Some curve ∷ Some curve ∷ [];
  plug_times = 0 ∷ 0 ∷ 0 ∷ 0 ∷ [];
  denominator = 2;
  limit = 500000000000000000;
}

-- two stations are visited on each way
abbrev pub over_both : List Stop
over_both = at 0 ∷ via 2 6 ∷ via 3 8 ∷ at 1 ∷ via 3 8 ∷ via 2 8 ∷ at 0 ∷ []
