-- A depot and one customer: examples/no_station.json.
use Rattle.std.specs.Prelude.{List, [], ◌∷◌, None}
use Rattle.ev_model.specs.Network.{Network}
use Rattle.ev_model.specs.Examples.OneStation.{at}
use Rattle.ev_model.specs.declared.Stop.{Stop}

abbrev pub no_station : Network
no_station = record {
  capacity = 10;
  reserve = 0;
  home_level = 0;
  energies = (0 ∷ 1 ∷ []) ∷ (1 ∷ 0 ∷ []) ∷ [];
  times = (0 ∷ 4 ∷ []) ∷ (4 ∷ 0 ∷ []) ∷ [];
  process_times = 0 ∷ 0 ∷ [];
  curves = None ∷ None ∷ [];
  plug_times = 0 ∷ 0 ∷ [];
  denominator = 1;
  limit = 1000000000000000000;
}

abbrev pub there_and_back : List Stop
there_and_back = at 0 ∷ at 1 ∷ at 0 ∷ []
