-- What a made instance means: its contents, and its network.
use Rattle.std.specs.Prelude.{ℕ, ◌+◌, List, [], ◌∷◌, ◌++◌, None, codes, map, replicate}
use Rattle.ev_model.specs.Network.{Network}
use Rattle.instance_maker.specs.Lists.{tabulate}
use Rattle.instance_maker.specs.Locations.{distance_between, locations_of}
use Rattle.instance_maker.specs.MadeInstance.{type_of}
use Rattle.instance_reader.specs.Contents.{Contents, CurveOfType, Station}
use Rattle.instance_reader.specs.Meaning.{network_of}
use Rattle.instance_reader.specs.Values.{text}

-- the curve of a type of stations, which bends at 1360 and at 1520 of 1600
abbrev pub curve_made : List ℕ → List ℕ → CurveOfType
curve_made kind times = record {
  type_name = text kind;
  times = times;
  charges = 0 ∷ 1360 ∷ 1520 ∷ 1600 ∷ [];
  plug_time = 0;
}

abbrev pub curves_made : List CurveOfType
curves_made =
    curve_made (codes "fast") (0 ∷ 310 ∷ 390 ∷ 510 ∷ [])
    ∷ curve_made (codes "slow") (0 ∷ 1260 ∷ 1540 ∷ 2040 ∷ []) ∷ []

-- the station with this number, from 0 on, behind the depot and the customers
abbrev pub station_made : ℕ → ℕ → Station
station_made customers number =
    record { node = 1 + customers + number; type_name = text (type_of number) }

-- serving a customer takes 5
abbrev pub process_times_made : ℕ → ℕ → List ℕ
process_times_made customers stations = 0 ∷ replicate customers 5 ++ replicate stations 0

-- the distances from each of so many locations to each
abbrev pub distances_made : ℕ → ℕ → List (List ℕ)
distances_made seed nodes =
    map (λ from. map (λ to. distance_between from to) (locations_of seed nodes))
    (locations_of seed nodes)

-- the contents of a made instance
unfoldable pub made_contents : ℕ → ℕ → ℕ → Contents
made_contents seed customers stations = record {
  capacity = 1600;
  stations = tabulate (station_made customers) stations;
  curves = curves_made;
  process_times = process_times_made customers stations;
  energies = distances_made seed (1 + customers + stations);
  times = distances_made seed (1 + customers + stations);
  t_max = None;
  max_t = None;
  reserve = 0;
  home_level = 0;
}

-- the denominator of both curves
abbrev pub made_denominator : ℕ
made_denominator = 136

-- the network of a made instance
abbrev pub made_network : ℕ → ℕ → ℕ → Network
made_network seed customers stations =
    network_of made_denominator (made_contents seed customers stations)
