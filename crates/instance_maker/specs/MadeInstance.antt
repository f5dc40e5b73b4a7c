-- A made instance as a value, and its text.
use Rattle.std.specs.Prelude.{◌≡◌, ℕ, ◌+◌, ◌%◌, ◌<◌, ◌⊎◌, ◌==◌, if◌then◌else◌, List, [], ◌∷◌, ◌++◌, map, replicate, codes}
use Rattle.serde_json.specs.Data.{Data, number, unsigned, string, array, object, no_members, member}
use Rattle.serde_json.specs.View.{items_of}
use Rattle.serde_json.specs.Written.{compact_text}
use Rattle.instance_maker.specs.declared.plane.Location.{Location}
use Rattle.instance_maker.specs.Lists.{tabulate}
use Rattle.instance_maker.specs.Locations.{locations_of, distance_between}

abbrev pub whole : ℕ → Data
whole n = number (unsigned n)

abbrev pub array_of : List Data → Data
array_of values = array (items_of values)

-- The charging curve of a type: a full battery holds 1600, and the curve bends at 1360 and at 1520.
abbrev pub curve_value : List ℕ → List ℕ → Data
curve_value kind times =
    object
    (member (codes "charge") (array_of (map whole (0 ∷ 1360 ∷ 1520 ∷ 1600 ∷ [])))
    (member (codes "cs_type") (string kind)
    (member (codes "time") (array_of (map whole times))
    no_members)))

abbrev pub curves_value : Data
curves_value =
    array_of
    (curve_value (codes "fast") (0 ∷ 310 ∷ 390 ∷ 510 ∷ [])
    ∷ curve_value (codes "slow") (0 ∷ 1260 ∷ 1540 ∷ 2040 ∷ [])
    ∷ [])

-- the type of the station with this number, from 0 on: they take turns
abbrev pub type_of : ℕ → List ℕ
type_of station = if station % 2 == 0 then codes "fast" else codes "slow"

-- the entry of the station with this number at this node
abbrev pub station_value : ℕ → ℕ → Data
station_value station node =
    object (member (codes "cs_type") (string (type_of station))
    (member (codes "node_id") (whole node) no_members))

-- The stations are the nodes after the depot and the customers.
abbrev pub stations_value : ℕ → ℕ → Data
stations_value customers stations =
    array_of (tabulate (λ station. station_value station (1 + customers + station)) stations)

-- the matrix of distances: one row for each location
abbrev pub distances_value : List Location → Data
distances_value locations =
    array_of (map (λ from.
    array_of (map (λ to. whole (distance_between from to)) locations)) locations)

-- Serving a customer takes 5, and nothing is done at the depot and at stations.
abbrev pub process_times_value : ℕ → ℕ → Data
process_times_value customers stations =
    array_of (whole 0 ∷ replicate customers (whole 5) ++ replicate stations (whole 0))

-- The value of a made instance. Driving takes as much time and energy as the distance.
unfoldable pub made_value : ℕ → ℕ → ℕ → Data
made_value seed customers stations =
    let locations = locations_of seed (1 + customers + stations) in
    object
    (member (codes "breakpoints_by_type") curves_value
    (member (codes "css") (stations_value customers stations)
    (member (codes "energy_matrix") (distances_value locations)
    (member (codes "max_q") (whole 1600)
    (member (codes "process_times") (process_times_value customers stations)
    (member (codes "time_matrix") (distances_value locations)
    no_members))))))

-- the text of a made instance: JSON with no space, and the keys of each object in rising order
abbrev pub made_text : ℕ → ℕ → ℕ → List ℕ
made_text seed customers stations = compact_text (made_value seed customers stations)

-- No instance is made of these numbers.
abbrev pub IsOutOfRange : ℕ → ℕ → ℕ → Type 0
IsOutOfRange seed customers stations =
    (seed ≡ 0) ⊎ (2147483646 < seed) ⊎ (customers ≡ 0) ⊎ (399 < customers + stations)
