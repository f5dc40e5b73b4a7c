-- The rule on the nodes of stations, and the stations by node.
use Rattle.std.specs.Prelude.{◌≡◌, ℕ, ◌+◌, ◌<◌, ◌||◌, List, [], ◌∷◌, ◌++◌, Option, None, Some, Bool, find, length, not, nat_eq, nat_lt, slice_get, slice_index_or}
use Rattle.std.specs.Bool.{then_some}
use Rattle.std.specs.List.{list_any}
use Rattle.std.specs.Option.{option_or}
use Rattle.instance_reader.specs.Contents.{Contents, Station, nodes_of}
use Rattle.instance_reader.specs.Places.{at_key, item_of, part_of}
use Rattle.instance_reader.specs.declared.places.Place.{Place}
use Rattle.instance_reader.specs.declared.places.Key.TheVariants.{Css}
use Rattle.instance_reader.specs.declared.places.Part.TheVariants as part

-- the place of the node of an entry of css
abbrev pub node_place : ℕ → Place
node_place number = part_of (item_of (at_key Css) number) part.NodeId

-- one of the stations is at the node
abbrev pub is_station_among : ℕ → List Station → Bool
is_station_among node stations = list_any (λ s. nat_eq s.node node) stations

-- the first of the stations, numbered from `number` on, whose node isn't one of the instance or is that of an earlier station
abbrev pub wrong_node_in : ℕ → ℕ → List Station → List Station → Option Place
wrong_node_in nodes number earlier [] = None
wrong_node_in nodes number earlier (s ∷ ss) = option_or
    (then_some (not (nat_lt s.node nodes) || is_station_among s.node earlier) (node_place number))
    (wrong_node_in nodes (number + 1) (earlier ++ s ∷ []) ss)

-- the first place of a node that the instance doesn't have, or that has a station already
unfoldable pub first_wrong_node : Contents → Option Place
first_wrong_node c = wrong_node_in (nodes_of c) 0 [] c.stations

-- the station at a node
abbrev pub station_at : List Station → ℕ → Option Station
station_at stations node = find (λ s. nat_eq s.node node) stations

-- the number of the station at a node, if there is one
abbrev pub IsStationNumber : List Station → ℕ → Option ℕ → Type 0
IsStationNumber stations node None = station_at stations node ≡ None
IsStationNumber stations node (Some number) =
    (number < length stations) × (station_at stations node ≡ slice_get stations number)

-- the numbers of the stations, by node
pub record AreStationNumbers (stations : List Station) (nodes : ℕ) (numbers : List (Option ℕ)) : Type 0 where
  pub all : length numbers ≡ nodes
  pub each : (node : ℕ) → node < nodes →
      IsStationNumber stations node (slice_index_or numbers node None)
