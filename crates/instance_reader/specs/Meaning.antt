-- The network that the contents of an instance file mean.
use Rattle.std.specs.Prelude.{◌≡◌, ℕ, ◌<◌, ◌-◌, ◌/◌, ◌++◌, List, Option, None, Some, find, length, map, min, option_and_then, option_map, replicate, slice_get, slice_index_or, unwrap_or}
use Rattle.std.specs.List.{range_with_len}
use Rattle.ev_model.specs.Network.{Network}
use Rattle.instance_reader.specs.Contents.{Contents, CurveOfType, nodes_of, points_of}
use Rattle.instance_reader.specs.Limits.{horizon}
use Rattle.instance_reader.specs.Nodes.{station_at}
use Rattle.instance_reader.specs.Values.{Name, same_name}

-- the curve of a type of stations
abbrev pub curve_of_type : List CurveOfType → Name → Option CurveOfType
curve_of_type curves name = find (λ curve. same_name name curve.type_name) curves

-- the entry for the type of the station at a node
abbrev pub type_at : Contents → ℕ → Option CurveOfType
type_at c node =
    option_and_then (λ s. curve_of_type c.curves s.type_name) (station_at c.stations node)

-- the breakpoints of the curve of the station at a node
abbrev pub curve_at_node : Contents → ℕ → Option (List (ℕ × ℕ))
curve_at_node c node = option_map points_of (type_at c node)

-- the time to plug in that an entry tells; without an entry it is 0
abbrev pub plug_time_of : Option CurveOfType → ℕ
plug_time_of None = 0
plug_time_of (Some curve) = curve.plug_time

-- the time to plug in at a node
abbrev pub plug_time_at : Contents → ℕ → ℕ
plug_time_at c node = plug_time_of (type_at c node)

-- of two limits that may be absent, the smaller that stands
abbrev pub smaller : Option ℕ → Option ℕ → Option ℕ
smaller None other = other
smaller (Some a) None = Some a
smaller (Some a) (Some b) = Some (min a b)

-- the limit that the file gives
abbrev pub given_limit : Contents → Option ℕ
given_limit c = smaller c.t_max c.max_t

-- where no limit is given it is the greatest that is not scaled past the horizon
abbrev pub limit_of : ℕ → Contents → ℕ
limit_of denominator c = unwrap_or (given_limit c) (horizon / denominator)

-- the network, where the denominator of the curves is known; process times that are missing are 0
unfoldable pub network_of : ℕ → Contents → Network
network_of denominator c = record {
  capacity = c.capacity;
  reserve = c.reserve;
  home_level = c.home_level;
  energies = c.energies;
  times = c.times;
  process_times = c.process_times ++ replicate (nodes_of c - length c.process_times) 0;
  curves = map (curve_at_node c) (range_with_len 0 (nodes_of c));
  plug_times = map (plug_time_at c) (range_with_len 0 (nodes_of c));
  denominator = denominator;
  limit = limit_of denominator c;
}

-- the number of the curve at a node
abbrev pub IsCurveNumber : Contents → ℕ → Option ℕ → Type 0
IsCurveNumber c node None = type_at c node ≡ None
IsCurveNumber c node (Some number) =
    (number < length c.curves) × (type_at c node ≡ slice_get c.curves number)

-- the time to plug in that an entry with a number tells; without a number it is 0
abbrev pub plug_time_of_number : List CurveOfType → Option ℕ → ℕ
plug_time_of_number curves None = 0
plug_time_of_number curves (Some number) = plug_time_of (slice_get curves number)

-- the numbers of the curves, by node
pub record AreCurveNumbers (c : Contents) (numbers : List (Option ℕ)) : Type 0 where
  pub all : length numbers ≡ nodes_of c
  pub each : (node : ℕ) → node < nodes_of c →
      IsCurveNumber c node (slice_index_or numbers node None)
