-- The contents of an instance file, once each value in it is of its field's kind.
-- What is of another kind counts as 0 or as an empty list here: such a file is refused before its contents are looked at.
use Rattle.std.specs.Prelude.{ℕ, List, [], Option, Some, map, unwrap_or, option_and_then, zip, length}
use Rattle.serde_json.specs.Data.{Data}
use Rattle.serde_json.specs.Find.{get}
use Rattle.instance_reader.specs.Places.{part_text}
use Rattle.instance_reader.specs.Values.{Name, whole, whole_of, array_of, name_of, type_value, value_at}
use Rattle.instance_reader.specs.declared.places.Key.TheVariants.{MaxQ, Css, Breaks, Service, Energy, Time, TMax, MaxT, MinQ, HomeQ}
use Rattle.instance_reader.specs.declared.places.Part.TheVariants as part

-- an entry of css: a node with a charging station, and the type of the station
pub record Station : Type 0 where
  pub node : ℕ
  pub type_name : Name

-- an entry of breakpoints_by_type: a type of station, the breakpoints of its charging curve, and its time to plug in
pub record CurveOfType : Type 0 where
  pub type_name : Name
  pub times : List ℕ
  pub charges : List ℕ
  pub plug_time : ℕ

pub record Contents : Type 0 where
  pub capacity : ℕ
  pub stations : List Station
  pub curves : List CurveOfType
  pub process_times : List ℕ
  pub energies : List (List ℕ)
  pub times : List (List ℕ)
  pub t_max : Option ℕ
  pub max_t : Option ℕ
  pub reserve : ℕ
  pub home_level : ℕ

-- the number of nodes is the number of rows of the energies
abbrev pub nodes_of : Contents → ℕ
nodes_of c = length c.energies

-- the breakpoints of a curve, as pairs of time and charge
abbrev pub points_of : CurveOfType → List (ℕ × ℕ)
points_of curve = zip curve.times curve.charges

abbrev pub number_in : Option Data → ℕ
number_in value = unwrap_or (option_and_then whole_of value) 0

abbrev pub items_in : Option Data → List Data
items_in value = unwrap_or (option_and_then array_of value) []

abbrev pub numbers_in : Option Data → List ℕ
numbers_in value = map (λ d. number_in (Some d)) (items_in value)

abbrev pub rows_in : Option Data → List (List ℕ)
rows_in value = map (λ d. numbers_in (Some d)) (items_in value)

-- a limit that is absent or null is none
abbrev pub limit_in : Option Data → Option ℕ
limit_in value = option_and_then whole_of value

abbrev pub name_in : Option Data → Name
name_in value = unwrap_or (option_and_then name_of value) (whole 0)

abbrev pub station_in : Data → Station
station_in entry = record {
  node = number_in (get (part_text part.NodeId) entry);
  type_name = name_in (type_value entry);
}

abbrev pub curve_in : Data → CurveOfType
curve_in entry = record {
  type_name = name_in (type_value entry);
  times = numbers_in (get (part_text part.Time) entry);
  charges = numbers_in (get (part_text part.Charge) entry);
  plug_time = number_in (get (part_text part.Plug) entry);
}

unfoldable pub contents_of : Data → Contents
contents_of top = record {
  capacity = number_in (value_at MaxQ top);
  stations = map station_in (items_in (value_at Css top));
  curves = map curve_in (items_in (value_at Breaks top));
  process_times = numbers_in (value_at Service top);
  energies = rows_in (value_at Energy top);
  times = rows_in (value_at Time top);
  t_max = limit_in (value_at TMax top);
  max_t = limit_in (value_at MaxT top);
  reserve = number_in (value_at MinQ top);
  home_level = number_in (value_at HomeQ top);
}
