-- What the types of the code stand for.
use Rattle.std.specs.Borrow.{Bor}
use Rattle.std.specs.Prelude.{List, Option, map, option_map, string_bytes}
use Rattle.serde_json.specs.Data.{Data}
use Rattle.serde_json.specs.View.{view}
use Rattle.serde_json.specs.declared.value.Value.{Value}
use Rattle.instance_reader.specs.Values.{Name, text, whole}
use Rattle.instance_reader.specs.Contents.{Station, CurveOfType, Contents}
use Rattle.instance_reader.specs.declared.fields.TypeName.{TypeName}
use Rattle.instance_reader.specs.declared.fields.TypeName.TheVariants.{Text, Whole}
use Rattle.instance_reader.specs.declared.fields.StationEntry.{StationEntry}
use Rattle.instance_reader.specs.declared.fields.CurveEntry.{CurveEntry}
use Rattle.instance_reader.specs.declared.fields.Fields.{Fields}

abbrev pub name_view : TypeName → Name
name_view (Text s) = text (string_bytes s)
name_view (Whole n) = whole n

abbrev pub station_view : StationEntry → Station
station_view s = record { node = s.node; type_name = name_view s.type_name }

abbrev pub curve_view : CurveEntry → CurveOfType
curve_view c = record {
  type_name = name_view c.type_name;
  times = c.times.items;
  charges = c.charges.items;
  plug_time = c.plug_time;
}

abbrev pub contents_view : Fields → Contents
contents_view f = record {
  capacity = f.max_q;
  stations = map station_view f.stations.items;
  curves = map curve_view f.curves.items;
  process_times = f.process_times.items;
  energies = map (λ row. row.items) f.energies.items;
  times = map (λ row. row.items) f.times.items;
  t_max = f.t_max;
  max_t = f.max_t;
  reserve = f.min_q;
  home_level = f.home_q;
}

-- the data of a value that may be absent
abbrev pub data_of : Option (Bor Value) → Option Data
data_of value = option_map (λ v. view v.now) value

-- the names that keys stand for
abbrev pub names_in : List (Bor TypeName) → List Name
names_in keys = map (λ key. name_view key.now) keys
