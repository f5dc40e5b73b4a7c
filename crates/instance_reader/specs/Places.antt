-- Places in an instance file.
use Rattle.std.specs.Prelude.{ℕ, List, None, Some, is_none, if◌then◌else◌, codes}
use Rattle.instance_reader.specs.declared.places.Key.{Key}
use Rattle.instance_reader.specs.declared.places.Key.TheVariants.{MaxQ, Css, Breaks, Service, Energy, Time, TMax, MaxT, MinQ, HomeQ}
use Rattle.instance_reader.specs.declared.places.Part.{Part}
use Rattle.instance_reader.specs.declared.places.Part.TheVariants as part
use Rattle.instance_reader.specs.declared.places.Place.{Place}

-- a key of the top object, as it stands in a file
abbrev pub key_text : Key → List ℕ
key_text MaxQ = codes "max_q"
key_text Css = codes "css"
key_text Breaks = codes "breakpoints_by_type"
key_text Service = codes "process_times"
key_text Energy = codes "energy_matrix"
key_text Time = codes "time_matrix"
key_text TMax = codes "t_max"
key_text MaxT = codes "max_t"
key_text MinQ = codes "min_q"
key_text HomeQ = codes "home_q"

-- a part of an entry, as a place is printed with it
abbrev pub part_text : Part → List ℕ
part_text part.NodeId = codes "node_id"
part_text part.TypeName = codes "type"
part_text part.Time = codes "time"
part_text part.Charge = codes "charge"
part_text part.Plug = codes "plug_time"

-- the place of the value under a key of the top object
abbrev pub at_key : Key → Place
at_key key = record { key = key; i = None; part = None; j = None }

-- the place of an item of the array at a place
abbrev pub item_of : Place → ℕ → Place
item_of place number =
    if is_none place.i then record place { i = Some number } else record place { j = Some number }

-- the place of a part of the entry at a place
abbrev pub part_of : Place → Part → Place
part_of place name = record place { part = Some name }
