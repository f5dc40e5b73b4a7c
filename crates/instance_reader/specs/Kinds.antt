-- The rule on kinds: each value is of its field's kind.
use Rattle.std.specs.Prelude.{◌&&◌, List, [], ◌∷◌, Option, None, Some, is_none, option_and_then}
use Rattle.std.specs.Bool.{then_some}
use Rattle.serde_json.specs.Data.{Data}
use Rattle.serde_json.specs.Find.{get, as_null, as_object}
use Rattle.instance_reader.specs.Places.{at_key, part_of, part_text}
use Rattle.instance_reader.specs.Search.{first, look_along}
use Rattle.instance_reader.specs.Values.{whole_of, array_of, name_of, type_value, value_at}
use Rattle.instance_reader.specs.declared.places.Place.{Place}
use Rattle.instance_reader.specs.declared.places.Key.TheVariants.{MaxQ, Css, Breaks, Service, Energy, Time, TMax, MaxT, MinQ, HomeQ}
use Rattle.instance_reader.specs.declared.places.Part.TheVariants as part

-- a whole number must stand at the place
abbrev pub not_whole : Place → Option Data → Option Place
not_whole place value = then_some (is_none (option_and_then whole_of value)) place

-- a whole number may stand at the place
abbrev pub not_whole_if_there : Place → Option Data → Option Place
not_whole_if_there place None = None
not_whole_if_there place (Some d) = not_whole place (Some d)

-- a whole number or null may stand at the place
abbrev pub no_limit : Place → Option Data → Option Place
no_limit place None = None
no_limit place (Some d) = then_some (is_none (as_null d) && is_none (whole_of d)) place

-- a text or a whole number must stand at the place
abbrev pub no_type : Place → Option Data → Option Place
no_type place value = then_some (is_none (option_and_then name_of value)) place

-- an array must stand at the place, and then each item is looked at in turn
abbrev pub in_items : (Place → Data → Option Place) → Place → Option (List Data) → Option Place
in_items look place None = Some place
in_items look place (Some ds) = look_along look place ds

abbrev pub in_array : (Place → Data → Option Place) → Place → Option Data → Option Place
in_array look place value = in_items look place (option_and_then array_of value)

-- an array of whole numbers
abbrev pub not_wholes : Place → Option Data → Option Place
not_wholes = in_array (λ place d. not_whole place (Some d))

-- an array of such arrays
abbrev pub not_rows : Place → Option Data → Option Place
not_rows = in_array (λ place d. not_wholes place (Some d))

-- an entry of css
abbrev pub no_station : Place → Data → Option Place
no_station place entry = first
    (then_some (is_none (as_object entry)) place
    ∷ not_whole (part_of place part.NodeId) (get (part_text part.NodeId) entry)
    ∷ no_type (part_of place part.TypeName) (type_value entry)
    ∷ [])

-- an entry of breakpoints_by_type
abbrev pub no_curve : Place → Data → Option Place
no_curve place entry = first
    (then_some (is_none (as_object entry)) place
    ∷ no_type (part_of place part.TypeName) (type_value entry)
    ∷ not_wholes (part_of place part.Time) (get (part_text part.Time) entry)
    ∷ not_wholes (part_of place part.Charge) (get (part_text part.Charge) entry)
    ∷ not_whole_if_there (part_of place part.Plug) (get (part_text part.Plug) entry)
    ∷ [])

-- the first place where a value of another kind stands, or none where one must
unfoldable pub first_wrong_kind : Data → Option Place
first_wrong_kind top = first
    (not_whole (at_key MaxQ) (value_at MaxQ top)
    ∷ in_array no_station (at_key Css) (value_at Css top)
    ∷ in_array no_curve (at_key Breaks) (value_at Breaks top)
    ∷ not_wholes (at_key Service) (value_at Service top)
    ∷ not_rows (at_key Energy) (value_at Energy top)
    ∷ not_rows (at_key Time) (value_at Time top)
    ∷ no_limit (at_key TMax) (value_at TMax top)
    ∷ no_limit (at_key MaxT) (value_at MaxT top)
    ∷ not_whole_if_there (at_key MinQ) (value_at MinQ top)
    ∷ not_whole_if_there (at_key HomeQ) (value_at HomeQ top)
    ∷ [])
