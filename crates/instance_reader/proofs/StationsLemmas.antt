-- The numbers of the curves by node.
use Rattle.std.proofs.Common.{◌≡◌, ◌∙◌, ℕ, ◌<◌, List, Option, None, Some, Bool, true, false, All, length, map, get_or, slice_get, slice_index, is_some, not, option_map, refl, ap}
use Rattle.std.proofs.lemmas.List.{get_or-map, length-map}
use Rattle.std.proofs.lemmas.Option.{get_or_from_slice_get, slice_get-map, slice_get_read}
use Rattle.instance_reader.proofs.CheckedLemmas.{nothing_along, unbroken}
use Rattle.instance_reader.proofs.ListLemmas.{All-slice_get, find-position, position-within, slice_get-within}
use Rattle.instance_reader.specs.Contents.{Contents, CurveOfType, Station, nodes_of}
use Rattle.instance_reader.specs.Meaning.{AreCurveNumbers, IsCurveNumber, curve_of_type, plug_time_of}
use Rattle.instance_reader.specs.Nodes.{AreStationNumbers, IsStationNumber, station_at}
use Rattle.instance_reader.specs.Search.{first_along}
use Rattle.instance_reader.specs.Types.{is_among, names_of, type_number, type_place, unlisted}
use Rattle.instance_reader.specs.Values.{same_name}
use Rattle.instance_reader.specs.Views.{curve_view}
use Rattle.instance_reader.specs.declared.fields.CurveEntry.{CurveEntry}
use Rattle.instance_reader.specs.declared.places.Key.TheVariants.{Css}

not_false : (b : Bool) → not b ≡ false → b ≡ true
not_false true h = refl
not_false false h = cc

-- the types of all stations are listed
all_listed : (curves : List CurveOfType) (stations : List Station) → first_along (unlisted (names_of curves)) 0 stations ≡ None →
    All (λ s. is_among s.type_name (names_of curves) ≡ true) stations
all_listed curves stations h =
    nothing_along (unlisted (names_of curves)) (λ s. is_among s.type_name (names_of curves) ≡ true)
    (λ number s none. not_false (is_among s.type_name (names_of curves)) (unbroken (not (is_among s.type_name (names_of curves))) (type_place Css number) none))
    0 stations h

-- the curve of a type that is listed
listed_curve : (curves : List CurveOfType) (s : Station) → is_among s.type_name (names_of curves) ≡ true →
    (type_number curves s < length curves) × (curve_of_type curves s.type_name ≡ slice_get curves (type_number curves s))
listed_curve curves s h =
    let within : type_number curves s < length (names_of curves) = position-within (same_name s.type_name) (names_of curves) h in
    (rw length-map at within, find-position (λ curve. curve.type_name) (same_name s.type_name) curves)

-- the node of a station
station_curve : (c : Contents) (types : List ℕ) (node number : ℕ) (o : Option Station) →
    slice_get c.stations number ≡ o → is_some o ≡ true → station_at c.stations node ≡ o →
    types ≡ map (type_number c.curves) c.stations → All (λ s. is_among s.type_name (names_of c.curves) ≡ true) c.stations →
    IsCurveNumber c node (Some (slice_index types number))
station_curve c types node number None at some is_at is_types all = cc
station_curve c types node number (Some s) at some is_at is_types all =
    let there : slice_get types number ≡ Some (type_number c.curves s) =
    rw is_types (slice_get-map (type_number c.curves) c.stations number ∙ ap (option_map (type_number c.curves)) at) in
    let same : slice_index types number ≡ type_number c.curves s = get_or_from_slice_get types number (type_number c.curves s) 0 there in
    let listed = All-slice_get (λ s. is_among s.type_name (names_of c.curves) ≡ true) c.stations number s all at in
    let found = listed_curve c.curves s listed in
    rw same (found.0, rw (is_at, found.1) refl)

node_curve : (c : Contents) (types : List ℕ) (node : ℕ) (o : Option ℕ) → IsStationNumber c.stations node o →
    types ≡ map (type_number c.curves) c.stations → All (λ s. is_among s.type_name (names_of c.curves) ≡ true) c.stations →
    IsCurveNumber c node (option_map (slice_index types) o)
node_curve c types node None h is_types all = rw h refl
node_curve c types node (Some number) h is_types all =
    station_curve c types node number (slice_get c.stations number) refl (slice_get-within c.stations number h.0) h.1 is_types all

-- from the stations' numbers by node and the curves' numbers by station
pub AreCurveNumbers-by_node : (c : Contents) (stations numbers : List (Option ℕ)) (types : List ℕ) →
    AreStationNumbers c.stations (nodes_of c) stations → types ≡ map (type_number c.curves) c.stations →
    first_along (unlisted (names_of c.curves)) 0 c.stations ≡ None → numbers ≡ map (option_map (slice_index types)) stations →
    AreCurveNumbers c numbers
AreCurveNumbers-by_node c stations numbers types are is_types none is_numbers = record {
  all = rw (is_numbers, length-map) are.all;
  each = λ node within.
      let inside : node < length stations = rw are.all within in
      let at : get_or numbers node None ≡ option_map (slice_index types) (get_or stations node None) =
      rw is_numbers (get_or-map (option_map (slice_index types)) stations node None None inside) in
      rw at (node_curve c types node (get_or stations node None) (are.each node within) is_types (all_listed c.curves c.stations none));
}

-- the time to plug in that an entry of the file tells
pub plug_time_here : (curves : List CurveEntry) (number : ℕ) (x : CurveEntry) → number < length curves → x ≡ get_or curves number x →
    plug_time_of (slice_get (map curve_view curves) number) ≡ x.plug_time
plug_time_here curves number x within is =
    ap plug_time_of (slice_get-map curve_view curves number ∙ ap (option_map curve_view) (slice_get_read curves (length curves) number x refl within is))
