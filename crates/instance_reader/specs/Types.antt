-- The rule on types: each is listed once, and each station's type is listed.
use Rattle.std.specs.Prelude.{ℕ, ◌+◌, List, [], ◌∷◌, ◌++◌, Option, None, Bool, not, map}
use Rattle.std.specs.Bool.{then_some}
use Rattle.std.specs.List.{list_any, position_or_len}
use Rattle.std.specs.Option.{option_or}
use Rattle.instance_reader.specs.Contents.{Contents, Station, CurveOfType}
use Rattle.instance_reader.specs.Places.{at_key, item_of, part_of}
use Rattle.instance_reader.specs.Search.{first, first_along}
use Rattle.instance_reader.specs.Values.{Name, same_name}
use Rattle.instance_reader.specs.declared.places.Key.{Key}
use Rattle.instance_reader.specs.declared.places.Key.TheVariants.{Breaks, Css}
use Rattle.instance_reader.specs.declared.places.Place.{Place}
use Rattle.instance_reader.specs.declared.places.Part.TheVariants as part

-- the place of the type of an entry of a list
abbrev pub type_place : Key → ℕ → Place
type_place key number = part_of (item_of (at_key key) number) part.TypeName

-- the name is one of these
abbrev pub is_among : Name → List Name → Bool
is_among name names = list_any (same_name name) names

abbrev pub names_of : List CurveOfType → List Name
names_of curves = map (λ curve. curve.type_name) curves

-- the first of the names, numbered from `number` on, that is an earlier one
abbrev pub repeated_in : ℕ → List Name → List Name → Option Place
repeated_in number earlier [] = None
repeated_in number earlier (name ∷ names) = option_or
    (then_some (is_among name earlier) (type_place Breaks number))
    (repeated_in (number + 1) (earlier ++ name ∷ []) names)

-- a station whose type is none of the names
abbrev pub unlisted : List Name → ℕ → Station → Option Place
unlisted names number s = then_some (not (is_among s.type_name names)) (type_place Css number)

-- the first type that is listed already, and then the first type of a station that isn't listed
abbrev pub wrong_type_in : List CurveOfType → List Station → Option Place
wrong_type_in curves stations = first
    (repeated_in 0 [] (names_of curves)
    ∷ first_along (unlisted (names_of curves)) 0 stations
    ∷ [])

-- the first place of a type that breaks the rule; here alone the places of breakpoints_by_type come before those of css
unfoldable pub first_wrong_type : Contents → Option Place
first_wrong_type c = wrong_type_in c.curves c.stations

-- the number of a name among names; the number of names, where it is none of them
abbrev pub number_among : List Name → Name → ℕ
number_among names name = position_or_len (same_name name) names

-- the number of a station's curve; the number of curves, where its type isn't listed
abbrev pub type_number : List CurveOfType → Station → ℕ
type_number curves s = number_among (names_of curves) s.type_name
