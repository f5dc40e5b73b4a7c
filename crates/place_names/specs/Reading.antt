-- The places that the bytes of a file mean, and the first rule that they break.
use Rattle.std.specs.Prelude.{◌≡◌, ◌⊎◌, ◌==◌, ℕ, ◌+◌, ◌^◌, ◌<◌, ◌≤◌, Bool, List, [], ◌∷◌, Option, None, Some, IsUtf8, codes, length, map, not, option_and_then, option_map, unwrap_or}
use Rattle.std.specs.Bool.{then_some}
use Rattle.std.specs.Option.{option_or}
use Rattle.serde_json.specs.Data.{Data, Items, no_items, item}
use Rattle.serde_json.specs.Find.{as_array, get}
use Rattle.serde_json.specs.Read.{read}
use Rattle.place_names.specs.Entries.{entry_fault, place_in}
use Rattle.place_names.specs.declared.faults.PlacesEnded.{PlacesEnded}
use Rattle.place_names.specs.declared.faults.PlacesEnded.TheVariants as ended
use Rattle.place_names.specs.declared.faults.PlacesFault.{PlacesFault}
use Rattle.place_names.specs.declared.faults.PlacesFault.TheVariants as fault
use Rattle.place_names.specs.declared.place.Place.{Place}

-- the value that `serde_json` reads of these bytes
abbrev pub IsValueOf : List ℕ → Data → Type 0
IsValueOf bytes d = IsUtf8 bytes × (read bytes ≡ Some d)

abbrev pub HasNoValue : List ℕ → Type 0
HasNoValue bytes = (d : Data) → IsValueOf bytes d → ⊥

-- the items of an array as a list
abbrev pub list_of : Items → List Data
list_of no_items = []
list_of (item d ds) = d ∷ list_of ds

-- the entries: an array under `places`
abbrev pub entries_in : Data → Option (List Data)
entries_in top = option_map list_of (option_and_then as_array (get (codes "places") top))

-- what is wrong with the entry with this number first
abbrev pub placed_fault : Bool → ℕ → Data → Option PlacesFault
placed_fault needed index entry =
    option_map (λ wrong. fault.Entry index wrong) (entry_fault needed entry)

-- the first entry with a fault, of entries of which the first has this number
abbrev pub entries_fault : Bool → ℕ → List Data → Option PlacesFault
entries_fault needed index [] = None
entries_fault needed index (d ∷ ds) =
    option_or (placed_fault needed index d) (entries_fault needed (index + 1) ds)

-- there is a place for each node
abbrev pub count_fault : ℕ → ℕ → Option PlacesFault
count_fault nodes count = then_some (not (count == nodes)) (fault.Count count)

abbrev pub list_fault : Bool → ℕ → Option (List Data) → Option PlacesFault
list_fault needed nodes None = Some fault.NoList
list_fault needed nodes (Some ds) =
    option_or (entries_fault needed 0 ds) (count_fault nodes (length ds))

-- the first broken rule of the value of a file
abbrev pub fault_in : Bool → ℕ → Data → Option PlacesFault
fault_in needed nodes top = list_fault needed nodes (entries_in top)

abbrev pub places_in : Data → List Place
places_in top = map place_in (unwrap_or (entries_in top) [])

-- a file has at most so many bytes
abbrev pub most_bytes : ℕ
most_bytes = 2 ^ 26

-- the bytes break no rule, and mean these places of so many nodes, all of which say where they are if that is needed
pub record ArePlacesOf (needed : Bool) (nodes : ℕ) (bytes : List ℕ) (places : List Place) : Type 0 where
  pub value : Data
  pub short : length bytes ≤ most_bytes
  pub is_value : IsValueOf bytes value
  pub good : fault_in needed nodes value ≡ None
  pub are : places ≡ places_in value

-- they are the bytes of a value, of which this is the first broken rule
pub record BreaksRule (needed : Bool) (nodes : ℕ) (bytes : List ℕ) (broken : PlacesFault) : Type 0 where
  pub value : Data
  pub short : length bytes ≤ most_bytes
  pub is_value : IsValueOf bytes value
  pub first : fault_in needed nodes value ≡ Some broken

-- the first broken rule of the bytes
abbrev pub IsFirstFault : Bool → ℕ → List ℕ → PlacesFault → Type 0
IsFirstFault needed nodes bytes broken =
    ((broken ≡ fault.TooLong) × (most_bytes < length bytes))
    ⊎ ((broken ≡ fault.NotJson) × (length bytes ≤ most_bytes) × HasNoValue bytes)
    ⊎ BreaksRule needed nodes bytes broken

-- a refusal other than want of memory is what was found
abbrev pub EndsOn : Option PlacesFault → PlacesEnded → Type 0
EndsOn found (ended.Refused broken) = found ≡ Some broken
EndsOn found ended.Memory = Unit {0}

-- a refusal other than want of memory is the first broken rule
abbrev pub Ends : Bool → ℕ → List ℕ → PlacesEnded → Type 0
Ends needed nodes bytes (ended.Refused broken) = IsFirstFault needed nodes bytes broken
Ends needed nodes bytes ended.Memory = Unit {0}
