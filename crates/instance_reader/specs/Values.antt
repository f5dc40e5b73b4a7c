-- The value that bytes stand for as JSON, and what its parts are.
use Rattle.std.specs.Prelude.{◌≡◌, ℕ, List, [], ◌∷◌, Option, None, Some, Bool, false, nat_eq, option_map, option_and_then, codes, IsUtf8}
use Rattle.std.specs.Str.{bytes_eq}
use Rattle.std.specs.Option.{option_or}
use Rattle.serde_json.specs.Data.{Data, Items, no_items, item, null, boolean, number, string, array, object}
use Rattle.serde_json.specs.Find.{get, as_number, as_u64, as_array}
use Rattle.serde_json.specs.Read.{read}
use Rattle.instance_reader.specs.Places.{key_text}
use Rattle.instance_reader.specs.declared.places.Key.{Key}

-- the value that `serde_json` reads of these bytes
abbrev pub IsValueOf : List ℕ → Data → Type 0
IsValueOf bytes d = IsUtf8 bytes × (read bytes ≡ Some d)

-- `serde_json` finds no reading of the bytes as a value
abbrev pub HasNoValue : List ℕ → Type 0
HasNoValue bytes = (d : Data) → IsValueOf bytes d → ⊥

-- the value under a key of the top object
abbrev pub value_at : Key → Data → Option Data
value_at key top = get (key_text key) top

-- a whole number: an integer literal that fits 64 bits
abbrev pub whole_of : Data → Option ℕ
whole_of d = option_and_then as_u64 (as_number d)

-- the items of an array as a list
abbrev pub list_of : Items → List Data
list_of no_items = []
list_of (item d ds) = d ∷ list_of ds

abbrev pub array_of : Data → Option (List Data)
array_of d = option_map list_of (as_array d)

-- the name of a type of stations: a text, by its bytes, or a whole number
pub data Name : Type 0 where
  text : List ℕ → Name
  whole : ℕ → Name

-- two names are the same where both are texts with equal bytes, or both are equal numbers
abbrev pub same_name : Name → Name → Bool
same_name (text a) (text b) = bytes_eq a b
same_name (text a) (whole n) = false
same_name (whole m) (text b) = false
same_name (whole m) (whole n) = nat_eq m n

abbrev pub name_of : Data → Option Name
name_of null = None
name_of (boolean b) = None
name_of (number n) = option_map whole (as_u64 n)
name_of (string s) = Some (text s)
name_of (array ds) = None
name_of (object ms) = None

-- the type of an entry is the value under cs_type, or under type where cs_type is absent
abbrev pub type_value : Data → Option Data
type_value entry = option_or (get (codes "cs_type") entry) (get (codes "type") entry)
