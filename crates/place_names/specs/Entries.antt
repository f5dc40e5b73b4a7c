-- An entry of the list of places: what it means, and what is wrong with it first.
use Rattle.std.specs.Borrow.{Bor}
use Rattle.std.specs.Prelude.{◌≡◌, ◌&&◌, ℕ, Bool, List, [], Option, None, Some, codes, is_none, option_and_then, option_map, unwrap_or, if◌then◌else◌}
use Rattle.std.specs.Bool.{then_some}
use Rattle.std.specs.Option.{option_or}
use Rattle.serde_json.specs.Data.{Data}
use Rattle.serde_json.specs.Find.{as_number, as_object, as_str, as_u64, get}
use Rattle.serde_json.specs.View.{view}
use Rattle.serde_json.specs.declared.value.Value.{Value}
use Rattle.place_names.specs.Characters.{has_barred}
use Rattle.place_names.specs.declared.faults.EntryEnded.{EntryEnded}
use Rattle.place_names.specs.declared.faults.EntryEnded.TheVariants as ended
use Rattle.place_names.specs.declared.faults.EntryFault.{EntryFault}
use Rattle.place_names.specs.declared.faults.EntryFault.TheVariants as fault
use Rattle.place_names.specs.declared.place.Place.{Place}
use Rattle.place_names.specs.declared.place.Point.{Point}

-- the data of a value that may be absent
abbrev pub data_of : Option (Bor Value) → Option Data
data_of value = option_map (λ v. view v.now) value

-- a whole number: an integer literal that fits 64 bits
abbrev pub whole_of : Data → Option ℕ
whole_of d = option_and_then as_u64 (as_number d)

-- ---- the name

abbrev pub name_in : Option Data → List ℕ
name_in value = unwrap_or (option_and_then as_str value) []

abbrev pub text_fault : Option (List ℕ) → Option EntryFault
text_fault None = Some fault.Name
text_fault (Some text) = then_some (has_barred 0 0 text) fault.Character

abbrev pub name_fault : Option Data → Option EntryFault
name_fault value = text_fault (option_and_then as_str value)

-- ---- where it is

abbrev pub both : Option ℕ → Option ℕ → Option Point
both None y = None
both (Some x) None = None
both (Some x) (Some y) = Some (record { x = x; y = y })

abbrev pub point_in : Option Data → Option Data → Option Point
point_in x y = both (option_and_then whole_of x) (option_and_then whole_of y)

-- whole numbers must stand under both keys
abbrev pub both_fault : Option ℕ → Option ℕ → Option EntryFault
both_fault None y = Some fault.X
both_fault (Some x) None = Some fault.Y
both_fault (Some x) (Some y) = None

-- both are whole numbers, or absent where they may be
abbrev pub point_fault : Bool → Option Data → Option Data → Option EntryFault
point_fault needed x y =
    if is_none x && is_none y then then_some needed fault.X
    else both_fault (option_and_then whole_of x) (option_and_then whole_of y)

-- ---- the entry

abbrev pub place_in : Data → Place
place_in entry = record {
  name = name_in (get (codes "name") entry);
  point = point_in (get (codes "x") entry) (get (codes "y") entry);
}

abbrev pub entry_fault : Bool → Data → Option EntryFault
entry_fault needed entry =
    option_or (then_some (is_none (as_object entry)) fault.NoObject)
    (option_or (name_fault (get (codes "name") entry))
    (point_fault needed (get (codes "x") entry) (get (codes "y") entry)))

-- a refusal other than want of memory is the first fault
abbrev pub EndsEntry : Option EntryFault → EntryEnded → Type 0
EndsEntry found (ended.Refused fault) = found ≡ Some fault
EndsEntry found ended.Memory = Unit {0}
