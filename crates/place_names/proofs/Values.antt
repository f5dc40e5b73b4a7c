-- The items of an array that was read, and searches one after another.
use Rattle.std.specs.Borrow.{Bor}
use Rattle.std.proofs.Common.{◌≡◌, ◌∙◌, ℕ, Bool, List, [], ◌∷◌, Option, None, Some, ap, length, map, refl, sym}
use Rattle.std.proofs.lemmas.List.{length-map}
use Rattle.std.specs.Option.{option_map, option_or}
use Rattle.serde_json.specs.Data.{Data}
use Rattle.serde_json.specs.View.{items_of, view}
use Rattle.serde_json.specs.declared.value.Value.{Value}
use Rattle.place_names.specs.Entries.{place_in}
use Rattle.place_names.specs.Reading.{count_fault, entries_fault, entries_in, fault_in, list_fault, list_of}
use Rattle.place_names.specs.declared.place.Place.{Place}

pub list_of-items_of : (ds : List Data) → list_of (items_of ds) ≡ ds
list_of-items_of [] = refl
list_of-items_of (d ∷ ds) = ap (λ xs. d ∷ xs) (list_of-items_of ds)

-- the first search finds something
pub option_or-some : {A : Type 0} (a b : Option A) (x : A) → a ≡ Some x → option_or a b ≡ Some x
option_or-some {A} None b x is = cc
option_or-some {A} (Some y) b x is = is

pub option_or-none : {A : Type 0} (a b : Option A) → a ≡ None → option_or a b ≡ b
option_or-none {A} None b is = refl
option_or-none {A} (Some x) b is = cc

-- there are as many places as entries
pub counted_so : (needed : Bool) (nodes : ℕ) (ds : List Data) (ps : List Place) → entries_fault needed 0 ds ≡ None → ps ≡ map place_in ds → list_fault needed nodes (Some ds) ≡ count_fault nodes (length ps)
counted_so needed nodes ds ps none are =
    option_or-none (entries_fault needed 0 ds) (count_fault nodes (length ds)) none
    ∙ ap (count_fault nodes) (sym (ap length are ∙ length-map ds place_in))

-- what the entries are, once they were found
pub told : (needed : Bool) (nodes : ℕ) (top : Data) (found : Option (Bor (List Value))) (entries : Bor (List Value)) → option_map (λ s. map view s.now) found ≡ entries_in top → found ≡ Some entries
    → fault_in needed nodes top ≡ list_fault needed nodes (Some (map view entries.now))
told needed nodes top found entries are is = ap (list_fault needed nodes) (sym are ∙ ap (λ (o : Option (Bor (List Value))). option_map (λ s. map view s.now) o) is)

pub ruleset lists = (list_of-items_of)

pub ruleset values = (option_or-some, option_or-none, counted_so, told)
