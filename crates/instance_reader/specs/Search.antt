-- Searches for the first of several things, each of which may be absent.
use Rattle.std.specs.Prelude.{ℕ, ◌+◌, List, [], ◌∷◌, Option, None}
use Rattle.std.specs.Option.{option_or}
use Rattle.instance_reader.specs.Places.{item_of}
use Rattle.instance_reader.specs.declared.places.Place.{Place}

-- the first that is there
abbrev pub first : {A : Type 0} → List (Option A) → Option A
first [] = None
first (o ∷ os) = option_or o (first os)

-- the first that a search finds in the items of a list, which are numbered from `number` on
abbrev pub first_along : {A B : Type 0} → (ℕ → A → Option B) → ℕ → List A → Option B
first_along search_in number [] = None
first_along search_in number (x ∷ xs) =
    option_or (search_in number x) (first_along search_in (number + 1) xs)

-- the first place that a look at each item of the list at a place finds
abbrev pub look_along : {A : Type 0} → (Place → A → Option Place) → Place → List A → Option Place
look_along look place xs = first_along (λ number. look (item_of place number)) 0 xs
