-- The first broken rule of a list: rules one after another, each at the first of its places.
use Rattle.std.specs.Prelude.{ℕ, ◌+◌, Bool, false, ◌&&◌, List, [], ◌∷◌, Option, None, Some, if◌then◌else◌}

-- a fault at a place, if there is one, else the later rules
abbrev pub or_later : {Place Fault : Type 0} → Option Place → (Place → Fault) → Option Fault →
    Option Fault
or_later None fault later = later
or_later (Some place) fault later = Some (fault place)

-- the list behind its first item
abbrev pub behind_first : {A : Type 0} → List A → List A
behind_first [] = []
behind_first (x ∷ xs) = xs

-- the first position, counted from `at`, of an item before the last that passes a test
abbrev pub first_before_last : {A : Type 0} → (A → Bool) → ℕ → List A → Option ℕ
first_before_last test at [] = None
first_before_last test at (x ∷ []) = None
first_before_last test at (x ∷ y ∷ xs) =
    if test x then Some at else first_before_last test (at + 1) (y ∷ xs)

-- the last item passes a test
abbrev pub last_passes : {A : Type 0} → (A → Bool) → List A → Bool
last_passes test [] = false
last_passes test (x ∷ []) = test x
last_passes test (x ∷ y ∷ xs) = last_passes test (y ∷ xs)

-- there are at least two items, and the first and the last pass a test
abbrev pub ends_pass : {A : Type 0} → (A → Bool) → List A → Bool
ends_pass test [] = false
ends_pass test (x ∷ xs) = test x && last_passes test xs
