-- Lists: reading, searching and growing.
use Rattle.std.proofs.Common.{◌≡◌, ℕ, zero, suc, ◌+◌, ◌<◌, ◌||◌, Bool, true, false, List, [], ◌∷◌, ◌++◌, Option, None, Some, All, length, map, slice_get, is_some, find, cond, not, refl, subst, arith}
use Rattle.std.proofs.lemmas.Option.{get_or_from_slice_get, slice_get_within}
use Rattle.std.specs.List.{list_any, position_or_len}
use Rattle.std.specs.Option.{option_or}

-- a test passes at some element where it finds one
pub list_any-find : {X : Type 0} (p : X → Bool) (xs : List X) → list_any p xs ≡ is_some (find p xs)
list_any-find p [] = refl
list_any-find p (x ∷ xs) =
    elim (p x) as (λ b. (b || list_any p xs) ≡ is_some (cond b (Some x) (find p xs))) [
      | true ↦ refl
      | false ↦ list_any-find p xs
    ]

-- an element of a list is one of a longer list
pub slice_get-append : {X : Type 0} (xs ys : List X) (i : ℕ) → i < length xs → slice_get (xs ++ ys) i ≡ slice_get xs i
slice_get-append [] ys i h = absurd (omega arith)
slice_get-append (x ∷ xs) ys zero h = refl
slice_get-append (x ∷ xs) ys (suc i) h = slice_get-append xs ys i (omega arith)

-- the element after a list
pub slice_get-seam : {X : Type 0} (xs : List X) (y : X) → slice_get (xs ++ y ∷ []) (length xs) ≡ Some y
slice_get-seam [] y = refl
slice_get-seam (x ∷ xs) y = slice_get-seam xs y

pub slice_get-within : {X : Type 0} (xs : List X) (i : ℕ) → i < length xs → is_some (slice_get xs i) ≡ true
slice_get-within [] i h = absurd (omega arith)
slice_get-within (x ∷ xs) zero h = refl
slice_get-within (x ∷ xs) (suc i) h = slice_get-within xs i (omega arith)

pub option_or-none_right : {X : Type 0} (o : Option X) → option_or o None ≡ o
option_or-none_right None = refl
option_or-none_right (Some x) = refl

-- what holds of all elements holds of one of them
pub All-slice_get : {X : Type 0} (P : X → Type 0) (xs : List X) (i : ℕ) (x : X) → All P xs → slice_get xs i ≡ Some x → P x
All-slice_get P xs i x all is = subst P (get_or_from_slice_get xs i x x is) (all i x (slice_get_within xs i x is))

pub position-cases : {X : Type 0} (p : X → Bool) (x : X) (xs : List X) (b : Bool) → (b || list_any p xs) ≡ true →
    (list_any p xs ≡ true → position_or_len p xs < length xs) → cond (not b) (1 + position_or_len p xs) 0 < length (x ∷ xs)
position-cases p x xs true h next = omega arith
position-cases p x xs false h next = let within = next h in omega arith

-- where a test passes at some element, the first such has a position
pub position-within : {X : Type 0} (p : X → Bool) (xs : List X) → list_any p xs ≡ true → position_or_len p xs < length xs
position-within p [] h = cc
position-within p (x ∷ xs) h = position-cases p x xs (p x) h (position-within p xs)

-- what is found is what stands at the position
pub find-position : {X Y : Type 0} (f : X → Y) (p : Y → Bool) (xs : List X) →
    find (λ x. p (f x)) xs ≡ slice_get xs (position_or_len p (map f xs))
find-position f p [] = refl
find-position f p (x ∷ xs) =
    elim (p (f x)) as (λ b. cond b (Some x) (find (λ x. p (f x)) xs) ≡ slice_get (x ∷ xs) (cond (not b) (1 + position_or_len p (map f xs)) 0)) [
      | true ↦ refl
      | false ↦ let next : 1 + position_or_len p (map f xs) ≡ suc (position_or_len p (map f xs)) = omega arith in rw next (find-position f p xs)
    ]
