-- Sets of customers, as the lists of their numbers in rising order.
use Rattle.std.specs.Prelude.{◌≡◌, ℕ, ◌<◌, Bool, true, List, [], ◌∷◌, nat_eq, nat_lt, if◌then◌else◌}
use Rattle.std.specs.List.{All, list_any}
use Rattle.std.specs.List.Sorted.{IsStrictlyIncreasing}

-- the customer is in the set
abbrev pub has : List ℕ → ℕ → Bool
has set c = list_any (λ x. nat_eq x c) set

-- each customer of one set is in another
abbrev pub IsWithin : List ℕ → List ℕ → Type 0
IsWithin small large = (c : ℕ) → has small c ≡ true → has large c ≡ true

-- the set with a customer, at the place of the customer's number
abbrev pub with_customer : ℕ → List ℕ → List ℕ
with_customer c [] = c ∷ []
with_customer c (x ∷ xs) =
    if nat_lt c x then c ∷ x ∷ xs else (if nat_eq c x then x ∷ xs else x ∷ with_customer c xs)

-- what holds of each set: numbers below 128, in rising order
pub record IsCustomerSet (set : List ℕ) : Type 0 where
  pub rising : IsStrictlyIncreasing set
  pub small : All (λ c. c < 128) set
