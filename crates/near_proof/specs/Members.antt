-- The members of a set of customers, one by one.
use Rattle.std.specs.Prelude.{◌≡◌, ℕ, ◌<◌, List}
use Rattle.std.specs.List.{All}
use Rattle.customer_sets.specs.CustSet.{has}

-- the numbers are those of the members of a set, of customers all of them
pub record AreMembers (members set : List ℕ) : Type 0 where
  pub same : (c : ℕ) → has members c ≡ has set c
  pub small : All (λ c. c < 128) members
