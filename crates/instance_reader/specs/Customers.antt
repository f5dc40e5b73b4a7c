-- The customers, found among the nodes that have no curve.
use Rattle.std.specs.Prelude.{◌≡◌, ℕ, ◌<◌, ◌&&◌, List, Option, None, Some, Bool, false, true, filter, is_none, length, nat_eq, not, slice_get, slice_index_or}
use Rattle.std.specs.List.{range_with_len}

-- a node other than the depot that has no curve, where the numbers of the curves are given by node
abbrev pub has_customer : List (Option ℕ) → ℕ → Bool
has_customer curves node = not (nat_eq node 0) && is_none (slice_index_or curves node None)

-- the index of a node in the list of customers
abbrev pub IsIndexOf : List (Option ℕ) → List ℕ → ℕ → Option ℕ → Type 0
IsIndexOf curves customers node None = has_customer curves node ≡ false
IsIndexOf curves customers node (Some number) =
    (has_customer curves node ≡ true) × (slice_get customers number ≡ Some node)

-- the customers among the first nodes, and their indices by node
pub record AreCustomers (curves : List (Option ℕ)) (nodes : ℕ) (customers : List ℕ) (numbers : List (Option ℕ)) : Type 0 where
  pub list : customers ≡ filter (has_customer curves) (range_with_len 0 nodes)
  pub all : length numbers ≡ nodes
  pub each : (node : ℕ) → node < nodes →
      IsIndexOf curves customers node (slice_index_or numbers node None)
