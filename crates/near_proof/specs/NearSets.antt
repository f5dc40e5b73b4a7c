-- The near sets that are made for an instance: each customer with others that are soon reached.
use Rattle.std.specs.Prelude.{◌≡◌, ℕ, ◌+◌, ◌<◌, ◌||◌, ◌&&◌, Bool, true, List, [], ◌∷◌, Some, length, nat_eq, nat_lt, not, slice_get, if◌then◌else◌}
use Rattle.customer_sets.specs.CustSet.{has}
use Rattle.ev_model.specs.Network.{Network, travel_time}
use Rattle.instance_reader.specs.Instance.{customer_nodes}

-- the customer at node y, another one than at node a, comes before that at node x: it takes less
-- time from a, or the same and has the smaller node
abbrev pub is_sooner : Network → ℕ → ℕ → ℕ → Bool
is_sooner g a x y = not (nat_eq y a) && (nat_lt (travel_time g a y) (travel_time g a x)
    || nat_eq (travel_time g a y) (travel_time g a x) && nat_lt y x)

-- how many of some customers do
abbrev pub sooner_count : Network → ℕ → ℕ → List ℕ → ℕ
sooner_count g a x [] = 0
sooner_count g a x (y ∷ ys) = (if is_sooner g a x y then 1 else 0) + sooner_count g a x ys

-- the customer at node x is that at node a, or fewer than `near` others come before
abbrev pub belongs : Network → ℕ → ℕ → ℕ → Bool
belongs g near a x = nat_eq x a || nat_lt (sooner_count g a x (customer_nodes g)) near

-- a set has the customer at node a, and each other one before whom fewer than `near` others come
pub record IsNearSet (g : Network) (near a : ℕ) (set : List ℕ) : Type 0 where
  pub members : (n x : ℕ) → slice_get (customer_nodes g) n ≡ Some x →
      has set n ≡ belongs g near a x
  pub among : (n : ℕ) → has set n ≡ true → n < length (customer_nodes g)

-- each customer has such a set, by number
pub record AreNearSets (g : Network) (near : ℕ) (sets : List (List ℕ)) : Type 0 where
  pub one_set : length sets ≡ length (customer_nodes g)
  pub each : (n a : ℕ) (set : List ℕ) → slice_get (customer_nodes g) n ≡ Some a →
      slice_get sets n ≡ Some set → IsNearSet g near a set
