-- A queue as its callers see it: a set of pairs of a key and an item number, each item number at most
-- once. It is written as the list of the keys, by item number, where an item is held.
use Rattle.std.specs.Prelude.{◌≡◌, ℕ, ◌<◌, ◌⊎◌, List, get_or, Option, Some, None}

-- the key of item i, where it is held
abbrev pub key_at : List (Option ℕ) → ℕ → Option ℕ
key_at keys i = get_or keys i None

-- the pair (key, i) is in the queue
abbrev pub HasPair : List (Option ℕ) → ℕ → ℕ → Type 0
HasPair keys key i = key_at keys i ≡ Some key

-- no item is held
abbrev pub IsEmpty : List (Option ℕ) → Type 0
IsEmpty keys = (i : ℕ) → key_at keys i ≡ None

-- the pair (key, i) comes before (other, j): by key, and at equal keys by item number
abbrev pub Precedes : ℕ → ℕ → ℕ → ℕ → Type 0
Precedes key i other j = (key < other) ⊎ ((key ≡ other) × (i < j))

-- the pair (key, i) is in the queue and comes before each other pair of it
pub record IsLeast (keys : List (Option ℕ)) (key i : ℕ) : Type 0 where
  pub held : HasPair keys key i
  pub least : (other j : ℕ) → HasPair keys other j → (j ≡ i) ⊎ Precedes key i other j
