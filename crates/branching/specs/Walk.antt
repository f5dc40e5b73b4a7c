-- Which node a walk over all of them finds: that of least bound, and of equal bounds that of least key.
use Rattle.std.specs.Prelude.{◌≡◌, ◌⊎◌, ℕ, ◌<◌, ◌≤◌, Bool, true, ◌&&◌, ◌||◌, not, cond, nat_eq, nat_le, nat_lt, List, [], ◌∷◌, Option, Some, None}
use Rattle.branching.specs.Nodes.{awaits, lives, node_at}
use Rattle.branching.specs.declared.node.Node.{Node}

-- the open nodes are looked at, and the taken ones too where this is asked for
abbrev pub is_wanted : Bool → Node → Bool
is_wanted taken_too node = cond taken_too (lives node.state) (awaits node.state)

-- a key and a bound come before others
abbrev pub precedes : ℕ × ℕ → ℕ → ℕ → Bool
precedes first key bound =
    nat_lt first.1 bound || (nat_eq first.1 bound && nat_le first.0 key)

-- the key and bound of the first node among those so far and another one
abbrev pub first_of : Bool → Option (ℕ × ℕ) → ℕ → Node → Option (ℕ × ℕ)
first_of taken_too None key node =
    cond (is_wanted taken_too node) (Some (key, node.bound)) None
first_of taken_too (Some first) key node =
    cond (is_wanted taken_too node && not (precedes first key node.bound))
    (Some (key, node.bound)) (Some first)

-- those of the first node among those so far and further ones
abbrev pub first_from : Bool → Option (ℕ × ℕ) → List (ℕ × Node) → Option (ℕ × ℕ)
first_from taken_too first [] = first
first_from taken_too first (entry ∷ entries) =
    first_from taken_too (first_of taken_too first entry.0 entry.1) entries

-- a key and a bound come before others, or are the same
abbrev pub IsBefore : ℕ × ℕ → ℕ × ℕ → Type 0
IsBefore first other = (first.1 < other.1) ⊎ ((first.1 ≡ other.1) × (first.0 ≤ other.0))

-- a node that is looked at has this key and bound, and no other one comes before it
pub record IsFirstAt (nodes : List (Option Node)) (taken_too : Bool)
    (first : ℕ × ℕ) : Type 0 where
  pub node : Node
  pub here : node_at nodes first.0 ≡ Some node
  pub wanted : is_wanted taken_too node ≡ true
  pub bound : node.bound ≡ first.1
  pub least : (key : ℕ) (o : Node) → node_at nodes key ≡ Some o →
      is_wanted taken_too o ≡ true → IsBefore first (key, o.bound)

-- the first of the nodes that are looked at, if there is one
abbrev pub IsFirst : List (Option Node) → Bool → Option (ℕ × ℕ) → Type 0
IsFirst nodes taken_too None =
    (key : ℕ) (node : Node) → node_at nodes key ≡ Some node →
    is_wanted taken_too node ≡ true → ⊥
IsFirst nodes taken_too (Some first) = IsFirstAt nodes taken_too first
