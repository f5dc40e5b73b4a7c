-- Nodes in preorder, each as what is counted on the way down to it asks; and what is counted, as it
-- is written.
use Rattle.std.specs.Prelude.{ℕ, ◌+◌, ◌≤◌, List, [], ◌∷◌, length, map}
use Rattle.std.specs.List.{All}
use Rattle.std.specs.List.Sorted.{IsStrictlyIncreasing}
use Rattle.ev_model.specs.Network.{Network}
use Rattle.certificate_parts.specs.Ranges.{customer_count}
use Rattle.near_proof.specs.Ranges.{AreAmong}
use Rattle.near_text.specs.Written.{written_set}
use Rattle.near_tree.specs.Branches.{Branch, Counted, count_of, whole}
use Rattle.near_tree.specs.Preorder.{Node, at_entries, at_leaf, at_split}
use Rattle.near_tree.specs.Ranges.{most_counted}
use Rattle.near_tree.specs.Trees.{IsCount, IsSectionAt, IsSplit}
use Rattle.tree_text.specs.Written.{narrowed}

-- a set of customers, whose members rise
pub record IsGoodSet (g : Network) (set : List ℕ) : Type 0 where
  pub rising : IsStrictlyIncreasing set
  pub among : AreAmong (customer_count g) set

-- a counted set of customers, which can't be entered more often than there are customers
pub record IsGoodCount (g : Network) (c : Counted) : Type 0 where
  pub set : IsGoodSet g c.set
  pub most : c.most ≤ customer_count g

-- what may be counted on the way to a node
pub record IsWay (g : Network) (counted : List Counted) : Type 0 where
  pub good : All (IsGoodCount g) counted
  pub few : length counted ≤ most_counted

-- counted sets as they are written
abbrev pub written_counted : Network → Counted → Counted
written_counted g c = record { set = written_set g c.set; least = c.least; most = c.most }

abbrev pub all_written : Network → List Counted → List Counted
all_written g counted = map (written_counted g) counted

-- nothing is forbidden, and so much is counted
abbrev pub counting : List Counted → Branch
counting counted = record whole { counted = counted }

-- a node is as it should be where so much is counted
abbrev pub StandsAt : Network → List Counted → Node → Type 0
StandsAt g counted (at_split i j) = IsSplit g i j
StandsAt g counted (at_entries k set) = IsCount g (counting counted) k set
StandsAt g counted (at_leaf s) =
    IsSectionAt g (counting counted) s × (length counted ≤ most_counted)

-- what is counted below a node, in its first tree and in its second
abbrev pub below_node : List Counted → Node → List (List Counted)
below_node counted (at_split i j) = counted ∷ counted ∷ []
below_node counted (at_entries k set) =
    narrowed counted set (count_of counted set).least k
    ∷ narrowed counted set (k + 1) (count_of counted set).most ∷ []
below_node counted (at_leaf s) = []
