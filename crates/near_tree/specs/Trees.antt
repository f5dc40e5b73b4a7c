-- Trees of splits and of counts of entries, with a section at each leaf.
use Rattle.std.specs.Prelude.{◌≡◌, ◌≢◌, ℕ, ◌<◌, ◌≤◌, ◌⊎◌, List, [], length}
use Rattle.std.specs.List.{All}
use Rattle.std.specs.List.Sorted.{IsStrictlyIncreasing}
use Rattle.ev_model.specs.Network.{Network}
use Rattle.fleet_model.specs.Places.{customer_count}
use Rattle.near_tree.specs.Branches.{apart_at, at_least, at_most, Branch, count_of, together_at}
use Rattle.near_tree.specs.Covered.{AreWithinFullAt}
use Rattle.near_tree.specs.Sections.{NearSection}

-- a split on the places i and j of two customers: in the first tree j may not follow i, in the
-- second it has to. A count of entries into a set: at most k in the first tree, more in the second
pub data NearTree : Type 0 where
  leaf : NearSection → NearTree
  split : ℕ → ℕ → NearTree → NearTree → NearTree
  entries : ℕ → List ℕ → NearTree → NearTree → NearTree

-- one price and one near set a customer, one entry price a counted set, no level above full
pub record IsSectionAt (g : Network) (b : Branch) (s : NearSection) : Type 0 where
  pub one_price : length s.prices ≡ customer_count g
  pub one_set : length s.sets ≡ customer_count g
  pub one_entry_price : length s.entry_prices ≡ length b.counted
  pub full : AreWithinFullAt g s

-- the places of two different customers
pub record IsSplit (g : Network) (i j : ℕ) : Type 0 where
  pub first : (0 < i) × (i ≤ customer_count g)
  pub second : (0 < j) × (j ≤ customer_count g)
  pub apart : i ≢ j

-- a set of customers that isn't empty, its members in rising order, and a number of entries below
-- which, and past which, the set's range has some
pub record IsCount (g : Network) (b : Branch) (k : ℕ) (set : List ℕ) : Type 0 where
  pub some : set ≢ []
  pub rising : IsStrictlyIncreasing set
  pub known : All (λ c. c < customer_count g) set
  pub least : (count_of b.counted set).least ≤ k
  pub most : k < (count_of b.counted set).most

-- what splits and counts ask for on the way down
abbrev pub IsTreeAt : Network → Branch → NearTree → Type 0
IsTreeAt g b (leaf s) = IsSectionAt g b s
IsTreeAt g b (split i j apart together) =
    IsSplit g i j × IsTreeAt g (apart_at i j b) apart × IsTreeAt g (together_at i j b) together
IsTreeAt g b (entries k set few many) =
    IsCount g b k set × IsTreeAt g (at_most k set b) few × IsTreeAt g (at_least k set b) many

-- something holds at each leaf, of its section and of what the way down to it says
abbrev pub AtEachLeaf : (Branch → NearSection → Type 0) → Branch → NearTree → Type 0
AtEachLeaf P b (leaf s) = P b s
AtEachLeaf P b (split i j apart together) =
    AtEachLeaf P (apart_at i j b) apart × AtEachLeaf P (together_at i j b) together
AtEachLeaf P b (entries k set few many) =
    AtEachLeaf P (at_most k set b) few × AtEachLeaf P (at_least k set b) many

-- or at some leaf
abbrev pub AtSomeLeaf : (Branch → NearSection → Type 0) → Branch → NearTree → Type 0
AtSomeLeaf P b (leaf s) = P b s
AtSomeLeaf P b (split i j apart together) =
    AtSomeLeaf P (apart_at i j b) apart ⊎ AtSomeLeaf P (together_at i j b) together
AtSomeLeaf P b (entries k set few many) =
    AtSomeLeaf P (at_most k set b) few ⊎ AtSomeLeaf P (at_least k set b) many
