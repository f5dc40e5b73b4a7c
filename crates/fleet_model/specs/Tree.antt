-- Branching on which customer follows which (Ryan, Foster 1981; for routes: Desaulniers, Desrosiers, Solomon
-- 2005).
use Rattle.std.specs.Prelude.{◌≡◌, ℕ, ◌<◌, ◌≤◌, Bool, true, List, Option, Some, None, slice_get, ◌⊎◌}
use Rattle.customer_sets.specs.Pairs.{forbid, require}
use Rattle.ev_model.specs.Network.{Network}
use Rattle.ev_model.specs.declared.Stop.{Stop}
use Rattle.fleet_model.specs.Places.{customer_count}
use Rattle.fleet_model.specs.Pairs.{FleetKeepsPairs}
use Rattle.fleet_model.specs.Section.{Section, IsAtMostBound, ShowsNoPlan}

-- a leaf names a section by its number. A split on two customers' places i and j has two children: in the
-- first j may not follow i, in the second it has to
pub data BranchTree : Type 0 where
  leaf : ℕ → BranchTree
  split : ℕ → ℕ → BranchTree → BranchTree → BranchTree

-- each split is on places of customers
abbrev pub IsBranchTree : Network → BranchTree → Type 0
IsBranchTree g (leaf n) = Unit {0}
IsBranchTree g (split i j apart together) =
    (0 < i) × (i ≤ customer_count g) × ((0 < j) × (j ≤ customer_count g))
    × (IsBranchTree g apart × IsBranchTree g together)

-- the pairs forbidden on the way to some leaf are kept
abbrev pub KeepsSomeLeaf : Network → (ℕ → ℕ → Bool) → BranchTree → List (List Stop) → Type 0
KeepsSomeLeaf g allows (leaf n) plans = FleetKeepsPairs g allows plans
KeepsSomeLeaf g allows (split i j apart together) plans =
    KeepsSomeLeaf g (forbid i j allows) apart plans ⊎
    KeepsSomeLeaf g (require i j allows) together plans

-- a bound is at most that of a section; `None` says that there is no plan, which is above every number
abbrev pub IsBoundedBy : Section → Option ℕ → Type 0
IsBoundedBy s (Some bound) = IsAtMostBound s bound
IsBoundedBy s None = ShowsNoPlan s

-- what holds of the section that a leaf names: its forbidden pairs are among the leaf's, and its bound is at
-- least the bound
pub record IsUnder (allows : ℕ → ℕ → Bool) (s : Section) (bound : Option ℕ) : Type 0 where
  pub pairs : (a b : ℕ) → allows a b ≡ true → s.allows a b ≡ true
  pub bounded : IsBoundedBy s bound

-- each leaf names a section that holds under it, where `allows` tells the pairs that are allowed at the
-- tree's root
abbrev pub LeavesAreUnder : List Section → Option ℕ → (ℕ → ℕ → Bool) → BranchTree → Type 0
LeavesAreUnder sections bound allows (leaf n) =
    (s : Section) × (slice_get sections n ≡ Some s) × IsUnder allows s bound
LeavesAreUnder sections bound allows (split i j apart together) =
    LeavesAreUnder sections bound (forbid i j allows) apart
    × LeavesAreUnder sections bound (require i j allows) together
