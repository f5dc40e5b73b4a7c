-- Fleet plans that the routes with shares at a node are: where the shares are whole, they are one.
use Rattle.std.specs.Prelude.{ℕ, List, Option, Some}
use Rattle.ev_model.specs.Fleet.{IsFleetPlan, cost_of}
use Rattle.ev_model.specs.Network.{Network}
use Rattle.bound_certificate.specs.Meaning.{priced_section}
use Rattle.bound_certificate.specs.declared.certificate.Root.{Root}
use Rattle.bound_certificate.specs.declared.certificate.Root.TheVariants as root
use Rattle.bound_certificate.specs.declared.certificate.Section.{Section}
use Rattle.bound_certificate.specs.declared.certificate.Share.{Share}
use Rattle.column_pool.specs.Bounds.{IsNodeBound, plans_of}
use Rattle.ev_fleet.specs.Answers.{answer_of, shares_in}
use Rattle.ev_fleet.specs.Bounds.{IsAtMost, IsBoundOf}

-- where the plans of the shares are a fleet plan, the cost is not above its cost
abbrev pub TakesShares : Network → List Share → Option ℕ → Type 0
TakesShares g shares cost =
    IsFleetPlan g 1 (plans_of shares) → IsAtMost cost (Some (cost_of g 1 (plans_of shares)))

-- the bound of the section is not below the cost
abbrev pub ReachesCost : Option ℕ → Section → Type 0
ReachesCost cost s = (own : Option ℕ) → IsBoundOf (priced_section s) own → IsAtMost cost own

-- where the plans of the shares of an exact root are a fleet plan, the cost is not above the bound of the section
abbrev pub ReachesWhole : Network → Option ℕ → Section → Root → Type 0
ReachesWhole g cost s root.None = Unit {0}
ReachesWhole g cost s (root.Exact over shares) =
    IsFleetPlan g 1 (plans_of shares) → ReachesCost cost s
ReachesWhole g cost s (root.Wide columns basis) = Unit {0}

-- What shows the bound of the section: shares of an exact root, a wide basis, or that there is no plan. Where the plans of the shares
-- are a fleet plan, the cost is above neither its cost nor the bound of the section.
pub record IsNoDearer (g : Network) (cost : Option ℕ) (s : Section) : Type 0 where
  pub root : Root
  pub shown : IsNodeBound g s.pairs (answer_of s root)
  pub taken : TakesShares g (shares_in root) cost
  pub reached : ReachesWhole g cost s root
