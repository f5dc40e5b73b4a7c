-- What a search for the cheapest plan of a fleet answers.
use Rattle.std.specs.Prelude.{◌≡◌, ◌↔◌, ℕ, ◌<◌, ◌≤◌, List, Option, Some, None, IfSome, IsTrue, false, length}
use Rattle.std.specs.List.{All}
use Rattle.customer_sets.specs.Pairs.{allows_of}
use Rattle.ev_model.specs.Network.{IsNetwork, Network}
use Rattle.fleet_model.specs.Strong.{AreRisingPrices, IsStrong}
use Rattle.bound_certificate.specs.Kept.{IsKept}
use Rattle.bound_certificate.specs.Meaning.{priced_sections}
use Rattle.bound_certificate.specs.Ranges.{Fits, customer_count}
use Rattle.bound_certificate.specs.declared.certificate.Root.{Root}
use Rattle.bound_certificate.specs.declared.certificate.Root.TheVariants as root
use Rattle.bound_certificate.specs.declared.certificate.Section.{Section}
use Rattle.certificate_check.specs.Accepted.{IsAccepted}
use Rattle.ev_fleet.specs.Answers.{shares_in}
use Rattle.ev_fleet.specs.Bounds.{HasSection, IsNotAbove}
use Rattle.ev_fleet.specs.Plans.{CostsNoMoreThanOwn, IsHeld, cost_held}
use Rattle.ev_fleet.specs.Searched.{SearchedTree}
use Rattle.ev_fleet.specs.Standing.{AreStanding}
use Rattle.ev_fleet.specs.Whole.{IsNoDearer, TakesShares}
use Rattle.ev_fleet.specs.declared.outcome.Outcome.{Outcome}

-- where the root is wide, the first section has weight 1 and the rising prices
abbrev pub RisesWhereWide : Network → List Section → Root → Type 0
RisesWhereWide g sections root.None = Unit {0}
RisesWhereWide g sections (root.Exact over shares) = Unit {0}
RisesWhereWide g sections (root.Wide columns basis) =
    HasSection sections 0 (λ s. (s.weight ≡ 1) × AreRisingPrices g (allows_of s.pairs) s.prices)

-- a cost is above a bound, or no plan is held though the bound is a number
abbrev pub LeavesGap : Option ℕ → Option ℕ → Type 0
LeavesGap None None = ⊥
LeavesGap None (Some bound) = Unit {0}
LeavesGap (Some cost) None = ⊥
LeavesGap (Some cost) (Some bound) = bound < cost

-- a search with a budget stops exactly where it has used it up and leaves a gap, and else the cost is the bound: both are the
-- same number, or no plan is held and the bound says that there is none
pub record IsStoppedWell (budget cost bound : Option ℕ) (o : Outcome) : Type 0 where
  pub stopped : IsTrue o.stopped ↔ ((budget ≡ Some o.nodes) × LeavesGap cost bound)
  pub closed : o.stopped ≡ false → cost ≡ bound
  pub within : IfSome budget (λ most. o.nodes ≤ most)

pub record IsOutcome (g : Network) (budget : Option ℕ) (o : Outcome) : Type 0 where
  pub network : IsNetwork g
  pub fits : Fits g o.certificate
  -- what its text tells is all of it, so that it is read as it
  pub kept : All IsKept o.certificate.sections
  pub accepted : IsAccepted g o.certificate
  -- a section for each node whose bound was found
  pub nodes : length o.certificate.sections ≡ o.nodes
  pub standing : (tree : SearchedTree) × AreStanding (customer_count g) o.certificate tree
  pub strong : All (IsStrong g) (priced_sections o.certificate.sections)
  pub rising : RisesWhereWide g o.certificate.sections o.certificate.root
  -- the bound is not below that of the first section
  pub at_root : IsNotAbove o.certificate.sections o.certificate.bound 0
  pub plan : IfSome o.plan (IsHeld g)
  pub cost : o.cost ≡ cost_held g o.plan
  pub own : CostsNoMoreThanOwn g o.plan
  -- it costs no more than the fleet plan that whole shares of the root are, or whole shares that showed the bound of any section
  pub at_shares : TakesShares g (shares_in o.certificate.root) (cost_held g o.plan)
  pub whole : All (IsNoDearer g (cost_held g o.plan)) o.certificate.sections
  pub gap : IsStoppedWell budget (cost_held g o.plan) o.certificate.bound o
