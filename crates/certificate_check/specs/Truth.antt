-- What an accepted certificate shows of all fleet plans and all fractional covers.
use Rattle.std.specs.Prelude.{◌≡◌, ℕ, ◌*◌, ◌≤◌, ◌⊎◌, List, Option, None, Some, pos, ◌*ℤ◌, ◌≤ℤ◌}
use Rattle.ev_model.specs.Fleet.{cost_of, IsFleetPlan}
use Rattle.ev_model.specs.Network.{Network}
use Rattle.ev_model.specs.declared.Stop.{Stop}
use Rattle.fleet_model.specs.Cover.{cost_of_shares, IsFractionalCover, Share}
use Rattle.fleet_model.specs.Places.{customer_count}
use Rattle.fleet_model.specs.Prices.{price_total}
use Rattle.fleet_model.specs.Section.{Section}
use Rattle.fleet_model.specs.Wide.{IsTooWide}
use Rattle.bound_certificate.specs.Meaning.{basis_columns, route_columns, route_shares}
use Rattle.bound_certificate.specs.declared.certificate.Certificate.{Certificate}
use Rattle.bound_certificate.specs.declared.certificate.Root.{Root}
use Rattle.bound_certificate.specs.declared.certificate.Root.TheVariants as root
use Rattle.certificate_check.specs.Accepted.{IsSectionAt}

-- the bound is true: no fleet plan costs less, in any fraction of a unit of charge; no bound says that there is no
-- fleet plan, in any fraction
abbrev pub IsTrueBound : Network → Option ℕ → Type 0
IsTrueBound g None = (k : ℕ) (plans : List (List Stop)) → IsFleetPlan g k plans → ⊥
IsTrueBound g (Some bound) =
    (k : ℕ) (plans : List (List Stop)) → IsFleetPlan g k plans → k * bound ≤ cost_of g k plans

-- no fractional cover costs less than the price sum of the section over its weight, in any fraction of a unit: the
-- cost of one is the sum of share times time, over k and the weight of the cover
abbrev pub IsLeastCost : Network → Section → Type 0
IsLeastCost g s =
    (k weight : ℕ) (others : List Share) → IsFractionalCover g k weight others →
    (pos (k * weight) *ℤ price_total s.prices) ≤ℤ pos (s.weight * cost_of_shares g k others)

-- the shares are a fractional cover in whole plans that costs the price sum of the section over its weight
pub record CostExactly (g : Network) (s : Section) (over : ℕ) (shares : List Share) : Type 0 where
  pub cover : IsFractionalCover g 1 over shares
  pub some_weight : 1 ≤ s.weight
  pub cost : pos (cost_of_shares g 1 shares * s.weight) ≡ price_total s.prices *ℤ pos over

-- there is no fractional cover, in any fraction of a unit
abbrev pub HasNoCover : Network → Type 0
HasNoCover g =
    (k weight : ℕ) (others : List Share) → 1 ≤ k → IsFractionalCover g k weight others → ⊥

-- what a root shows of the first section: that there is no fractional cover; or that none costs
-- less than the price sum of the section over its weight, and of an exact root that the listed
-- shares are one that costs just that
abbrev pub IsTrueRoot : Network → Section → Root → Type 0
IsTrueRoot g s root.None = HasNoCover g
IsTrueRoot g s (root.Exact over shares) =
    IsLeastCost g s × CostExactly g s over (route_shares shares)
IsTrueRoot g s (root.Wide columns basis) = IsLeastCost g s

-- a certificate tells the truth of its network: by its bound of all fleet plans, and by its root of
-- all fractional covers
pub record IsTrueCertificate (g : Network) (c : Certificate) : Type 0 where
  pub bound : IsTrueBound g c.bound
  pub root : (s : Section) × IsSectionAt c 0 s × IsTrueRoot g s c.root

-- whether the basis of a wide root is too wide, is settled
abbrev pub IsSettled : Network → Root → Type 0
IsSettled g root.None = Unit {0}
IsSettled g (root.Exact over shares) = Unit {0}
IsSettled g (root.Wide columns basis) =
    IsTooWide (customer_count g) (route_columns g columns) (basis_columns g columns basis)
    ⊎ (IsTooWide (customer_count g) (route_columns g columns) (basis_columns g columns basis) → ⊥)
