-- What an accepted proof shows of all plans of a fleet of several kinds of vehicles, and of all
-- fractional covers.
use Rattle.std.specs.Prelude.{ℕ, ◌*◌, ◌≤◌, List, Option, None, Some, ℤ, pos, ◌*ℤ◌, ◌≤ℤ◌}
use Rattle.ev_model.specs.Network.{Network}
use Rattle.fleet_model.specs.Prices.{price_total}
use Rattle.mixed_model.specs.Covers.{IsExactCover, IsMixedCover, KindShare, mixed_cost_of_shares}
use Rattle.mixed_model.specs.Meaning.{kind_shares}
use Rattle.mixed_model.specs.Plans.{IsMixedPlan, KindPlan, mixed_cost}
use Rattle.mixed_model.specs.declared.proof.MixedProof.{MixedProof}
use Rattle.mixed_model.specs.declared.proof.MixedRoot.{MixedRoot}
use Rattle.mixed_model.specs.declared.proof.MixedRoot.TheVariants as root

-- the bound is true: no plan costs less, in any fraction of a unit of charge; no bound says that
-- there is no plan, in any fraction
abbrev pub IsTrueBound : List Network → Option ℕ → Type 0
IsTrueBound kinds None = (k : ℕ) (plans : List KindPlan) → IsMixedPlan kinds k plans → ⊥
IsTrueBound kinds (Some bound) =
    (k : ℕ) (plans : List KindPlan) → IsMixedPlan kinds k plans →
    k * bound ≤ mixed_cost kinds k plans

-- no fractional cover costs less than the price sum over the weight, in any fraction of a unit: the
-- cost of one is the sum of share times time, over k and the weight of the cover
abbrev pub IsLeastCost : List Network → ℕ → List ℤ → Type 0
IsLeastCost kinds weight prices =
    (k over : ℕ) (others : List KindShare) → IsMixedCover kinds k over others →
    (pos (k * over) *ℤ price_total prices) ≤ℤ pos (weight * mixed_cost_of_shares kinds k others)

-- there is no fractional cover, in any fraction of a unit
abbrev pub HasNoCover : List Network → Type 0
HasNoCover kinds =
    (k over : ℕ) (others : List KindShare) → 1 ≤ k → IsMixedCover kinds k over others → ⊥

-- what a root shows: that there is no fractional cover; or that none costs less than the price sum
-- over the weight, and of an exact root that the listed shares are one that costs just that
abbrev pub IsTrueRoot : List Network → MixedProof → MixedRoot → Type 0
IsTrueRoot kinds p root.None = HasNoCover kinds
IsTrueRoot kinds p (root.Exact over shares) =
    IsLeastCost kinds p.weight p.prices ×
    IsExactCover kinds p.weight p.prices over (kind_shares shares)
IsTrueRoot kinds p (root.Wide columns basis) = IsLeastCost kinds p.weight p.prices

-- a proof tells the truth of its kinds: by its bound of all plans, and by its root of all
-- fractional covers
pub record IsTrueProof (kinds : List Network) (p : MixedProof) : Type 0 where
  pub bound : IsTrueBound kinds p.bound
  pub root : IsTrueRoot kinds p p.root
