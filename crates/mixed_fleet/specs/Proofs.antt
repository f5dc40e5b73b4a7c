-- The best proof that the price loop gives: its bound is the linear optimum, or that of the rising
-- prices.
use Rattle.std.specs.Prelude.{◌≡◌, ℕ, ◌≤◌, ℤ, pos, ◌<ℤ◌, List, IsSome, Option, Some, None}
use Rattle.ev_model.specs.Network.{Network}
use Rattle.fleet_model.specs.Prices.{price_total}
use Rattle.certificate_check.specs.RoundedUp.{IsRoundedUp}
use Rattle.mixed_model.specs.Accepted.{IsMixedAccepted}
use Rattle.mixed_model.specs.Ranges.{MixedFits}
use Rattle.mixed_model.specs.Truth.{IsTrueProof}
use Rattle.mixed_model.specs.declared.proof.MixedProof.{MixedProof}
use Rattle.mixed_model.specs.declared.proof.MixedRoot.{MixedRoot}
use Rattle.mixed_model.specs.declared.proof.MixedRoot.TheVariants as root
use Rattle.mixed_text.specs.MixedIn.{HaveSets}
use Rattle.mixed_fleet.specs.Rising.{AreRisingPrices}

-- the bound is the price sum over the weight, rounded up; there is none, which says that there is
-- no plan, exactly where the weight is 0, and the price sum is above 0 then
abbrev pub IsBoundOf : ℕ → List ℤ → Option ℕ → Type 0
IsBoundOf weight prices None = (weight ≡ 0) × (pos 0 <ℤ price_total prices)
IsBoundOf weight prices (Some bound) = (1 ≤ weight) × IsRoundedUp (price_total prices) weight bound

-- there is no root exactly where there is no bound. Of a wide root the weight is 1, and the prices
-- are the rising prices over the routes of all kinds
abbrev pub IsRootOf : List Network → MixedProof → MixedRoot → Type 0
IsRootOf kinds p root.None = p.bound ≡ None
IsRootOf kinds p (root.Exact over shares) = IsSome p.bound
IsRootOf kinds p (root.Wide columns basis) =
    IsSome p.bound × (p.weight ≡ 1) × AreRisingPrices kinds p.prices

-- it fits and its labels have sets, so that its text is read as it
pub record IsBestProof (kinds : List Network) (p : MixedProof) : Type 0 where
  pub fits : MixedFits kinds p
  pub kept : HaveSets p.labels
  pub accepted : IsMixedAccepted kinds p
  pub bound_is : IsBoundOf p.weight p.prices p.bound
  pub root_is : IsRootOf kinds p p.root
  pub truth : IsTrueProof kinds p
