-- The bound of a section, and which of two bounds is above the other.
use Rattle.std.specs.Prelude.{◌≡◌, ◌⊎◌, ℕ, ◌≤◌, pos, ◌≤ℤ◌, List, Option, Some, None, slice_get}
use Rattle.fleet_model.specs.Prices.{price_total}
use Rattle.fleet_model.specs.Section.{Section as PricedSection, ShowsNoPlan}
use Rattle.bound_certificate.specs.Meaning.{priced_section}
use Rattle.bound_certificate.specs.declared.certificate.Section.{Section}
use Rattle.certificate_check.specs.RoundedUp.{IsRoundedUp}

-- The bound of a section: the price sum over the weight, rounded up, where the weight is above 0. Where it is 0, there
-- is none where the price sum is above 0, which says that there is no plan, and else it is 0.
abbrev pub IsBoundOf : PricedSection → Option ℕ → Type 0
IsBoundOf s None = ShowsNoPlan s
IsBoundOf s (Some bound) =
    ((1 ≤ s.weight) × IsRoundedUp (price_total s.prices) s.weight bound)
    ⊎ ((s.weight ≡ 0) × (price_total s.prices ≤ℤ pos 0) × (bound ≡ 0))

-- a bound is not above another. `None`, that there is no plan, is above every number.
abbrev pub IsAtMost : Option ℕ → Option ℕ → Type 0
IsAtMost bound None = Unit {0}
IsAtMost None (Some other) = ⊥
IsAtMost (Some bound) (Some other) = bound ≤ other

-- a section stands in the list under the number, and it is such a one
pub record HasSection (sections : List Section) (number : ℕ) (Is : Section → Type 0) : Type 0 where
  pub section : Section
  pub here : slice_get sections number ≡ Some section
  pub is : Is section

-- the section with the number has the bound
abbrev pub HasBound : List Section → ℕ → Option ℕ → Type 0
HasBound sections number bound =
    HasSection sections number (λ s. IsBoundOf (priced_section s) bound)

-- the bound of the section with the number is not above the other
abbrev pub IsNotAbove : List Section → Option ℕ → ℕ → Type 0
IsNotAbove sections other number =
    (bound : Option ℕ) × HasBound sections number bound × IsAtMost bound other

-- the bound of the section with the number is not below the other
abbrev pub IsNotBelow : List Section → Option ℕ → ℕ → Type 0
IsNotBelow sections other number =
    (bound : Option ℕ) × HasBound sections number bound × IsAtMost other bound
