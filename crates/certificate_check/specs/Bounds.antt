-- The bound of a section as a number, and what is told of pairs and of the root.
use Rattle.std.specs.Prelude.{◌≡◌, ◌↔◌, ◌⊎◌, ℕ, ◌≤◌, Bool, true, false, List, [], ◌∷◌, ℤ, pos, ◌≤ℤ◌, Option, None, Some}
use Rattle.customer_sets.specs.Pairs.{allows_of, ForbiddenPairs, forbid, require}
use Rattle.ev_model.specs.Network.{Network}
use Rattle.fleet_model.specs.Section.{IsAtMostBound, Section, ShowsNoPlan}
use Rattle.bound_certificate.specs.declared.certificate.Root.{Root}
use Rattle.certificate_check.specs.Accepted.{AllowsAll, IsRootOf}
use Rattle.certificate_check.specs.Rules.{IsKindBroken}

-- a section with this weight and these prices
pub record HasPrices (weight : ℕ) (prices : List ℤ) (s : Section) : Type 0 where
  pub same_weight : s.weight ≡ weight
  pub same_prices : s.prices ≡ prices

-- the bound of a section: none where it shows that there is no plan, and else a number
abbrev pub IsBoundOf : Section → Option ℤ → Type 0
IsBoundOf s None = ShowsNoPlan s
IsBoundOf s (Some own) =
    (ShowsNoPlan s → ⊥) × ((bound : ℕ) → IsAtMostBound s bound ↔ (pos bound ≤ℤ own))

-- the pairs tell, among the places of n customers, what is allowed
pub record Tell (n : ℕ) (p : ForbiddenPairs) (allows : ℕ → ℕ → Bool) : Type 0 where
  pub customers : p.customers ≡ n
  pub same : (a b : ℕ) → a ≤ n → b ≤ n → allows_of p a b ≡ allows a b

-- what the two children of a split allow
pub record AreChildren (n i j : ℕ) (parent apart together : ForbiddenPairs) : Type 0 where
  pub apart_tells : (allows : ℕ → ℕ → Bool) → Tell n parent allows → Tell n apart (forbid i j allows)
  pub together_tells : (allows : ℕ → ℕ → Bool) → Tell n parent allows →
      Tell n together (require i j allows)

-- each of the pairs tells what is allowed at its place of the other list
abbrev pub TellEach : ℕ → List ForbiddenPairs → List (ℕ → ℕ → Bool) → Type 0
TellEach n [] [] = Unit {0}
TellEach n [] (allows ∷ more) = ⊥
TellEach n (p ∷ ps) [] = ⊥
TellEach n (p ∷ ps) (allows ∷ more) = Tell n p allows × TellEach n ps more

-- the root holds, or one of its rules is broken
abbrev pub TellsRoot : Network → Section → Root → Bool → Type 0
TellsRoot g s r true = IsRootOf g s r
TellsRoot g s r false = (AllowsAll s → ⊥) ⊎ IsKindBroken g s r
