-- Strong sections: those whose bound couldn't be had higher under their forbidden pairs, or whose basis is too wide.
use Rattle.std.specs.Prelude.{◌≡◌, ℕ, suc, ◌<◌, ◌⊎◌, ℤ, pos, ◌≤ℤ◌, Bool, List, [], ◌∷◌, ◌++◌, length, map, take}
use Rattle.std.specs.List.{All, Contains}
use Rattle.ev_model.specs.Network.{Network}
use Rattle.ev_model.specs.Time.{time_of}
use Rattle.ev_model.specs.declared.Stop.{Stop}
use Rattle.fleet_model.specs.Cover.{CoverKeepsPairs, IsExactRoot, IsFleetRoute, Share}
use Rattle.fleet_model.specs.Equations.{Column, helpers, route}
use Rattle.fleet_model.specs.Pairs.{PlanKeepsPairs}
use Rattle.fleet_model.specs.Places.{customer_count, numbers_of}
use Rattle.fleet_model.specs.Prices.{price_of, price_sum}
use Rattle.fleet_model.specs.Section.{Section, ShowsNoPlan}
use Rattle.fleet_model.specs.Wide.{IsTooWide}

-- no route that keeps the pairs is worth more by the prices than the time that it takes; a price that isn't listed is 0
abbrev pub ArePayable : Network → (ℕ → ℕ → Bool) → List ℤ → Type 0
ArePayable g allows prices =
    (plan : List Stop) → IsFleetRoute g 1 plan → PlanKeepsPairs g allows plan →
    price_sum prices (numbers_of g plan) ≤ℤ pos (time_of g 1 g.capacity plan)

-- the price of customer c is the greatest from 0 on that, with those of the customers before and 0 for those after, no
-- route that keeps the pairs is worth more than
pub record IsRisingPrice (g : Network) (allows : ℕ → ℕ → Bool) (prices : List ℤ) (c : ℕ) : Type 0 where
  pub some : pos 0 ≤ℤ price_of prices c
  pub payable : ArePayable g allows (take (suc c) prices)
  pub greatest : (price : ℤ) → ArePayable g allows (take c prices ++ price ∷ []) →
      price ≤ℤ price_of prices c

-- the rising prices: fixed customer by customer
pub record AreRisingPrices (g : Network) (allows : ℕ → ℕ → Bool) (prices : List ℤ) : Type 0 where
  pub one_price : length prices ≡ customer_count g
  pub rising : (c : ℕ) → c < customer_count g → IsRisingPrice g allows prices c

-- a route as a column of the master problem: its customers by number, and its time
abbrev pub column_of : Network → List Stop → Column
column_of g plan = route (numbers_of g plan) (time_of g 1 g.capacity plan)

-- entries of a basis that is too wide: helpers, and columns of feasible routes
pub record IsWideBasis (g : Network) (plans : List (List Stop)) (entries : List Column) : Type 0 where
  pub routes : All (IsFleetRoute g 1) plans
  pub listed : All (Contains (helpers (customer_count g) ++ map (column_of g) plans)) entries
  pub too_wide : IsTooWide (customer_count g) (map (column_of g) plans) entries

-- routes that keep the section's pairs have shares that are a cover at exactly its price sum over its weight
pub record IsOptimal (g : Network) (s : Section) : Type 0 where
  pub over : ℕ
  pub shares : List Share
  pub exact : IsExactRoot g s over shares
  pub keeps : CoverKeepsPairs g s.allows shares

-- there are routes with a basis that is too wide, and the section has weight 1 and the rising prices of its pairs
pub record IsRisen (g : Network) (s : Section) : Type 0 where
  pub plans : List (List Stop)
  pub entries : List Column
  pub wide : IsWideBasis g plans entries
  pub weight : s.weight ≡ 1
  pub prices : AreRisingPrices g s.allows s.prices

-- the bound of a strong section is that there is no plan, or a linear optimum, or that of the rising prices
abbrev pub IsStrong : Network → Section → Type 0
IsStrong g s = ShowsNoPlan s ⊎ IsOptimal g s ⊎ IsRisen g s
