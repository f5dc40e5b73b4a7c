-- Rising prices over the routes of all kinds: fixed customer by customer.
use Rattle.std.specs.Prelude.{◌≡◌, ℕ, suc, ◌<◌, ℤ, pos, ◌≤ℤ◌, List, [], ◌∷◌, ◌++◌, length, take}
use Rattle.ev_model.specs.Network.{Network}
use Rattle.fleet_model.specs.Places.{customer_count, numbers_of}
use Rattle.fleet_model.specs.Prices.{price_of, price_sum}
use Rattle.mixed_model.specs.Covers.{IsKindRoute}
use Rattle.mixed_model.specs.Kinds.{first_of}
use Rattle.mixed_model.specs.Plans.{KindPlan, time_in}

-- no route of any kind is worth more by the prices than the time that it takes; a price that isn't
-- listed is 0
abbrev pub ArePayable : List Network → List ℤ → Type 0
ArePayable kinds prices =
    (p : KindPlan) → IsKindRoute kinds 1 p →
    price_sum prices (numbers_of (first_of kinds) p.stops) ≤ℤ pos (time_in kinds 1 p)

-- the price of customer c is the greatest from 0 on that, with those of the customers before and 0
-- for those after, no route of any kind is worth more than
pub record IsRisingPrice (kinds : List Network) (prices : List ℤ) (c : ℕ) : Type 0 where
  pub some : pos 0 ≤ℤ price_of prices c
  pub payable : ArePayable kinds (take (suc c) prices)
  pub greatest : (price : ℤ) → ArePayable kinds (take c prices ++ price ∷ []) →
      price ≤ℤ price_of prices c

-- the rising prices: fixed customer by customer
pub record AreRisingPrices (kinds : List Network) (prices : List ℤ) : Type 0 where
  pub one_price : length prices ≡ customer_count (first_of kinds)
  pub rising : (c : ℕ) → c < customer_count (first_of kinds) → IsRisingPrice kinds prices c
