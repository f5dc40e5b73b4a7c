-- Prices of customers that are fixed one by one, by near routes.
use Rattle.std.specs.Prelude.{◌≡◌, ℕ, suc, ◌+◌, ◌-◌, ◌<◌, ◌≤◌, List, ◌∷◌, ◌++◌, drop, get_or, length, replicate, set, take}
use Rattle.ev_model.specs.Fleet.{times_in}
use Rattle.ev_model.specs.Network.{Network}
use Rattle.ev_model.specs.Time.{time_of}
use Rattle.ev_model.specs.declared.Stop.{Stop}
use Rattle.fleet_model.specs.Places.{numbers_of}
use Rattle.near_proof.specs.Routes.{IsNearRoute}
use Rattle.near_proof.specs.Terms.{earned_by, Terms}
use Rattle.near_proof.specs.Truth.{NearRoutesPay}

-- the customer, told by number, stands on no near route
abbrev pub StandsOnNone : Network → List (List ℕ) → ℕ → Type 0
StandsOnNone g sets c =
    (plan : List Stop) → IsNearRoute g sets plan → times_in (numbers_of g plan) c ≡ 0

-- prices at weight 1
abbrev pub terms_at : List (List ℕ) → List ℕ → Terms
terms_at sets prices = record { weight = 1; prices = prices; sets = sets }

-- the prices of the customers before one, a price for that one, and 0 for each later one
abbrev pub begun_with : List ℕ → ℕ → ℕ → List ℕ
begun_with prices c price =
    take c prices ++ price ∷ replicate (length prices - suc c) 0

-- the price of a customer is the greatest for which, with those of the customers before and 0 for
-- later ones, each near route takes at least what it earns
pub record IsGreatest (g : Network) (sets : List (List ℕ)) (prices : List ℕ) (c : ℕ) : Type 0 where
  pub pays : NearRoutesPay g (terms_at sets (begun_with prices c (get_or prices c 0)))
  pub greatest : (price : ℕ) → NearRoutesPay g (terms_at sets (begun_with prices c price)) →
      price ≤ get_or prices c 0

-- so is each price
abbrev pub AreGreatest : Network → List (List ℕ) → List ℕ → Type 0
AreGreatest g sets prices = (c : ℕ) → c < length prices → IsGreatest g sets prices c

-- some near route earns more than it takes
abbrev pub SomeEarns : Network → List (List ℕ) → List ℕ → Type 0
SomeEarns g sets prices =
    (plan : List Stop) × IsNearRoute g sets plan ×
    (time_of g 1 g.capacity plan < earned_by prices (numbers_of g plan))

-- start prices that are lowered until no near route earns, each no further than needed: one higher,
-- and with the start prices of the others, some near route would earn
pub record AreLowered (g : Network) (sets : List (List ℕ)) (start base : List ℕ) : Type 0 where
  pub one_price : length base ≡ length start
  pub within : (c : ℕ) → get_or base c 0 ≤ get_or start c 0
  pub needed : (c : ℕ) → get_or base c 0 < get_or start c 0 →
      SomeEarns g sets (set start c (get_or base c 0 + 1))
  pub pays : NearRoutesPay g (terms_at sets base)

-- the prices of the customers before one, a price for that one, and for each later one the price to
-- begin with
abbrev pub begun_from : List ℕ → List ℕ → ℕ → ℕ → List ℕ
begun_from base prices c price = take c prices ++ price ∷ drop (c + 1) base

-- the price of a customer is the greatest for which, with those of the customers before and those
-- to begin with for later ones, each near route takes at least what it earns
pub record IsGreatestFrom (g : Network) (sets : List (List ℕ)) (base prices : List ℕ) (c : ℕ) :
    Type 0 where
  pub pays : NearRoutesPay g (terms_at sets (begun_from base prices c (get_or prices c 0)))
  pub greatest : (price : ℕ) →
      NearRoutesPay g (terms_at sets (begun_from base prices c price)) → price ≤ get_or prices c 0

-- so is each price, where the start prices are lowered at first: none is below the lowered one, nor
-- below its start price where no near route earns by the start prices
pub record AreRisenFrom (g : Network) (sets : List (List ℕ)) (start prices : List ℕ) :
    Type 0 where
  pub base : List ℕ
  pub lowered : AreLowered g sets start base
  pub greatest : (c : ℕ) → c < length prices → IsGreatestFrom g sets base prices c
  pub above : (c : ℕ) → get_or base c 0 ≤ get_or prices c 0
  pub kept : NearRoutesPay g (terms_at sets start) →
      (c : ℕ) → get_or start c 0 ≤ get_or prices c 0
