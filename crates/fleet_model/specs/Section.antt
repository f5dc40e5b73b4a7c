-- Sections: prices for customers, a weight for time, and labels that show that no route earns more than it
-- takes (column generation and its dual bound: Desaulniers, Desrosiers, Solomon 2005).
use Rattle.std.specs.Prelude.{◌≡◌, ℕ, ◌*◌, ◌≤◌, Bool, List, length, ◌⊎◌, ℤ, pos, ◌+ℤ◌, ◌<ℤ◌}
use Rattle.std.specs.List.{Contains}
use Rattle.ev_model.specs.Network.{Network}
use Rattle.fleet_model.specs.Places.{customer_count}
use Rattle.fleet_model.specs.Labels.{Label, IsLevel}
use Rattle.fleet_model.specs.Prices.{price_total}

-- `allows a b` tells that the place b may follow the place a; prices are by customer number
pub record Section : Type 0 where
  pub weight : ℕ
  pub prices : List ℤ
  pub allows : ℕ → ℕ → Bool
  pub labels : List Label

-- one price a customer, and no level of a label is above full
pub record IsSectionOf (g : Network) (s : Section) : Type 0 where
  pub one_price : length s.prices ≡ customer_count g
  pub levels : (l : Label) (y : ℕ) → Contains s.labels l → IsLevel l y → y ≤ g.capacity

-- a number is at most the bound of a section. The bound is the price sum over the weight, rounded up, where
-- the weight is above 0; above every number where the weight is 0 and the price sum is above 0; and 0 where
-- the weight is 0 and it isn't
abbrev pub IsAtMostBound : Section → ℕ → Type 0
IsAtMostBound s bound =
    (pos (bound * s.weight) <ℤ (price_total s.prices +ℤ pos s.weight)) ⊎ ((s.weight ≡ 0) × (bound ≡ 0))

-- the section shows that there is no plan: the weight is 0 and the price sum is above 0
abbrev pub ShowsNoPlan : Section → Type 0
ShowsNoPlan s = (s.weight ≡ 0) × (pos 0 <ℤ price_total s.prices)
