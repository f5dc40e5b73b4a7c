-- Labels of certificates, which have no paid sum of their own: it is the price sum of their set.
use Rattle.std.specs.Prelude.{◌≡◌, ℕ, ◌*◌, ◌≤◌, pos, ◌-ℤ◌, ◌≤ℤ◌}
use Rattle.std.specs.List.{Contains}
use Rattle.customer_sets.specs.CustSet.{IsWithin}
use Rattle.ev_model.specs.Network.{Network}
use Rattle.fleet_model.specs.Labels.{State, IsLevel, Label, state_at}
use Rattle.fleet_model.specs.Prices.{price_sum}
use Rattle.fleet_model.specs.Section.{Section}
use Rattle.fleet_model.specs.Steps.{start, time_at, at_customer, IsCustomerStep, at_station, IsStationStep, IsHomeStep}

-- each label's paid sum is the price sum of its set
abbrev pub ArePriced : Section → Type 0
ArePriced s = (l : Label) → Contains s.labels l → l.paid ≡ price_sum s.prices l.served

-- coverage with price sums of sets in place of paid sums
pub record IsAsGoodByPrices (s : Section) (a b : State) : Type 0 where
  pub last : a.last ≡ b.last
  pub node : a.node ≡ b.node
  pub served : IsWithin a.served b.served
  pub level : b.level ≤ a.level
  pub time : a.time ≤ b.time
  pub cost : (pos (s.weight * a.time) -ℤ price_sum s.prices a.served)
      ≤ℤ (pos (s.weight * b.time) -ℤ price_sum s.prices b.served)

abbrev pub IsCoveredByPrices : Section → State → Type 0
IsCoveredByPrices s b =
    (l : Label) × (Contains s.labels l) ×
    ((y : ℕ) × (IsLevel l y) × (IsAsGoodByPrices s (state_at l y) b))

-- closed lists with price sums of sets in place of paid sums
pub record IsClosedByPrices (g : Network) (s : Section) : Type 0 where
  pub begins : IsCoveredByPrices s (start g)
  pub customer : (l : Label) (y x : ℕ) → Contains s.labels l → IsLevel l y →
      IsCustomerStep g s (state_at l y) x
      → IsCoveredByPrices s (at_customer g s (state_at l y) x)
  pub station : (l : Label) (y x z : ℕ) → Contains s.labels l → IsLevel l y →
      IsStationStep g (state_at l y) x z
      → IsCoveredByPrices s (at_station g (state_at l y) x z)
  pub home : (l : Label) (y : ℕ) → Contains s.labels l → IsLevel l y → IsHomeStep g s (state_at l y)
      → price_sum s.prices l.served ≤ℤ pos (s.weight * time_at g (state_at l y) 0)
