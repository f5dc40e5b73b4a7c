-- What is asked of the least times of orders.
use Rattle.std.specs.Prelude.{◌≢◌, ℕ, ◌+◌, ◌<◌, ◌≤◌, List, [], Option, None, Some, Vec}
use Rattle.std.specs.Global.{Global}
use Rattle.std.specs.List.{All}
use Rattle.ev_model.specs.Fastest.{HasNoPlan}
use Rattle.ev_model.specs.Network.{Network}
use Rattle.order_pricing.specs.Orders.{IsLeastTime, route_over}
use Rattle.order_pricing.specs.declared.known.Known.{Known}
use Rattle.order_pricing.specs.declared.known.Known.TheVariants.{Time, NotBelow}

-- no plan, from full, serves the customers in this order, of whom there are some
pub record HasNoTime (g : Network) (order : List ℕ) : Type 0 where
  pub some : order ≢ []
  pub none : HasNoPlan g (route_over order) g.capacity

-- where both orders have least times, these are together no less than a number
abbrev pub AreNoLess : Network → List ℕ → List ℕ → ℕ → Type 0
AreNoLess g first second than =
    (s t : ℕ) → IsLeastTime g first s → IsLeastTime g second t → than ≤ s + t

-- these are the least times of the two orders, and together less than a number
abbrev pub AreLess : Network → List ℕ → List ℕ → ℕ → ℕ × ℕ → Type 0
AreLess g first second than times =
    IsLeastTime g first times.0 × IsLeastTime g second times.1 × (times.0 + times.1 < than)

-- the least time of an order, or that it has none
abbrev pub IsTimeOf : Network → List ℕ → Option ℕ → Type 0
IsTimeOf g order None = HasNoTime g order
IsTimeOf g order (Some time) = IsLeastTime g order time

-- the least time of an order, which is below a bar, or that it has none that is
abbrev pub IsTimeBelow : Network → List ℕ → ℕ → Option ℕ → Type 0
IsTimeBelow g order bar None = (time : ℕ) → IsLeastTime g order time → bar ≤ time
IsTimeBelow g order bar (Some time) = IsLeastTime g order time × (time < bar)

-- what is known of the least time of an order
abbrev pub IsKnownOf : Network → List ℕ → Known → Type 0
IsKnownOf g order (Time time) = IsLeastTime g order time
IsKnownOf g order (NotBelow least) = (time : ℕ) → IsLeastTime g order time → least ≤ time

-- it tells the least time where that is below a bar, or that it isn't
abbrev pub Tells : ℕ → Known → Type 0
Tells bar (Time time) = Unit {0}
Tells bar (NotBelow least) = bar ≤ least

-- orders, each with what is known of it
abbrev pub AreKnown : Network → List (Vec ℕ Global × Known) → Type 0
AreKnown g entries = All (λ e. IsKnownOf g e.0.items e.1) entries
