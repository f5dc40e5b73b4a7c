-- What stands at a leaf of a tree: prices, near sets, and labels of near routes.
use Rattle.std.specs.Prelude.{ℕ, ℤ, List}
use Rattle.fleet_model.specs.Labels.{Label, State}

-- after whom a vehicle comes next: after the place whose customer it served last, the depot's where
-- it served nobody yet; or after anybody, where that is forgotten (`*`)
pub data Last : Type 0 where
  anybody : Last
  after : ℕ → Last

-- a vehicle on a near route: `served` are those who are remembered, `paid` is what was earned;
-- `last` of the state is 0
pub record LeafState : Type 0 where
  pub last : Last
  pub state : State

-- the same with a time at each level. At a customer's node the last is that customer, at a station
-- it may be any
pub record LeafLabel : Type 0 where
  pub last : Last
  pub label : Label

-- the weight of time; a price for each customer, and whom a vehicle that serves the customer goes
-- on to remember, by number; a price for the entries into each set that is counted above the leaf,
-- in the order in which they were first mentioned; the labels
pub record NearSection : Type 0 where
  pub weight : ℕ
  pub prices : List ℤ
  pub sets : List (List ℕ)
  pub entry_prices : List ℤ
  pub labels : List LeafLabel
