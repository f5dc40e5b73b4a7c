-- Which near proofs, as they are written, have a text on a network. And the wider language of what
-- may begin such a text: each number is in its range by itself, without the rules over several
-- numbers.
use Rattle.std.specs.Prelude.{◌≡◌, ℕ, ◌+◌, ◌≤◌, true, List, length, nat_lt}
use Rattle.std.specs.List.{All}
use Rattle.customer_sets.specs.CustSet.{has}
use Rattle.ev_model.specs.Network.{Network, node_count}
use Rattle.ev_text.specs.Texts.{AreLooseRun, AreRun, ConsLoose}
use Rattle.ev_text.specs.Numbers.{Keeping, UpTo}
use Rattle.route_plan.specs.Limits.{greatest_number}
use Rattle.certificate_parts.specs.Limits.{greatest_bound, most_items}
use Rattle.certificate_parts.specs.Ranges.{ColumnFits, customer_count}
use Rattle.certificate_parts.specs.Written.{customer_node}
use Rattle.certificate_parts.specs.WrittenRanges.{BoundIs, PointsAre, PointsLoose, SetIs, SetLoose}
use Rattle.near_proof.specs.Ranges.{greatest_near_price, tight_count}
use Rattle.near_text.specs.Written.{WrittenNear, WrittenNearLabel}

-- the near set of the customer with a number, which has the customer
pub record NearSetIs (g : Network) (c : ℕ) (nodes : List ℕ) : Type 0 where
  pub set : SetIs g nodes
  pub own : has nodes (customer_node g c) ≡ true

abbrev pub next_number : ℕ → List ℕ → ℕ
next_number c set = c + 1

-- a near set has a customer
abbrev pub NearSetLoose : List ℕ → Type 0
NearSetLoose nodes = ConsLoose (UpTo greatest_number) (All (UpTo greatest_number)) nodes

pub record NearLabelIs (g : Network) (l : WrittenNearLabel) : Type 0 where
  pub node : Keeping greatest_number (λ n. nat_lt n (node_count g)) l.node
  pub memory : SetIs g l.memory
  pub count : l.count ≤ customer_count g
  pub earned : l.earned ≤ greatest_bound
  pub points : PointsAre g l.points

pub record NearLabelLoose (g : Network) (l : WrittenNearLabel) : Type 0 where
  pub node : l.node ≤ greatest_number
  pub memory : SetLoose l.memory
  pub count : l.count ≤ customer_count g
  pub earned : l.earned ≤ greatest_bound
  pub points : PointsLoose g l.points

pub record NearIs (g : Network) (w : WrittenNear) : Type 0 where
  pub bound : BoundIs w.bound
  pub weight : w.weight ≤ 1
  pub prices : All (UpTo greatest_near_price) w.prices
  pub one_price : length w.prices ≡ customer_count g
  pub sets : AreRun (NearSetIs g) next_number (customer_count g) 0 w.sets
  pub few : length w.labels ≤ most_items
  pub labels : All (NearLabelIs g) w.labels
  pub tight : All ColumnFits w.tight
  pub one_tight : length w.tight ≡ tight_count (customer_count g) w.bound

pub record NearLoose (g : Network) (w : WrittenNear) : Type 0 where
  pub bound : BoundIs w.bound
  pub weight : w.weight ≤ 1
  pub prices : AreLooseRun (UpTo greatest_near_price) (customer_count g) w.prices
  pub sets : AreLooseRun NearSetLoose (customer_count g) w.sets
  pub few : length w.labels ≤ most_items
  pub labels : AreLooseRun (NearLabelLoose g) (length w.labels) w.labels
  pub tight : AreLooseRun ColumnFits (tight_count (customer_count g) w.bound) w.tight
