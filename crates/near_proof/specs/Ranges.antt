-- The ranges of a near proof: which numbers may stand where, on a network.
use Rattle.std.specs.Prelude.{◌≡◌, ℕ, ◌<◌, ◌≤◌, ◌^◌, true, List, Option, None, Some, IfSome, length, slice_get}
use Rattle.std.specs.List.{All}
use Rattle.charge_curve.specs.Points.{ArePoints}
use Rattle.customer_sets.specs.CustSet.{has}
use Rattle.ev_model.specs.Network.{Network, node_count}
use Rattle.certificate_parts.specs.Limits.{greatest_bound, most_items}
use Rattle.certificate_parts.specs.Ranges.{ColumnFits, customer_count, PointFits}
use Rattle.near_proof.specs.declared.proof.NearLabel.{NearLabel}
use Rattle.near_proof.specs.declared.proof.NearProof.{NearProof}

-- the greatest price of a customer
abbrev pub greatest_near_price : ℕ
greatest_near_price = 10 ^ 18

-- each is one of the customers, by number
abbrev pub AreAmong : ℕ → List ℕ → Type 0
AreAmong customers set = (c : ℕ) → has set c ≡ true → c < customers

-- a near set for each customer, which has the customer
pub record SetsFit (customers : ℕ) (sets : List (List ℕ)) : Type 0 where
  pub one_set : length sets ≡ customers
  pub among : All (AreAmong customers) sets
  pub own : (c : ℕ) (set : List ℕ) → slice_get sets c ≡ Some set → has set c ≡ true

pub record NearLabelFits (g : Network) (l : NearLabel) : Type 0 where
  pub node : l.node < node_count g
  pub memory : AreAmong (customer_count g) l.memory
  pub count : l.count ≤ customer_count g
  pub earned : l.earned ≤ greatest_bound
  pub valid : ArePoints l.value
  pub points : All (PointFits g) l.value

-- so many tight routes are listed: one for each customer, none where there is no bound
abbrev pub tight_count : ℕ → Option ℕ → ℕ
tight_count customers None = 0
tight_count customers (Some bound) = customers

pub record NearFits (g : Network) (p : NearProof) : Type 0 where
  pub bound : IfSome p.bound (λ b. b ≤ greatest_bound)
  pub weight : p.weight ≤ 1
  pub one_price : length p.prices ≡ customer_count g
  pub prices : All (λ price. price ≤ greatest_near_price) p.prices
  pub sets : SetsFit (customer_count g) p.sets
  pub few : length p.labels ≤ most_items
  pub labels : All (NearLabelFits g) p.labels
  pub one_tight : length p.tight ≡ tight_count (customer_count g) p.bound
  pub tight : All ColumnFits p.tight
