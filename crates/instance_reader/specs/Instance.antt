-- What callers see of an instance beside its network.
use Rattle.std.specs.Prelude.{◌≡◌, ℕ, ◌≤◌, List, Option, None, Some, zero, suc, false, true, filter, slice_get}
use Rattle.std.specs.List.{range_with_len}
use Rattle.ev_model.specs.Curve.{charge_time}
use Rattle.ev_model.specs.Network.{Network, curve_at, is_customer, node_count}
use Rattle.charge_curve.specs.Points.{last_level, time_on}
use Rattle.charge_curve.specs.Scaled.{breaks_of}

-- the customers' nodes in rising order; a customer's number is its index here
abbrev pub customer_nodes : Network → List ℕ
customer_nodes g = filter (is_customer g) (range_with_len 0 (node_count g))

-- the most customers of a fleet that is planned or judged, and so of a certificate
abbrev pub most_customers : ℕ
most_customers = 128

-- the number of the customer at a node; None exactly where no customer is there
abbrev pub IsCustomerNumber : Network → ℕ → Option ℕ → Type 0
IsCustomerNumber g node None = is_customer g node ≡ false
IsCustomerNumber g node (Some number) =
    (is_customer g node ≡ true) × (slice_get (customer_nodes g) number ≡ Some node)

-- the place of a node on a route: one more than the number of the customer there, 0 where no customer is
abbrev pub IsRoutePlace : Network → ℕ → ℕ → Type 0
IsRoutePlace g node zero = IsCustomerNumber g node None
IsRoutePlace g node (suc number) = IsCustomerNumber g node (Some number)

-- a scaled curve tells the charge times on breakpoints (time, charge), up to a battery of `capacity`
pub record TellsChargeTime (capacity denominator : ℕ) (points scaled : List (ℕ × ℕ)) : Type 0 where
  pub times : (level : ℕ) → level ≤ capacity →
      time_on scaled level ≡ charge_time denominator points level
  pub breaks : scaled ≡ breaks_of denominator capacity points
  pub full : last_level scaled ≡ capacity

-- the scaled curve is that of the station at the node
abbrev pub IsCurveAt : Network → ℕ → List (ℕ × ℕ) → Type 0
IsCurveAt g node scaled =
    (points : List (ℕ × ℕ)) × (curve_at g node ≡ Some points) ×
    TellsChargeTime g.capacity g.denominator points scaled
