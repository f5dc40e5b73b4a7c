-- The ranges of parts of a certificate: which numbers may stand where, on a network.
use Rattle.std.specs.Prelude.{◌≡◌, ℕ, ◌<◌, ◌≤◌, ◌⊎◌, Bool, true, false, ℤ, List, [], ◌∷◌, length, nat_eq, unsigned_abs}
use Rattle.std.specs.List.{All, list_any}
use Rattle.charge_curve.specs.Points.{ArePoints}
use Rattle.customer_sets.specs.CustSet.{has, IsCustomerSet}
use Rattle.ev_model.specs.Network.{Network, is_customer, node_count, scaled_limit}
use Rattle.instance_reader.specs.Instance.{customer_nodes}
use Rattle.piece_fn.specs.declared.label.Label.{Label}
use Rattle.route_plan.specs.PlanTexts.{FitsText}
use Rattle.route_plan.specs.declared.plan.RoutePlan.{RoutePlan}
use Rattle.certificate_parts.specs.Limits.{greatest_price, greatest_weight}
use Rattle.certificate_parts.specs.declared.entry.BasisEntry.{BasisEntry}
use Rattle.certificate_parts.specs.declared.entry.BasisEntry.TheVariants.{Helper, Column}

abbrev pub customer_count : Network → ℕ
customer_count g = length (customer_nodes g)

-- a number from 1 up to the greatest weight
pub record IsWeight (n : ℕ) : Type 0 where
  pub some : 1 ≤ n
  pub small : n ≤ greatest_weight

abbrev pub ColumnFits : RoutePlan → Type 0
ColumnFits p = FitsText p.stops

-- an entry of a basis over so many customers and listed columns
abbrev pub EntryFits : ℕ → ℕ → BasisEntry → Type 0
EntryFits customers columns (Helper c) = c < customers
EntryFits customers columns (Column k) = k < columns

abbrev pub same_entry : BasisEntry → BasisEntry → Bool
same_entry (Helper c) (Helper d) = nat_eq c d
same_entry (Helper c) (Column k) = false
same_entry (Column k) (Helper c) = false
same_entry (Column k) (Column l) = nat_eq k l

-- no entry is the same as one behind it
abbrev pub AreDifferent : List BasisEntry → Type 0
AreDifferent [] = Unit {0}
AreDifferent (entry ∷ entries) =
    (list_any (same_entry entry) entries ≡ false) × AreDifferent entries

-- as many entries as there are customers, no two of them the same
pub record BasisFits (customers columns : ℕ) (basis : List BasisEntry) : Type 0 where
  pub count : length basis ≡ customers
  pub entries : All (EntryFits customers columns) basis
  pub different : AreDifferent basis

abbrev pub IsPrice : ℤ → Type 0
IsPrice price = unsigned_abs price ≤ greatest_price

-- the node of the last customer of a route, or the depot
abbrev pub IsLast : Network → ℕ → Type 0
IsLast g node = (node ≡ 0) ⊎ ((node < node_count g) × (is_customer g node ≡ true))

-- a level of a label with its time
abbrev pub PointFits : Network → ℕ × ℕ → Type 0
PointFits g p = (p.0 ≤ g.capacity) × (p.1 ≤ scaled_limit g)

pub record LabelFits (g : Network) (l : Label) : Type 0 where
  pub last : IsLast g l.last
  pub node : l.node < node_count g
  pub set : (c : ℕ) → has l.set c ≡ true → c < customer_count g
  pub valid : ArePoints l.value
  pub points : All (PointFits g) l.value

-- the set of a label is a list of numbers below 128 in rising order
abbrev pub HasSet : Label → Type 0
HasSet l = IsCustomerSet l.set
