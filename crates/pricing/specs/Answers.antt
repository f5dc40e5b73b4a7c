-- What pricing answers.
use Rattle.std.specs.Prelude.{◌≡◌, ℕ, ◌<◌, ◌≤◌, ◌⊎◌, List, true, length}
use Rattle.std.specs.List.{All}
use Rattle.charge_curve.specs.Points.{ArePoints}
use Rattle.customer_sets.specs.CustSet.{has}
use Rattle.dominance.specs.LevelTimes.{IsLevel, time_at}
use Rattle.ev_model.specs.Network.{is_customer, Network, node_count, scaled_limit}
use Rattle.fleet_model.specs.ClosedList.{IsClosed}
use Rattle.instance_reader.specs.Instance.{customer_nodes}
use Rattle.piece_fn.specs.PieceFn.{level_times}
use Rattle.piece_fn.specs.declared.label.Label.{Label}
use Rattle.closed_lists.specs.Questions.{Question}
use Rattle.closed_lists.specs.Sections.{section_of}
use Rattle.pricing.specs.Better.{IsBetter}
use Rattle.pricing.specs.declared.priced.Priced.{Priced}
use Rattle.pricing.specs.declared.priced.Priced.TheVariants.{Better, Closed}
use Rattle.pricing.specs.declared.priced.PricedRoute.{PricedRoute}

-- the numbers of a label are in range: its last customer or the depot, its node, its customers, its levels
-- and their times
pub record IsInRange (g : Network) (l : Label) : Type 0 where
  pub last : (l.last ≡ 0) ⊎ ((l.last < node_count g) × (is_customer g l.last ≡ true))
  pub node : l.node < node_count g
  pub set : (c : ℕ) → has l.set c ≡ true → c < length (customer_nodes g)
  pub levels : (level : ℕ) → IsLevel (level_times l.value) level → level ≤ g.capacity
  pub times : (level : ℕ) → IsLevel (level_times l.value) level →
      time_at (level_times l.value) level ≤ scaled_limit g

-- a supporting point of a label: a level with its time
abbrev pub IsPointOf : Network → ℕ × ℕ → Type 0
IsPointOf g p = (p.0 ≤ g.capacity) × (p.1 ≤ scaled_limit g)

-- the supporting points of a label are those of a value, and each is in range
pub record HasPoints (g : Network) (l : Label) : Type 0 where
  pub valid : ArePoints l.value
  pub points : All (IsPointOf g) l.value

abbrev pub IsBetterRoute : Question → PricedRoute → Type 0
IsBetterRoute q r = IsBetter q r.plan.stops r.order.items

-- labels that are closed, and in range
pub record AreClosed (q : Question) (labels : List Label) : Type 0 where
  pub closed : IsClosed q.network (section_of q.pairs q.weight q.prices labels)
  pub ranges : All (IsInRange q.network) labels
  pub points : All (HasPoints q.network) labels

-- one or more routes that earn more than they take, or labels that show that there is none
abbrev pub IsPriced : Question → Priced → Type 0
IsPriced q (Better plan order further) =
    IsBetter q plan.stops order.items × All (IsBetterRoute q) further.items
IsPriced q (Closed labels) = AreClosed q labels.items
