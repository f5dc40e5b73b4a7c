-- The labels of a search as a section: what a list of labels has to be closed under, and its ranges.
use Rattle.std.specs.Prelude.{ℕ, ◌<◌, ◌≤◌, List, map, ℤ, pos}
use Rattle.customer_sets.specs.Pairs.{allows_of, ForbiddenPairs}
use Rattle.dominance.specs.LevelTimes.{IsLevel}
use Rattle.ev_model.specs.Network.{Network, node_count}
use Rattle.fleet_model.specs.Labels.{Label as PaidLabel}
use Rattle.fleet_model.specs.Prices.{priced}
use Rattle.fleet_model.specs.Section.{Section}
use Rattle.piece_fn.specs.PieceFn.{level_times}
use Rattle.piece_fn.specs.declared.label.Label.{Label}

-- a label with a time for each level, before it has paid
abbrev pub unpaid : Label → PaidLabel
unpaid l = record {
  last = l.last;
  node = l.node;
  served = l.set;
  paid = pos 0;
  first = (level_times l.value).first;
  times = (level_times l.value).times;
}

-- a label has paid the price sum of its set
abbrev pub paid_label : List ℤ → Label → PaidLabel
paid_label prices l = priced prices (unpaid l)

-- labels under a weight, prices by customer number, and forbidden pairs
abbrev pub section_of : ForbiddenPairs → ℕ → List ℤ → List Label → Section
section_of pairs weight prices labels = record {
  weight = weight;
  prices = prices;
  allows = allows_of pairs;
  labels = map (paid_label prices) labels;
}

-- a label's nodes are in the network, and none of its levels is above full
pub record IsLabelOf (g : Network) (l : Label) : Type 0 where
  pub last : l.last < node_count g
  pub node : l.node < node_count g
  pub levels : (level : ℕ) → IsLevel (level_times l.value) level → level ≤ g.capacity
