-- What is asked of a list of labels: whether it is closed, on a network, under pairs, a weight and prices.
use Rattle.std.specs.Prelude.{◌≡◌, ℕ, ◌^◌, ◌≤◌, List, All, length, ℤ, unsigned_abs}
use Rattle.customer_sets.specs.Pairs.{ForbiddenPairs}
use Rattle.ev_model.specs.Network.{Network}
use Rattle.fleet_model.specs.Section.{Section}
use Rattle.instance_reader.specs.Instance.{customer_nodes, most_customers}
use Rattle.piece_fn.specs.declared.label.Label.{Label}
use Rattle.closed_lists.specs.Sections.{IsLabelOf, section_of}

pub record Question : Type 0 where
  pub network : Network
  pub pairs : ForbiddenPairs
  pub weight : ℕ
  pub prices : List ℤ
  pub labels : List Label

abbrev pub section : Question → Section
section q = section_of q.pairs q.weight q.prices q.labels

-- the ranges in which it may be asked
pub record IsQuestion (q : Question) : Type 0 where
  pub few : length (customer_nodes q.network) ≤ most_customers
  pub pairs : q.pairs.customers ≡ length (customer_nodes q.network)
  pub weight : q.weight ≤ 2 ^ 40
  pub one_price : length q.prices ≡ length (customer_nodes q.network)
  pub small_prices : All (λ price. unsigned_abs price ≤ 2 ^ 84) q.prices
  pub labels : All (IsLabelOf q.network) q.labels
