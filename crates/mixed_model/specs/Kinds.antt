-- Kinds of vehicles (the heterogeneous fleet of Golden, Assad, Levy, Gheysens 1984): each kind is a
-- network of its own over the same nodes, with its own battery, energies, times and curves.
use Rattle.std.specs.Prelude.{◌≡◌, ℕ, ◌≤◌, List, [], length, slice_index_or}
use Rattle.std.specs.List.{All}
use Rattle.ev_model.specs.Network.{Network, node_count}
use Rattle.instance_reader.specs.Instance.{customer_nodes}

-- a network without a node: what a number stands for that is no kind's
abbrev pub no_network : Network
no_network = record {
  capacity = 0;
  reserve = 0;
  home_level = 0;
  energies = [];
  times = [];
  process_times = [];
  curves = [];
  plug_times = [];
  denominator = 0;
  limit = 0;
}

-- the network of the kind with a number
abbrev pub network_of : List Network → ℕ → Network
network_of kinds kind = slice_index_or kinds kind no_network

-- the network of the first kind, whose nodes, customers and denominator are those of all
abbrev pub first_of : List Network → Network
first_of kinds = network_of kinds 0

-- a kind has the nodes, the customers and the denominator of another
pub record Agrees (first g : Network) : Type 0 where
  pub nodes : node_count g ≡ node_count first
  pub customers : customer_nodes g ≡ customer_nodes first
  pub denominator : g.denominator ≡ first.denominator

-- the most kinds of a fleet
abbrev pub most_kinds : ℕ
most_kinds = 8

-- the kinds of a fleet: one at least, all of which agree with the first
pub record AreKinds (kinds : List Network) : Type 0 where
  pub some : 1 ≤ length kinds
  pub few : length kinds ≤ most_kinds
  pub agree : All (Agrees (first_of kinds)) kinds
