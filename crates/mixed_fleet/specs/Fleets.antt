-- Which kinds of vehicles a fleet may be planned for.
use Rattle.std.specs.Prelude.{◌≤◌, List, length}
use Rattle.std.specs.List.{All}
use Rattle.ev_model.specs.Network.{IsNetwork, Network}
use Rattle.instance_reader.specs.Instance.{customer_nodes, most_customers}
use Rattle.mixed_model.specs.Kinds.{AreKinds, first_of}

-- kinds of vehicles that agree, each with a network, and not too many customers for a set
pub record AreFleetKinds (kinds : List Network) : Type 0 where
  pub are : AreKinds kinds
  pub networks : All IsNetwork kinds
  pub few : length (customer_nodes (first_of kinds)) ≤ most_customers
