-- What contracts see of the routes that keep a node's pairs.
use Rattle.std.specs.Prelude.{◌≡◌, ◌≤◌, length}
use Rattle.instance_reader.specs.Instance.{customer_nodes, most_customers}
use Rattle.route_pool.specs.Pool.{IsPool}
use Rattle.column_pool.specs.Nodes.{Node}
use Rattle.column_pool.specs.declared.earners.NodeEarners.TheInside.{Inside}

abbrev pub node_of : Inside → Node
node_of e = record { network = e.inst.now; pairs = e.pairs.now }

pub record IsEarnersOf (e : Inside) : Type 0 where
  pub few : length (customer_nodes e.inst.now) ≤ most_customers
  pub pairs : e.pairs.now.customers ≡ length (customer_nodes e.inst.now)
  pub pool : IsPool e.inst.now e.pool.now
