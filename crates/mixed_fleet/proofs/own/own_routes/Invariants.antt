use Rattle.std.proofs.Common.{take}
use Rattle.std.specs.List.{All}
use Rattle.instance_reader.specs.Instance.{customer_nodes}
use Rattle.mixed_model.specs.Kinds.{first_of}
use Rattle.mixed_fleet.specs.Own.{AreOwnOf}
use Rattle.mixed_fleet.specs.Searched.{IsSearched}
use Rattle.mixed_fleet.proofs.own.own_routes.Given as goal

abbrev pub invariant-loop-node : goal.invariant-loop-node
invariant-loop-node l = record {
  routes : All (IsSearched l.kinds) l.own.routes.items;
  own : AreOwnOf l.kinds (customer_nodes (first_of l.kinds)) (take l.node-index l.customers) l.own;
}
