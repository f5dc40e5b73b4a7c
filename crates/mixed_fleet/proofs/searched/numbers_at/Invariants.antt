use Rattle.std.proofs.Common.{◌≡◌, ◌++◌, drop, map}
use Rattle.fleet_model.specs.Places.{customer_number}
use Rattle.mixed_fleet.proofs.searched.numbers_at.Given as goal

abbrev pub invariant-loop-node : goal.invariant-loop-node
invariant-loop-node l = l.numbers.items ++ map (customer_number l.inst) (drop l.node-index l.order) ≡ map (customer_number l.inst) l.order
