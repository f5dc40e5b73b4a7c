use Rattle.fleet_model.proofs.Leaves.{tree_keeps}
use Rattle.fleet_model.proofs.laws.a_fleet_keeps_some_leaf.Goals as goal

pub returns : goal.returns
returns c = tree_keeps
