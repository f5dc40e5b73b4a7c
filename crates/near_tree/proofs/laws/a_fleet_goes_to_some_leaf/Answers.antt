use Rattle.near_tree.proofs.Descent.{to_some_leaf}
use Rattle.near_tree.proofs.laws.a_fleet_goes_to_some_leaf.Goals as goal

pub returns : goal.returns
returns c = to_some_leaf
