use Rattle.near_tree.proofs.Leaves.{tree_bound}
use Rattle.near_tree.proofs.laws.a_fleet_costs_the_bound_of_a_near_tree.Goals as goal

pub returns : goal.returns
returns c = tree_bound
