use Rattle.fleet_model.proofs.Leaves.{tree_bound, tree_none}
use Rattle.fleet_model.proofs.laws.a_fleet_costs_the_bound_of_a_tree.Goals as goal

pub returns-clause-bound : goal.returns-clause-bound
returns-clause-bound c = tree_bound

pub returns-clause-none : goal.returns-clause-none
returns-clause-none c = tree_none
