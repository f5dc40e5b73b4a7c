use Rattle.near_tree.proofs.Leaves.{leaf_bound, leaf_none}
use Rattle.near_tree.proofs.laws.a_fleet_costs_the_bound_of_its_leaf.Goals as goal

pub returns-clause-bound : goal.returns-clause-bound
returns-clause-bound c = leaf_bound

pub returns-clause-none : goal.returns-clause-none
returns-clause-none c = leaf_none
