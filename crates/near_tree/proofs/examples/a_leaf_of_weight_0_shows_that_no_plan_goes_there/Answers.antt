use Rattle.std.proofs.Common.{refl, None, pos, Some}
use Rattle.near_tree.specs.Examples.OutOfReach.{out_of_reach, priced_at}
use Rattle.near_tree.specs.Examples.ThreeCustomers.{by_routes, three_customers}
use Rattle.near_tree.specs.Trees.{leaf}
use Rattle.near_tree.proofs.Test.{accepted}
use Rattle.near_tree.proofs.examples.a_leaf_of_weight_0_shows_that_no_plan_goes_there.Goals as goal

pub returns-clause-bound : goal.returns-clause-bound
returns-clause-bound c = accepted (three_customers 10) (Some 50) by_routes refl

pub returns-clause-none : goal.returns-clause-none
returns-clause-none c = accepted out_of_reach None (leaf (priced_at (pos 1))) refl
