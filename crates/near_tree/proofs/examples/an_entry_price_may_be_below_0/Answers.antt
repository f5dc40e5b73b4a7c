use Rattle.std.proofs.Common.{refl, Some}
use Rattle.near_tree.specs.Examples.ThreeCustomers.{far_apart, three_customers}
use Rattle.near_tree.proofs.Test.{accepted}
use Rattle.near_tree.proofs.examples.an_entry_price_may_be_below_0.Goals as goal

pub returns-clause-bound : goal.returns-clause-bound
returns-clause-bound c = accepted (three_customers 30) (Some 60) far_apart refl
