use Rattle.instance_reader.specs.Customers.{AreCustomers}
use Rattle.instance_reader.proofs.customers.numbered_customers.Given as goal

abbrev pub invariant-loop-node : goal.invariant-loop-node
invariant-loop-node l = AreCustomers l.curve_numbers l.node l.nodes.items l.numbers.items
