use Rattle.std.proofs.Common.{◌≡◌, ◌∙◌, ◌∷◌, ◌++◌, [], Some, ap, true, false, sym, length, rules}
use Rattle.instance_reader.proofs.CustomersLemmas.{AreCustomers-customer, AreCustomers-other}
use Rattle.instance_reader.proofs.customers.numbered_customers.Goals as goal
use Rattle.instance_reader.proofs.customers.numbered_customers.Goals.{then-has_customer+in_ok-push+in_ok-push-2, else-has_customer+in_ok-push-3}
use Rattle.instance_reader.specs.Customers.{has_customer}

pub loop-node-preserved : goal.loop-node-preserved
loop-node-preserved c =
    elim c.if-has_customer.branch [
      | then-has_customer+in_ok-push+in_ok-push-2 w ↦
          let found : has_customer c.args.curve_numbers.now c.loop-node.node ≡ true = sym c.has_customer.ensures ∙ w.if-has_customer.true in
          let count : w.len.result ≡ length c.loop-node.nodes.items = search rules in
          AreCustomers-customer c.args.curve_numbers.now c.loop-node.node c.loop-node.nodes.items _ c.loop-node.numbers.items _ c.loop-node.invariant found
          (ap (λ v. v.items) w.nodes-is ∙ w.in_ok-push-2.ensures.items)
          (ap (λ v. v.items) w.numbers-is ∙ w.in_ok-push.ensures.items ∙ ap (λ n. c.loop-node.numbers.items ++ Some n ∷ []) count)
      | else-has_customer+in_ok-push-3 w ↦
          let none : has_customer c.args.curve_numbers.now c.loop-node.node ≡ false = sym c.has_customer.ensures ∙ w.if-has_customer.false in
          AreCustomers-other c.args.curve_numbers.now c.loop-node.node c.loop-node.nodes.items _ c.loop-node.numbers.items _ c.loop-node.invariant none
          (ap (λ v. v.items) w.nodes-is) (ap (λ v. v.items) w.numbers-is ∙ w.in_ok-push-3.ensures.items)
    ]
