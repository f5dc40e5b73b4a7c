use Rattle.std.proofs.Common.{◌≡◌, ◌∙◌, ◌<◌, All, true, ap, subst, sym}
use Rattle.std.specs.List.{range_with_len}
use Rattle.std.specs.List.Sorted.{IsStrictlyIncreasing}
use Rattle.ev_model.specs.Network.{is_customer, node_count}
use Rattle.instance_reader.proofs.InstanceLemmas.{All-filter-true, customers_known, customers_rise}
use Rattle.instance_reader.specs.Instance.{customer_nodes}
use Rattle.instance_reader.proofs.instance.Instance.customers.Goals as goal

is : (c : goal.After-as_slice) → c.as_slice.result.now ≡ customer_nodes c.args.self.now
is c = c.as_slice.ensures.value ∙ c.self.invariant.customers ∙ ap customer_nodes c.self.view_is

pub returns-clause-rising : goal.returns-clause-rising
returns-clause-rising c = subst IsStrictlyIncreasing (sym (is c)) (customers_rise c.args.self.now)

pub returns-clause-known : goal.returns-clause-known
returns-clause-known c = subst (All (λ node. node < node_count c.args.self.now)) (sym (is c)) (customers_known c.args.self.now)

pub returns-clause-customers : goal.returns-clause-customers
returns-clause-customers c =
    subst (All (λ node. is_customer c.args.self.now node ≡ true)) (sym (is c))
    (All-filter-true (is_customer c.args.self.now) (range_with_len 0 (node_count c.args.self.now)))
