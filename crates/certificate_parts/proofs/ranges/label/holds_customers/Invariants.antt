use Rattle.std.proofs.Common.{◌≡◌, ◌<◌, ℕ, true}
use Rattle.customer_sets.specs.CustSet.{IsCustomerSet, has}
use Rattle.certificate_parts.specs.Ranges.{customer_count}
use Rattle.certificate_parts.proofs.ranges.label.holds_customers.Given as goal

abbrev pub invariant-loop-number : goal.invariant-loop-number
invariant-loop-number l = record {
  low : (c : ℕ) → c < l.number → has l.set c ≡ true → c < customer_count l.inst;
  valid : 0 < l.number → IsCustomerSet l.set;
}
