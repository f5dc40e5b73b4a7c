use Rattle.std.proofs.Common.{◌≡◌, ◌+◌, ◌*◌, ◌≤◌, ◌^◌, drop}
use Rattle.near_proof.specs.Terms.{earned_by}
use Rattle.near_proof.proofs.earnings.earned_by.Given as goal

abbrev pub invariant-loop-customer : goal.invariant-loop-customer
invariant-loop-customer l = record {
  told : l.earned + earned_by l.prices (drop l.customer-index l.customers) ≡ earned_by l.prices l.customers;
  small : l.earned ≤ l.customer-index * 2 ^ 64;
}
