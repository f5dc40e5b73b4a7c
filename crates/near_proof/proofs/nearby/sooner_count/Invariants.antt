use Rattle.std.proofs.Common.{◌≡◌, ◌+◌, ◌≤◌, drop}
use Rattle.near_proof.specs.NearSets.{sooner_count}
use Rattle.near_proof.proofs.nearby.sooner_count.Given as goal

abbrev pub invariant-loop-customer : goal.invariant-loop-customer
invariant-loop-customer l = record {
  told : l.count + sooner_count l.inst l.from l.other (drop l.customer-index l.customers) ≡ sooner_count l.inst l.from l.other l.customers;
  within : l.count ≤ l.customer-index;
}
