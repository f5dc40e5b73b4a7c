use Rattle.std.proofs.Common.{◌≡◌, ◌≤◌, ◌*◌, ◌^◌, ◌+ℤ◌, drop, unsigned_abs}
use Rattle.customer_sets.specs.CustSet.{has}
use Rattle.fleet_model.specs.Equations.{total_from}
use Rattle.closed_lists.proofs.paid.price_sum.Given as goal

abbrev pub invariant-loop-c : goal.invariant-loop-c
invariant-loop-c l = record {
  sum : l.sum +ℤ total_from (has l.set) l.c (drop l.c l.prices) ≡ total_from (has l.set) 0 l.prices;
  small : unsigned_abs l.sum ≤ l.c * 2 ^ 84;
}
