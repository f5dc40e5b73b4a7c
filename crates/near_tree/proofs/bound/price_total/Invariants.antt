use Rattle.std.proofs.Common.{◌≡◌, ◌≤◌, ◌*◌, ◌^◌, ◌+ℤ◌, drop, unsigned_abs}
use Rattle.fleet_model.specs.Prices.{price_total}
use Rattle.near_tree.proofs.bound.price_total.Given as goal

abbrev pub invariant-loop-c : goal.invariant-loop-c
invariant-loop-c l = record {
  sum : l.sum +ℤ price_total (drop l.c l.prices) ≡ price_total l.prices;
  small : unsigned_abs l.sum ≤ l.c * 2 ^ 84;
}
