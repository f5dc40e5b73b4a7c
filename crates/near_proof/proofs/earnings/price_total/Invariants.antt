use Rattle.std.proofs.Common.{◌≡◌, ◌+◌, ◌*◌, ◌≤◌, ◌^◌, drop}
use Rattle.near_proof.specs.Terms.{price_total}
use Rattle.near_proof.proofs.earnings.price_total.Given as goal

abbrev pub invariant-loop-price : goal.invariant-loop-price
invariant-loop-price l = record {
  told : l.total + price_total (drop l.price-index l.prices) ≡ price_total l.prices;
  small : l.total ≤ l.price-index * 2 ^ 64;
}
