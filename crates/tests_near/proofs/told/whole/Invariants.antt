use Rattle.std.proofs.Common.{◌≡◌, ◌≤◌, ◌^◌, length}
use Rattle.std.specs.List.{All}
use Rattle.tests_near.proofs.told.whole.Given as goal

abbrev pub invariant-loop-price : goal.invariant-loop-price
invariant-loop-price l = record {
  long : length l.whole.items ≡ l.price-index;
  small : All (λ price. price ≤ 10 ^ 18) l.whole.items;
}
