use Rattle.std.proofs.Common.{◌≡◌, ◌≤◌, ◌^◌, length, unsigned_abs}
use Rattle.std.specs.List.{All}
use Rattle.tests_master.proofs.prices.equal_prices.Given as goal

abbrev pub invariant-loop : goal.invariant-loop
invariant-loop l = record {
  count : length l.of.items ≡ l.counter;
  small : All (λ price. unsigned_abs price ≤ 2 ^ 84) l.of.items;
}
