use Rattle.std.proofs.Common.{◌≡◌, length, pos}
use Rattle.std.specs.List.{All}
use Rattle.near_tree.proofs.zero.no_prices.Given as goal

abbrev pub invariant-loop-number : goal.invariant-loop-number
invariant-loop-number l = record {
  one : length l.prices.items ≡ l._number;
  none : All (λ p. p ≡ pos 0) l.prices.items;
}
