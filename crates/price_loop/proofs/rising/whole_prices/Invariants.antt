use Rattle.std.proofs.Common.{◌≡◌, ◌++◌, ◌≤◌, ◌^◌, drop, map, pos, unsigned_abs}
use Rattle.std.specs.List.{All}
use Rattle.price_loop.proofs.rising.whole_prices.Given as goal

abbrev pub invariant-loop-price : goal.invariant-loop-price
invariant-loop-price l = record {
  of : l.prices.items ++ map pos (drop l.price-index l.of) ≡ map pos l.of;
  small : All (λ price. unsigned_abs price ≤ 2 ^ 84) l.prices.items;
}
