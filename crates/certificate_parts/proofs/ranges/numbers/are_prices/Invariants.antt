use Rattle.std.proofs.Common.{take}
use Rattle.std.specs.List.{All}
use Rattle.certificate_parts.specs.Ranges.{IsPrice}
use Rattle.certificate_parts.proofs.ranges.numbers.are_prices.Given as goal

abbrev pub invariant-loop-price : goal.invariant-loop-price
invariant-loop-price l = All (IsPrice) (take l.price-index l.prices)
