use Rattle.std.proofs.Common.{◌-◌}
use Rattle.near_text.proofs.PriceRows.{ArePricesTo}
use Rattle.near_text.proofs.reading.prices.take_each_price.Given as goal

abbrev pub invariant-loop : goal.invariant-loop
invariant-loop l = ArePricesTo l.fn.scan l.count l.prices.items (l.count - l.counter) l.scan
