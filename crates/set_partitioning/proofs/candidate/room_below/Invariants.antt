use Rattle.std.proofs.Common.{◌≡◌, drop}
use Rattle.set_partitioning.specs.Prices.{less_all}
use Rattle.set_partitioning.proofs.candidate.room_below.Given as goal

abbrev pub invariant-loop-price : goal.invariant-loop-price
invariant-loop-price l = less_all l.room (drop l.price-index l.prices) ≡ less_all l.initial.room l.prices
