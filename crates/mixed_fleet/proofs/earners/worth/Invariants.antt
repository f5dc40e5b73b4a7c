use Rattle.std.proofs.Common.{◌≡◌, ◌+◌, ◌*◌, ◌^◌, ◌≤◌, drop}
use Rattle.price_loop.specs.Problems.{worth}
use Rattle.mixed_fleet.proofs.earners.worth.Given as goal

abbrev pub invariant-loop-number : goal.invariant-loop-number
invariant-loop-number l = record {
  sum : l.sum + worth l.of (drop l.number-index l.numbers) ≡ worth l.of l.numbers;
  small : l.sum ≤ l.number-index * 2 ^ 64;
}
