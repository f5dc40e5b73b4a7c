use Rattle.std.proofs.Common.{◌≡◌, [], drop}
use Rattle.price_loop.specs.Columns.{set_of}
use Rattle.mixed_fleet.proofs.earners.set_of.Given as goal

abbrev pub invariant-loop-number : goal.invariant-loop-number
invariant-loop-number l = set_of l.set (drop l.number-index l.numbers) ≡ set_of [] l.numbers
