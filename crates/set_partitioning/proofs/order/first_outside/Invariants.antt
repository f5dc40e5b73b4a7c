use Rattle.std.proofs.Common.{◌≡◌, drop}
use Rattle.set_partitioning.specs.FirstCustomers.{first_outside}
use Rattle.set_partitioning.proofs.order.first_outside.Given as goal

abbrev pub invariant-loop-stop : goal.invariant-loop-stop
invariant-loop-stop l = first_outside (drop l.stop-index l.stops) ≡ first_outside l.stops
