use Rattle.std.proofs.Common.{◌≡◌, drop}
use Rattle.ev_fleet.specs.Greedy.{visits}
use Rattle.ev_fleet.proofs.greedy.visits.Given as goal

abbrev pub invariant-loop-stop : goal.invariant-loop-stop
invariant-loop-stop l = visits l.node (drop l.stop-index l.stops) ≡ visits l.node l.stops
