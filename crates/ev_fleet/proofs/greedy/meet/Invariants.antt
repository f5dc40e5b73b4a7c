use Rattle.std.proofs.Common.{◌≡◌, drop}
use Rattle.ev_fleet.specs.Greedy.{meet}
use Rattle.ev_fleet.proofs.greedy.meet.Given as goal

abbrev pub invariant-loop-stop : goal.invariant-loop-stop
invariant-loop-stop l = meet (drop l.stop-index l.stops) l.other.stops ≡ meet l.stops l.other.stops
