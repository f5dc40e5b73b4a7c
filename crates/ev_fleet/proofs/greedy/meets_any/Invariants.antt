use Rattle.std.proofs.Common.{◌≡◌, drop}
use Rattle.ev_fleet.specs.Greedy.{meets_any}
use Rattle.ev_fleet.proofs.greedy.meets_any.Given as goal

abbrev pub invariant-loop-other : goal.invariant-loop-other
invariant-loop-other l = meets_any (drop l.other-index l.routes) l.route ≡ meets_any l.routes l.route
