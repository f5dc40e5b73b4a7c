use Rattle.ev_fleet.specs.Splitting.{MayChoose}
use Rattle.ev_fleet.proofs.pair.nearer_on.Given as goal

abbrev pub invariant-loop-stop : goal.invariant-loop-stop
invariant-loop-stop l = MayChoose l.tree l.key l.best
