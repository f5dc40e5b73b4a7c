use Rattle.ev_fleet.specs.Splitting.{MayChoose}
use Rattle.ev_fleet.proofs.pair.nearest.Given as goal

abbrev pub invariant-loop-share : goal.invariant-loop-share
invariant-loop-share l = MayChoose l.tree l.key l.best
