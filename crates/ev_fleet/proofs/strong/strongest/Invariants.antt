use Rattle.ev_fleet.specs.Splitting.{IsChoice}
use Rattle.ev_fleet.proofs.strong.strongest.Given as goal

abbrev pub invariant-loop-choice : goal.invariant-loop-choice
invariant-loop-choice l = IsChoice l.tree l.key l.best
