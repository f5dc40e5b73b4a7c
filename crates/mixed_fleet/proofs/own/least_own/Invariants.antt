use Rattle.mixed_fleet.specs.Own.{IsLeastBelow}
use Rattle.mixed_fleet.proofs.own.least_own.Given as goal

abbrev pub invariant-loop-kind : goal.invariant-loop-kind
invariant-loop-kind l = IsLeastBelow l.kinds l.kind l.node l.least
