use Rattle.std.proofs.Common.{◌≡◌, ◌+◌, drop}
use Rattle.charge_curve.specs.Faults.{first_fall}
use Rattle.charge_curve.proofs.fault.fall.Given as goal

-- what is left gives the answer for all
abbrev pub invariant-loop-index : goal.invariant-loop-index
invariant-loop-index l = first_fall (l.index + 1) (drop l.index l.points) ≡ first_fall 1 l.points
