use Rattle.std.proofs.Common.{◌≡◌, ◌+◌, drop}
use Rattle.charge_curve.specs.Faults.{first_faster}
use Rattle.charge_curve.proofs.fault.faster.Given as goal

-- what is left gives the answer for all
abbrev pub invariant-loop-index : goal.invariant-loop-index
invariant-loop-index l = first_faster (l.index + 2) (drop l.index l.points) ≡ first_faster 2 l.points
