use Rattle.std.proofs.Common.{◌↔◌, drop}
use Rattle.certificate_parts.specs.Ranges.{AreDifferent}
use Rattle.certificate_parts.proofs.ranges.basis.are_different.Given as goal

abbrev pub invariant-loop-at : goal.invariant-loop-at
invariant-loop-at l = AreDifferent (drop l.at l.basis) ↔ AreDifferent l.basis
