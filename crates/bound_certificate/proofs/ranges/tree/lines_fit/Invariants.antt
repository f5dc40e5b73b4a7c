use Rattle.std.proofs.Common.{take}
use Rattle.std.specs.List.{All}
use Rattle.bound_certificate.specs.Ranges.{LineFits}
use Rattle.bound_certificate.proofs.ranges.tree.lines_fit.Given as goal

abbrev pub invariant-loop-line : goal.invariant-loop-line
invariant-loop-line l = All (LineFits l.customers l.sections) (take l.line-index l.lines)
