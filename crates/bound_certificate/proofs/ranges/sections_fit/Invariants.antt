use Rattle.std.proofs.Common.{take}
use Rattle.std.specs.List.{All}
use Rattle.bound_certificate.specs.Ranges.{SectionFits}
use Rattle.bound_certificate.proofs.ranges.sections_fit.Given as goal

abbrev pub invariant-loop-section : goal.invariant-loop-section
invariant-loop-section l = All (SectionFits l.inst) (take l.section-index l.sections)
