use Rattle.std.proofs.Common.{take}
use Rattle.std.specs.List.{All}
use Rattle.bound_certificate.specs.Kept.{IsKept}
use Rattle.ev_fleet.proofs.kept.know_sections.Given as goal

abbrev pub invariant-loop-section : goal.invariant-loop-section
invariant-loop-section l = All IsKept (take l.section-index l.sections)
