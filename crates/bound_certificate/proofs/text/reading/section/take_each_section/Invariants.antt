use Rattle.std.proofs.Common.{◌-◌}
use Rattle.std.specs.List.{All}
use Rattle.bound_certificate.specs.Kept.{IsKept}
use Rattle.bound_certificate.specs.Ranges.{SectionFits}
use Rattle.bound_certificate.specs.Reading.{section_at}
use Rattle.bound_certificate.specs.Written.{written_section}
use Rattle.certificate_parts.proofs.ItemLoops.{AreTakenTo}
use Rattle.bound_certificate.proofs.text.reading.section.take_each_section.Given as goal

abbrev pub invariant-loop : goal.invariant-loop
invariant-loop l = AreTakenTo (section_at l.inst) (written_section l.inst) l.fn.scan l.count l.sections.items (l.count - l.counter) l.scan × All (SectionFits l.inst) l.sections.items × All IsKept l.sections.items
