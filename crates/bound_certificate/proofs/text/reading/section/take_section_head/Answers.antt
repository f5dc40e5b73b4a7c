use Rattle.std.proofs.Common.{arith}
use Rattle.std.proofs.lemmas.Grind.{common_steps}
use Rattle.bound_certificate.proofs.text.reading.section.take_section_head.Goals as goal

pub returns-clause-weight : goal.returns-clause-weight
returns-clause-weight = grind (arith, common_steps)
