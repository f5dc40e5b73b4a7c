use Rattle.std.proofs.Common.{arith}
use Rattle.std.proofs.lemmas.Grind.{common_steps}
use Rattle.bound_certificate.proofs.text.reading.section.take_sections.Goals as goal

pub returns-clause-ok : goal.returns-clause-ok
returns-clause-ok = grind (arith, common_steps)

pub returns-clause-fault : goal.returns-clause-fault
returns-clause-fault = grind (arith, common_steps)
