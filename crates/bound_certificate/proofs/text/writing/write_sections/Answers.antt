use Rattle.std.proofs.Common.{arith}
use Rattle.std.proofs.lemmas.Grind.{common_steps}
use Rattle.bound_certificate.proofs.text.writing.write_sections.Goals as goal

pub returns : goal.returns
returns = grind (arith, common_steps)
