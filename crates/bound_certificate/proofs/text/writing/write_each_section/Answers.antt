use Rattle.std.proofs.Common.{arith}
use Rattle.std.proofs.lemmas.Grind.{common_steps}
use Rattle.bound_certificate.proofs.text.writing.write_each_section.Goals as goal

pub write_section-requires-clause-fits : goal.write_section-requires-clause-fits
write_section-requires-clause-fits = grind (arith, common_steps)

pub returns : goal.returns
returns = grind (arith, common_steps)

pub loop-section-preserved : goal.loop-section-preserved
loop-section-preserved = grind (arith, common_steps)
