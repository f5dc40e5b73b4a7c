use Rattle.std.proofs.Common.{arith}
use Rattle.std.proofs.lemmas.Grind.{common_steps}
use Rattle.bound_certificate.proofs.text.writing.write_body.Goals as goal

pub write_sections-requires-clause-fits : goal.write_sections-requires-clause-fits
write_sections-requires-clause-fits = grind (arith, common_steps)

pub write_tree-requires : goal.write_tree-requires
write_tree-requires = grind (arith, common_steps)

pub returns : goal.returns
returns = grind (arith, common_steps)
