use Rattle.std.proofs.Common.{arith}
use Rattle.std.proofs.lemmas.Grind.{common_steps}
use Rattle.mixed_text.proofs.writing.write_body.Goals as goal

pub write_kinds-requires : goal.write_kinds-requires
write_kinds-requires = grind (arith, common_steps)

pub returns : goal.returns
returns = grind (arith, common_steps)
