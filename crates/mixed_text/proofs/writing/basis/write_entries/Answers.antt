use Rattle.std.proofs.Common.{arith}
use Rattle.std.proofs.lemmas.Grind.{common_steps}
use Rattle.mixed_text.proofs.writing.basis.write_entries.Goals as goal

pub returns : goal.returns
returns = grind (arith, common_steps)

pub loop-entry-preserved : goal.loop-entry-preserved
loop-entry-preserved = grind (arith, common_steps)
