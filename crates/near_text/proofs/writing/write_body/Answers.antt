use Rattle.std.proofs.Common.{arith}
use Rattle.std.proofs.lemmas.Grind.{common_steps}
use Rattle.near_text.proofs.writing.write_body.Goals as goal

pub returns : goal.returns
returns = grind (arith, common_steps)
