use Rattle.std.proofs.Common.{arith}
use Rattle.std.proofs.lemmas.Grind.{common_steps}
use Rattle.price_loop.proofs.rounds.price_out_watched.Goals as goal

pub returns-in-Err-Wide : goal.returns-in-Err-Wide
returns-in-Err-Wide = grind (arith, common_steps)
