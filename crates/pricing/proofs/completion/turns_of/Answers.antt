use Rattle.std.proofs.Common.{arith}
use Rattle.std.proofs.lemmas.Grind.{common_steps}
use Rattle.pricing.proofs.completion.turns_of.Goals as goal

pub allows-requires-clause-last : goal.allows-requires-clause-last
allows-requires-clause-last = grind (arith, common_steps)
