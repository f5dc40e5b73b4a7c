use Rattle.std.proofs.Common.{arith}
use Rattle.std.proofs.lemmas.Grind.{common_steps}
use Rattle.pricing.proofs.arcs.Arcs.new.Goals as goal

pub next_of-requires : goal.next_of-requires
next_of-requires = grind (arith, common_steps)
