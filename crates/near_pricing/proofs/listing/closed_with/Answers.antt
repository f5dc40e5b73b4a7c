use Rattle.std.proofs.Common.{arith}
use Rattle.std.proofs.lemmas.Grind.{common_steps}
use Rattle.near_pricing.proofs.listing.closed_with.Goals as goal

pub first_fault-requires : goal.first_fault-requires
first_fault-requires = grind (arith, common_steps)

pub returns-in_default-clause-closed : goal.returns-in_default-clause-closed
returns-in_default-clause-closed = grind (arith, common_steps)
