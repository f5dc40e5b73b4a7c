use Rattle.std.proofs.Common.{arith}
use Rattle.std.proofs.lemmas.Grind.{common_steps}
use Rattle.near_pricing.proofs.hopeless.push_labels_in.Goals as goal

pub push_untold-requires-clause-memory : goal.push_untold-requires-clause-memory
push_untold-requires-clause-memory = grind (arith, common_steps)

pub with_known-memory-requires-clause-set : goal.with_known-memory-requires-clause-set
with_known-memory-requires-clause-set = grind (arith, common_steps)

pub push_untold-requires-2-clause-memory : goal.push_untold-requires-2-clause-memory
push_untold-requires-2-clause-memory = grind (arith, common_steps)
