use Rattle.std.proofs.Common.{arith}
use Rattle.std.proofs.lemmas.Grind.{common_steps}
use Rattle.ev_outside.proofs.memory_shelf.MemoryShelfShelf.read.Goals as goal

pub returns-clause-failed : goal.returns-clause-failed
returns-clause-failed = grind (arith, common_steps)

pub returns-in_default-clause-failed : goal.returns-in_default-clause-failed
returns-in_default-clause-failed = grind (arith, common_steps)

pub returns-in_default-clause-refused : goal.returns-in_default-clause-refused
returns-in_default-clause-refused = grind (arith, common_steps)

pub returns-clause-bytes : goal.returns-clause-bytes
returns-clause-bytes = grind (arith, common_steps)

pub returns-clause-refused : goal.returns-clause-refused
returns-clause-refused = grind (arith, common_steps)

pub returns-then-is_err-clause-failed : goal.returns-then-is_err-clause-failed
returns-then-is_err-clause-failed = grind (arith, common_steps)

pub returns-in_default-clause-falls : goal.returns-in_default-clause-falls
returns-in_default-clause-falls = grind (arith, common_steps)

pub returns-then-contains-clause-falls : goal.returns-then-contains-clause-falls
returns-then-contains-clause-falls = grind (arith, common_steps)

pub returns-then-is_err-clause-refused : goal.returns-then-is_err-clause-refused
returns-then-is_err-clause-refused = grind (arith, common_steps)
