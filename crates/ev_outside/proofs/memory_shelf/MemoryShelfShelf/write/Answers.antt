use Rattle.std.proofs.Common.{ap, Some, arith}
use Rattle.std.proofs.lemmas.Grind.{common_steps}
use Rattle.ev_outside.proofs.memory_shelf.MemoryShelfShelf.write.Goals as goal

pub returns-then-contains-clause-others : goal.returns-then-contains-clause-others
returns-then-contains-clause-others c = λ other _. ap (λ files. files other) c.refuse_write.ensures.files

pub returns-in-Err-clause-others : goal.returns-in-Err-clause-others
returns-in-Err-clause-others c = λ other _. ap (λ shelf. shelf.files other) c.in-Err.ensures.err

pub returns-in-Err-clause-memory : goal.returns-in-Err-clause-memory
returns-in-Err-clause-memory c = λ _. ap (λ shelf. Some shelf.files) c.in-Err.ensures.err

pub returns-then-contains-clause-falls : goal.returns-then-contains-clause-falls
returns-then-contains-clause-falls = grind (arith, common_steps)
