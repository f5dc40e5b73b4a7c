use Rattle.ev_outside.proofs.MemoryShelfLemmas.{Rose-listed}
use Rattle.ev_outside.proofs.memory_shelf.MemoryShelf.refuse_write.Goals as goal

pub returns-in-Ok-clause-rose : goal.returns-in-Ok-clause-rose
returns-in-Ok-clause-rose c = λ _. Rose-listed _ _ c.args.name.now c.in-Ok.ensures.ok
