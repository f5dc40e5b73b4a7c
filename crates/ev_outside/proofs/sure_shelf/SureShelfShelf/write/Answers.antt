use Rattle.std.proofs.Common.{ap}
use Rattle.ev_outside.specs.MemoryShelf.{MemoryState}
use Rattle.ev_outside.proofs.sure_shelf.SureShelfShelf.write.Goals as goal

pub returns-in-Err-clause-others : goal.returns-in-Err-clause-others
returns-in-Err-clause-others c = λ other distinct. ap (λ (s : MemoryState). s.files other) c.in-Err.ensures.err
