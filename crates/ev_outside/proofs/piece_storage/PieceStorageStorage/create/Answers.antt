use Rattle.std.proofs.Common.{◌∙◌, ap}
use Rattle.ev_outside.specs.MemoryShelf.{MemoryState}
use Rattle.ev_outside.specs.PieceStorage.{told_of}
use Rattle.ev_outside.proofs.PieceSteps.{same_files}
use Rattle.ev_outside.proofs.piece_storage.PieceStorageStorage.create.Goals as goal

pub returns-then-is_to_fail-clause-others : goal.returns-then-is_to_fail-clause-others
returns-then-is_to_fail-clause-others c = λ other distinct. same_files (told_of c.args.self.now) (told_of c.fail.new.self) other (c.fail.ensures.told ∙ c.is_to_fail.ensures.told)

pub returns-in_default-clause-others : goal.returns-in_default-clause-others
returns-in_default-clause-others c = λ other distinct. same_files (told_of c.args.self.now) (told_of c.fail-in_default.new.self) other (c.fail-in_default.ensures.told ∙ c.is_to_fail.ensures.told)

pub returns-in-Ok-set-clause-others : goal.returns-in-Ok-set-clause-others
returns-in-Ok-set-clause-others c = λ other distinct. c.in-Ok-set.ensures.ok.others other distinct ∙ same_files (told_of c.args.self.now) (told_of c.is_to_fail.new.self) other c.is_to_fail.ensures.told

pub returns-in-Err-clause-others : goal.returns-in-Err-clause-others
returns-in-Err-clause-others c = λ other distinct. same_files _ (told_of c.fail-in-Err.new.self) other c.fail-in-Err.ensures.told ∙ ap (λ (s : MemoryState). s.files other) c.in-Err.ensures.err ∙ same_files (told_of c.args.self.now) (told_of c.is_to_fail.new.self) other c.is_to_fail.ensures.told
