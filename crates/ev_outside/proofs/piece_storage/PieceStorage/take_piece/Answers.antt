use Rattle.std.proofs.Common.{◌∙◌}
use Rattle.ev_outside.specs.PieceStorage.{told_of}
use Rattle.ev_outside.proofs.PieceSteps.{nothing_where_same, writes_from}
use Rattle.ev_outside.proofs.piece_storage.PieceStorage.take_piece.Goals as goal

pub returns-then-is_to_fail-clause-takes : goal.returns-then-is_to_fail-clause-takes
returns-then-is_to_fail-clause-takes c = nothing_where_same (told_of c.args.self.now) (told_of c.fail.new.self) (c.fail.ensures.told ∙ c.is_to_fail.ensures.told)

pub returns-in-Ok-clause-takes : goal.returns-in-Ok-clause-takes
returns-in-Ok-clause-takes c = writes_from (told_of c.args.self.now) (told_of c.is_to_fail.new.self) (told_of c.append.new.self) _ c.is_to_fail.ensures.told c.in-Ok.ensures.ok

pub returns-in-Err-clause-takes : goal.returns-in-Err-clause-takes
returns-in-Err-clause-takes c = nothing_where_same (told_of c.args.self.now) (told_of c.fail-in-Err.new.self) (c.fail-in-Err.ensures.told ∙ c.in-Err.ensures.err ∙ c.is_to_fail.ensures.told)
