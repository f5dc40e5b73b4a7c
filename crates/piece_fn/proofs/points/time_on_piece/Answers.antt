use Rattle.std.proofs.Common.{arith}
use Rattle.std.proofs.lemmas.Grind.{common_steps, rows}
use Rattle.piece_fn.proofs.points.time_on_piece.Goals as goal

pub overflow_add-result : goal.overflow_add-result
overflow_add-result = grind (arith, common_steps)

pub overflow_mul-result : goal.overflow_mul-result
overflow_mul-result = grind (arith, common_steps)

pub returns-then-level-next : goal.returns-then-level-next
returns-then-level-next = grind (arith, common_steps, rows)
