use Rattle.std.proofs.Common.{arith}
use Rattle.std.proofs.lemmas.Grind.{common_steps}
use Rattle.schedule_texts.proofs.Sizes.{mark_within}
use Rattle.schedule_texts.proofs.picture.axis.push_marks.Goals as goal

pub loop-number-preserved : goal.loop-number-preserved
loop-number-preserved = grind (arith, common_steps, mark_within)

pub push_mark-requires-clause-small : goal.push_mark-requires-clause-small
push_mark-requires-clause-small = grind (arith, common_steps, mark_within)

pub overflow_mul-number : goal.overflow_mul-number
overflow_mul-number = grind (arith, common_steps, mark_within)
