use Rattle.std.proofs.Common.{arith}
use Rattle.std.proofs.lemmas.Grind.{common_steps}
use Rattle.decimal_import.proofs.digits.digit_count.Goals as goal

pub loop-index-preserved : goal.loop-index-preserved
loop-index-preserved = grind (arith, common_steps)

pub returns-then-not-is_ascii_digit-clause-count : goal.returns-then-not-is_ascii_digit-clause-count
returns-then-not-is_ascii_digit-clause-count = grind (arith, common_steps)
