use Rattle.std.proofs.Common.{◌^◌, arith}
use Rattle.std.proofs.lemmas.Grind.{common_steps}
use Rattle.decimal_import.proofs.Numbers.{number_after-past}
use Rattle.decimal_import.proofs.rounding.append_digits.Goals as goal

pub returns-then-number-gt-MAX_NUMBER-clause-none : goal.returns-then-number-gt-MAX_NUMBER-clause-none
returns-then-number-gt-MAX_NUMBER-clause-none c = number_after-past c.loop-digit.number (10 ^ 18) _ c.args.digits.now c.loop-digit.digit-index (omega arith) (omega arith) c.loop-digit.invariant.told

pub loop-digit-preserved : goal.loop-digit-preserved
loop-digit-preserved = grind (arith, common_steps)
