use Rattle.std.proofs.Common.{arith}
use Rattle.ev_text.proofs.DigitRuns.{past_by_a_digit, digits_value_after-drop, digit_code}
use Rattle.ev_text.proofs.scan.value_within.Goals as goal

pub overflow_sub-digit : goal.overflow_sub-digit
overflow_sub-digit c = (digit_code c.args.digits.now c.loop-digit.digit-index c.requires (omega arith)).0

pub returns-in_default-clause-none : goal.returns-in_default-clause-none
returns-in_default-clause-none c =
    let wide = c.in_default.ensures in
    past_by_a_digit c.loop-digit.number c.args.limit _ c.args.digits.now c.loop-digit.digit-index (omega arith) (grind arith) c.loop-digit.invariant.told

pub returns-in_default-checked_add-clause-none : goal.returns-in_default-checked_add-clause-none
returns-in_default-checked_add-clause-none c =
    let wide = c.in_default-checked_add.ensures in
    let code = digit_code c.args.digits.now c.loop-digit.digit-index c.requires (omega arith) in
    past_by_a_digit c.loop-digit.number c.args.limit _ c.args.digits.now c.loop-digit.digit-index (omega arith) (grind arith) c.loop-digit.invariant.told

pub returns-then-next-limit-clause-none : goal.returns-then-next-limit-clause-none
returns-then-next-limit-clause-none c =
    let code = digit_code c.args.digits.now c.loop-digit.digit-index c.requires (omega arith) in
    past_by_a_digit c.loop-digit.number c.args.limit _ c.args.digits.now c.loop-digit.digit-index (omega arith) (grind arith) c.loop-digit.invariant.told

pub loop-digit-preserved : goal.loop-digit-preserved
loop-digit-preserved c =
    let code = digit_code c.args.digits.now c.loop-digit.digit-index c.requires (omega arith) in
    record { told = digits_value_after-drop _ _ _ c.args.digits.now c.loop-digit.digit-index (omega arith) (omega arith) c.loop-digit.invariant.told; within = omega arith }
