use Rattle.std.proofs.Common.{arith}
use Rattle.std.proofs.lemmas.Grind.{common_steps}
use Rattle.ev_text.proofs.DigitRuns.{AllDigits-take}
use Rattle.ev_text.proofs.scan.whole_from.Goals as goal

pub value_within-requires : goal.value_within-requires
value_within-requires c = AllDigits-take _ _ c.digit_count-count.ensures

pub returns-in-Some-clause-within : goal.returns-in-Some-clause-within
returns-in-Some-clause-within = grind (arith, common_steps)

pub overflow_add-result : goal.overflow_add-result
overflow_add-result = grind (arith, common_steps)

pub returns-then-not-is_canonical-clause-fault : goal.returns-then-not-is_canonical-clause-fault
returns-then-not-is_canonical-clause-fault = grind (arith, common_steps)

pub returns-in-None-clause-fault : goal.returns-in-None-clause-fault
returns-in-None-clause-fault = grind (arith, common_steps)

pub returns-then-is_empty-clause-fault : goal.returns-then-is_empty-clause-fault
returns-then-is_empty-clause-fault = grind (arith, common_steps)

pub slice_bounds-digits-end : goal.slice_bounds-digits-end
slice_bounds-digits-end = grind (arith, common_steps)

pub returns-in-Some-clause-ok : goal.returns-in-Some-clause-ok
returns-in-Some-clause-ok = grind (arith, common_steps)
