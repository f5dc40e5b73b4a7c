use Rattle.std.proofs.Common.{arith}
use Rattle.std.proofs.lemmas.Grind.{common_steps}
use Rattle.instance_reader.proofs.kinds.curve_items.Goals as goal

pub returns-clause-value : goal.returns-clause-value
returns-clause-value = grind (arith, common_steps)

pub loop-index-preserved : goal.loop-index-preserved
loop-index-preserved = grind (arith, common_steps)

pub returns-in_err-curve-clause-err : goal.returns-in_err-curve-clause-err
returns-in_err-curve-clause-err = grind (arith, common_steps)

pub returns-clause-kind : goal.returns-clause-kind
returns-clause-kind = grind (arith, common_steps)
