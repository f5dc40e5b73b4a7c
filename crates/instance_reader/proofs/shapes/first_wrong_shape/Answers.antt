use Rattle.std.proofs.Common.{arith}
use Rattle.instance_reader.specs.Shapes.{first_wrong_shape}
use Rattle.std.proofs.lemmas.Grind.{common_steps}
use Rattle.instance_reader.proofs.shapes.first_wrong_shape.Goals as goal

pub returns : goal.returns
unfolding first_wrong_shape
returns = grind (arith, common_steps)

pub returns-in-Some-odd_row_in : goal.returns-in-Some-odd_row_in
unfolding first_wrong_shape
returns-in-Some-odd_row_in = grind (arith, common_steps)

pub returns-then-len-nodes-2 : goal.returns-then-len-nodes-2
unfolding first_wrong_shape
returns-then-len-nodes-2 = grind (arith, common_steps)
