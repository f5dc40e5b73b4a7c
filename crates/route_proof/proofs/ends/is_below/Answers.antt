use Rattle.std.proofs.Common.{arith}
use Rattle.std.proofs.lemmas.Grind.{elements}
use Rattle.route_proof.proofs.ends.is_below.Goals as goal

pub loop-value-preserved : goal.loop-value-preserved
loop-value-preserved = grind (arith, elements)

pub returns : goal.returns
returns = grind (arith, elements)

pub returns-then-least-bar : goal.returns-then-least-bar
returns-then-least-bar = grind (arith, elements)
