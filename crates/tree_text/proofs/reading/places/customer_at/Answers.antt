use Rattle.std.proofs.Common.{arith}
use Rattle.std.proofs.lemmas.Grind.{elements}
use Rattle.tree_text.proofs.reading.places.customer_at.Goals as goal

pub returns-then-node-nodes-clause-some : goal.returns-then-node-nodes-clause-some
returns-then-node-nodes-clause-some = grind (arith, elements)
