use Rattle.tree_text.specs.Ways.{counted_in}
use Rattle.tree_text.proofs.reading.nodes.take_node.Goals as goal

pub returns-then-branch-clause-stands : goal.returns-then-branch-clause-stands
returns-then-branch-clause-stands c = c.in_ok-node.ensures.stands (counted_in c.args.counted.now)
