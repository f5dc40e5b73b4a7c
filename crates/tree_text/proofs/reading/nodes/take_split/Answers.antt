use Rattle.tree_text.proofs.Nodes.{split_stands}
use Rattle.tree_text.proofs.reading.nodes.take_split.Goals as goal

pub returns-clause-stands : goal.returns-clause-stands
returns-clause-stands c = λ counted. split_stands c.args.inst.now c.in_ok-before.before c.in_ok-after.after c.in_ok-before.ensures.some c.in_ok-after.ensures.some c.in_ok-before.ensures.place c.in_ok-after.ensures.place c.in_ok-after.ensures.other
