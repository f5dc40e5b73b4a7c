use Rattle.near_tree.proofs.ZeroTrees.{full_label_is}
use Rattle.near_tree.proofs.zero.full_label.Goals as goal

pub returns-clause-label : goal.returns-clause-label
returns-clause-label c =
    full_label_is c.args.inst.now c.args.node c.max_q.result c.last_at.result c.empty-memory.result c.point.result c.max_q.ensures.value c.point.ensures c.empty-memory.ensures c.last_at.ensures.last
