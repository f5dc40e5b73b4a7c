use Rattle.std.proofs.Common.{reverse}
use Rattle.label_search.proofs.WaysBack.{IsTraced}
use Rattle.label_search.proofs.order.order_of.Given as goal

abbrev pub invariant-loop-parent : goal.invariant-loop-parent
invariant-loop-parent g l = IsTraced (g.R.Resources.space l.resources) l.tree.found.items l.at (reverse l.order.items)

abbrev pub decreases-loop-parent : goal.decreases-loop-parent
decreases-loop-parent g l = l.at
