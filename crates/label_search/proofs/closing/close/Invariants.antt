use Rattle.std.proofs.Common.{◌+◌, ◌-◌, ◌*◌, ◌^◌, length}
use Rattle.label_search.specs.Tree.{IsSearch}
use Rattle.label_search.proofs.closing.close.Given as goal

abbrev pub invariant-loop-alloc : goal.invariant-loop-alloc
invariant-loop-alloc g l = IsSearch (g.R.Resources.space l.resources) l.search

abbrev pub decreases-loop-alloc : goal.decreases-loop-alloc
decreases-loop-alloc g l = 2 * (2 ^ 63 - length l.search.listed.items) + (1 - length l.search.routes.items)
