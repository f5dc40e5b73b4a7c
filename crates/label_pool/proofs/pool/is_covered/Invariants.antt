use Rattle.index_links.specs.Lists.{list_at}
use Rattle.index_links.proofs.Walk.{left_at}
use Rattle.label_pool.proofs.LiveCoverage.{IsLooking}
use Rattle.label_pool.proofs.pool.is_covered.Given as goal

abbrev pub invariant-loop-at : goal.invariant-loop-at
invariant-loop-at g l = IsLooking g.V.Covers.dominates l.labels l.live l.bucket l.value l.at

abbrev pub decreases-loop-at : goal.decreases-loop-at
decreases-loop-at g l = left_at l.at (list_at l.live.lists l.bucket)
