use Rattle.std.proofs.Common.{◌≡◌, length}
use Rattle.index_links.specs.Lists.{list_at}
use Rattle.index_links.proofs.Walk.{left_at}
use Rattle.label_pool.proofs.LiveCoverage.{IsRetiring}
use Rattle.label_pool.proofs.pool.retire_covered.Given as goal

abbrev pub invariant-loop-at : goal.invariant-loop-at
invariant-loop-at g l = record {
  walk : IsRetiring g.V.Covers.dominates l.bucket l.value l.initial.labels.items l.labels.items l.live l.queue l.at;
  lists : length l.live.lists ≡ length l.initial.live.lists;
  items : l.live.items ≡ l.initial.live.items;
  capacity : l.labels.cap ≡ l.initial.labels.cap;
  queue : length l.queue ≡ length l.initial.queue;
}

abbrev pub decreases-loop-at : goal.decreases-loop-at
decreases-loop-at g l = left_at l.at (list_at l.live.lists l.bucket)
