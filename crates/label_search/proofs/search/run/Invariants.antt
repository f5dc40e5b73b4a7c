use Rattle.std.proofs.Common.{◌+◌, ◌-◌, ◌*◌, ◌≤◌, ◌^◌, length}
use Rattle.std.specs.BinaryHeap.{heap_len}
use Rattle.label_search.specs.Tree.{IsSearch}
use Rattle.label_search.proofs.search.run.Given as goal

abbrev pub invariant-loop-search : goal.invariant-loop-search
invariant-loop-search g l = record {
  search : IsSearch (g.R.Resources.space l.resources) l.search;
  listed : length l.fn.search.listed.items ≤ length l.search.listed.items;
}

abbrev pub decreases-loop-search : goal.decreases-loop-search
decreases-loop-search g l = (2 ^ 63 - length l.search.listed.items) * 2 ^ 64 + heap_len l.search.queue
