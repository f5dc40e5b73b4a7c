use Rattle.std.proofs.Common.{length}
use Rattle.index_links.specs.Lists.{IsIn, list_at}
use Rattle.index_links.specs.Forest.{IsForest, SameLinked}
use Rattle.index_links.proofs.heap.cut.Given as goal

abbrev pub invariant-loop-a : goal.invariant-loop-a
invariant-loop-a l = record {
  forest : IsForest l.keys l.children;
  same : SameLinked l.initial.children.lists l.children.lists;
  child : IsIn l.at (list_at l.children.lists l.parent);
}

abbrev pub decreases-loop-a : goal.decreases-loop-a
decreases-loop-a l = length (list_at l.children.lists l.parent)
