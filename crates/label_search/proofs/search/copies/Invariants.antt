use Rattle.std.proofs.Common.{◌≡◌, length}
use Rattle.std.specs.List.{All}
use Rattle.label_search.specs.Steps.{IsListed}
use Rattle.label_search.specs.Tree.{AreCopiesAt}
use Rattle.label_search.proofs.search.copies.Given as goal

abbrev pub invariant-loop-number : goal.invariant-loop-number
invariant-loop-number g l = record {
  count : length l.labels.items ≡ l.number-index;
  same : AreCopiesAt l.search.tree.found.items l.search.listed.items l.labels.items;
  listed : All (IsListed (g.R.Resources.space l.resources)) l.labels.items;
}
