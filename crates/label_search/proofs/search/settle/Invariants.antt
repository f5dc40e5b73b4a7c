use Rattle.std.proofs.Common.{◌<◌, length}
use Rattle.label_search.specs.Tree.{IsGrown, IsSearch}
use Rattle.label_search.proofs.search.settle.Given as goal

abbrev pub invariant-loop-node : goal.invariant-loop-node
invariant-loop-node g l = record {
  search : IsSearch (g.R.Resources.space l.resources) l.search;
  grown : IsGrown l.fn.search.tree.found.items l.search.tree.found.items;
  listed : length l.fn.search.listed.items < length l.search.listed.items;
  known : l.number < length l.search.tree.found.items;
}
