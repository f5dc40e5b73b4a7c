use Rattle.std.proofs.Common.{◌≡◌, length}
use Rattle.label_search.specs.Tree.{AreSteps, IsGrown, IsSearch}
use Rattle.label_search.proofs.search.add_all.Given as goal

abbrev pub invariant-loop-value : goal.invariant-loop-value
invariant-loop-value g l = record {
  search : IsSearch (g.R.Resources.space l.resources) l.search;
  grown : IsGrown l.fn.search.tree.found.items l.search.tree.found.items;
  listed : l.search.listed.items ≡ l.fn.search.listed.items;
  steps : AreSteps (g.R.Resources.space l.resources) l.search.tree.found.items l.from l.node l.target l.values.items;
}

abbrev pub decreases-loop-value : goal.decreases-loop-value
decreases-loop-value g l = length l.values.items
