use Rattle.std.proofs.Common.{◌≡◌, ◌≤◌, ◌^◌, List, sym, subst, arith, unsigned_abs, FitsSigned, to_z, of_z}
use Rattle.std.specs.Prelude.{slice_set}
use Rattle.std.specs.Int.{w128}
use Rattle.std.proofs.lemmas.Int.{ints}
use Rattle.std.proofs.lemmas.List.{length-set}
use Rattle.label_search.specs.Tree.{IsGrown, IsTree}
use Rattle.label_search.specs.declared.found.Found.{Found}
use Rattle.label_search.proofs.GrownTrees.{grown_by, tree_with}
use Rattle.label_search.proofs.found.push.Goals as goal

pub returns-clause-tree : goal.returns-clause-tree
returns-clause-tree g c =
    let s = g.R.Resources.space c.args.resources.now in
    let old = c.args.tree.now.found.items in
    let groups = c.args.tree.now.groups.items in
    let new : Found g.row.R-Label.Denot = record { label = c.args.label; earned = to_z w128 (of_z w128 c.args.earned); parent = c.args.parent; gap = c.args.gap } in
    let fits : FitsSigned w128 c.args.earned = c.ranges.earned in
    let whole : to_z w128 (of_z w128 c.args.earned) ≡ c.args.earned = omega (arith, ints) in
    let small : unsigned_abs (to_z w128 (of_z w128 c.args.earned)) ≤ 2 ^ 91 = subst (λ z. unsigned_abs z ≤ 2 ^ 91) (sym whole) c.requires.small in
    let more = slice_set groups c.group-group.result c.push.new.self in
    let same = length-set groups c.group-group.result c.push.new.self in
    let tree = tree_with s old groups more new same c.requires.tree c.requires.range small c.requires.elder c.requires.origin in
    subst (λ (found : List (Found g.row.R-Label.Denot)). IsTree s found more) (sym c.in_ok-push-2.ensures.items) tree

pub returns-clause-grown : goal.returns-clause-grown
returns-clause-grown g c =
    let new : Found g.row.R-Label.Denot = record { label = c.args.label; earned = to_z w128 (of_z w128 c.args.earned); parent = c.args.parent; gap = c.args.gap } in
    subst (λ (found : List (Found g.row.R-Label.Denot)). IsGrown c.args.tree.now.found.items found) (sym c.in_ok-push-2.ensures.items) (grown_by c.args.tree.now.found.items new)
