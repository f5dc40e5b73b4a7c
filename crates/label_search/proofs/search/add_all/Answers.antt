use Rattle.std.proofs.Common.{◌∙◌}
use Rattle.label_search.proofs.GrownTrees.{grown_on}
use Rattle.label_search.proofs.SearchState.{last_next, steps_left}
use Rattle.label_search.proofs.search.add_all.Goals as goal

pub add-requires-clause-next : goal.add-requires-clause-next
add-requires-clause-next g c =
    let was = c.loop-value.invariant in
    last_next (g.R.Resources.space c.args.resources.now) c.loop-value.search.tree.found.items c.args.from c.args.node c.args.target.now c.loop-value.values.items c.pop.new.self.items c.in-Some.value c.in-Some.ensures.items was.steps
    was.search.lawful c.loop-value.search.tree.groups.items was.search.labels c.requires.node c.label.result c.label.ensures

pub loop-value-preserved : goal.loop-value-preserved
loop-value-preserved g c =
    let was = c.loop-value.invariant in
    record {
      search = c.in_ok-add.ensures.search;
      grown = grown_on c.args.search.now.tree.found.items c.loop-value.search.tree.found.items c.add.new.search.tree.found.items was.grown c.in_ok-add.ensures.grown;
      listed = c.in_ok-add.ensures.listed ∙ was.listed;
      steps = steps_left (g.R.Resources.space c.args.resources.now) c.loop-value.search.tree.found.items c.args.from c.args.node c.args.target.now c.loop-value.values.items c.pop.new.self.items c.in-Some.value c.in-Some.ensures.items was.steps
          c.add.new.search.tree.found.items c.in_ok-add.ensures.grown;
    }
