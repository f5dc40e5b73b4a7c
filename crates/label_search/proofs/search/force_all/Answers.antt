use Rattle.std.proofs.Common.{◌∙◌, [], ◌∷◌, length, ap, arith}
use Rattle.std.proofs.lemmas.List.{length-append}
use Rattle.label_search.proofs.SearchState.{last_next, steps_left}
use Rattle.label_search.proofs.search.force_all.Goals as goal

pub force_one-requires-clause-next : goal.force_one-requires-clause-next
force_one-requires-clause-next g c =
    let was = c.loop-value.invariant in
    last_next (g.R.Resources.space c.args.resources.now) c.loop-value.search.tree.found.items c.args.from c.args.node c.args.target.now c.loop-value.values.items c.pop.new.self.items c.in-Some.value c.in-Some.ensures.items was.steps
    was.search.lawful c.loop-value.search.tree.groups.items was.search.labels c.requires.node c.label-label.result c.label-label.ensures

pub loop-value-preserved : goal.loop-value-preserved
loop-value-preserved g c =
    let was = c.loop-value.invariant in
    let count = ap length c.in-Some.ensures.items ∙ length-append c.pop.new.self.items (c.in-Some.value ∷ []) in
    let more = c.in_ok-force_one.ensures.listed in
    record {
      search = c.in_ok-force_one.ensures.search;
      listed = omega (arith, count, more, was.listed);
      steps = steps_left (g.R.Resources.space c.args.resources.now) c.loop-value.search.tree.found.items c.args.from c.args.node c.args.target.now c.loop-value.values.items c.pop.new.self.items c.in-Some.value c.in-Some.ensures.items was.steps
          c.force_one.new.search.tree.found.items c.in_ok-force_one.ensures.grown;
    }
