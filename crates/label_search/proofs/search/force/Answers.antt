use Rattle.label_search.proofs.GrownTrees.{read}
use Rattle.label_search.proofs.search.force.Goals as goal

pub target-requires-clause-label : goal.target-requires-clause-label
target-requires-clause-label g c =
    (c.requires.search.labels.labels c.args.from c.index-found.result.now (read c.args.search.now.tree.found.items c.args.from c.index-found.result.now c.requires.known c.index-found.ensures)).range

pub unreachable-requires : goal.unreachable-requires
unreachable-requires g c =
    c.in_default.ensures.none (c.requires.leads c.index-found.result.now (read c.args.search.now.tree.found.items c.args.from c.index-found.result.now c.requires.known c.index-found.ensures))

pub values_behind-requires-clause-range : goal.values_behind-requires-clause-range
values_behind-requires-clause-range g c =
    (c.requires.search.labels.labels c.args.from c.index-found.result.now (read c.args.search.now.tree.found.items c.args.from c.index-found.result.now c.requires.known c.index-found.ensures)).range

pub force_all-requires-clause-steps : goal.force_all-requires-clause-steps
force_all-requires-clause-steps g c = record {
  from = c.index-found.result.now;
  here = read c.args.search.now.tree.found.items c.args.from c.index-found.result.now c.requires.known c.index-found.ensures;
  leads = c.in-Some.ensures.leads;
  left = c.in_ok-values.ensures.left;
}

pub force_all-requires-clause-some : goal.force_all-requires-clause-some
force_all-requires-clause-some g c =
    c.in_ok-values.ensures.some (c.requires.leads c.index-found.result.now (read c.args.search.now.tree.found.items c.args.from c.index-found.result.now c.requires.known c.index-found.ensures))
