use Rattle.std.proofs.Common.{List, ℕ, Option, subst}
use Rattle.std.specs.Prelude.{IfSome}
use Rattle.label_search.specs.Steps.{IsLeft}
use Rattle.label_search.proofs.GrownTrees.{read}
use Rattle.label_search.proofs.SearchState.{next_made}
use Rattle.label_search.proofs.search.serve.Goals as goal

pub arrived_behind-requires-clause-range : goal.arrived_behind-requires-clause-range
arrived_behind-requires-clause-range g c =
    (c.requires.search.labels.labels c.args.from c.index.result.now (read c.args.search.now.tree.found.items c.args.from c.index.result.now c.requires.known c.index.ensures)).range

pub add-requires-clause-next : goal.add-requires-clause-next
add-requires-clause-next g c =
    let s = g.R.Resources.space c.args.resources.now in
    let from = c.index.result.now in
    let here = read c.args.search.now.tree.found.items c.args.from c.index.result.now c.requires.known c.index.ensures in
    let left = subst (λ (o : Option (List (ℕ × ℕ))). IfSome o (IsLeft s.network (s.value c.index.result.now.label) (s.node c.index.result.now.label) c.args.node)) c.in-Some.is c.in_ok-value.ensures in
    next_made s c.requires.search.lawful c.args.search.now.tree.found.items c.args.from from here (c.requires.search.labels.labels c.args.from from here).range c.args.node c.args.target.now c.in-Some.value c.requires.node
    (c.requires.leads from here c.in-Some.value) left c.label-label.result c.label-label.ensures
