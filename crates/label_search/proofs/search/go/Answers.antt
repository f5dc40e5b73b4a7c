use Rattle.std.proofs.Common.{◌≡◌, ◌∙◌, sym, subst}
use Rattle.std.proofs.lemmas.Option.{same_Some}
use Rattle.label_search.specs.Steps.{Leads}
use Rattle.label_search.specs.declared.found.Found.{Found}
use Rattle.label_search.proofs.GrownTrees.{read}
use Rattle.label_search.proofs.search.go.Goals as goal

pub target-requires-clause-label : goal.target-requires-clause-label
target-requires-clause-label g c =
    (c.requires.search.labels.labels c.args.from c.index-found.result.now (read c.args.search.now.tree.found.items c.args.from c.index-found.result.now c.requires.known c.index-found.ensures)).range

pub serve-requires-clause-leads : goal.serve-requires-clause-leads
serve-requires-clause-leads g c f at value =
    let s = g.R.Resources.space c.args.resources.now in
    let here = read c.args.search.now.tree.found.items c.args.from c.index-found.result.now c.requires.known c.index-found.ensures in
    let same : c.index-found.result.now ≡ f = same_Some c.index-found.result.now f (sym here ∙ at) in
    subst (λ (k : Found g.row.R-Label.Denot). Leads s k.label (s.label c.in-Some.target c.args.node value)) same (c.in-Some.ensures.leads value)

pub values_behind-requires-clause-range : goal.values_behind-requires-clause-range
values_behind-requires-clause-range g c =
    (c.requires.search.labels.labels c.args.from c.index-found.result.now (read c.args.search.now.tree.found.items c.args.from c.index-found.result.now c.requires.known c.index-found.ensures)).range

pub add_all-requires-clause-steps : goal.add_all-requires-clause-steps
add_all-requires-clause-steps g c = record {
  from = c.index-found.result.now;
  here = read c.args.search.now.tree.found.items c.args.from c.index-found.result.now c.requires.known c.index-found.ensures;
  leads = c.in-Some.ensures.leads;
  left = c.in_ok-values.ensures.left;
}
