use Rattle.std.proofs.Common.{◌≡◌, ◌∙◌, ◌≤◌, ◌^◌, sym, subst, arith, rules, unsigned_abs, FitsSigned, to_z, of_z}
use Rattle.std.specs.Int.{w128}
use Rattle.std.proofs.lemmas.Int.{ints}
use Rattle.label_search.specs.Steps.{IsInRange}
use Rattle.label_search.proofs.GrownTrees.{read}
use Rattle.label_search.proofs.search.is_needless.Goals as goal

pub makes_needless-requires-clause-range : goal.makes_needless-requires-clause-range
makes_needless-requires-clause-range g c =
    let s = g.R.Resources.space c.args.resources.now in
    subst (λ (l : g.row.R-Label.Denot). IsInRange s l) (sym c.asked_of-asked.ensures.label)
    (c.requires.search.labels.labels c.args.number c.index-found.result.now (read c.args.search.now.tree.found.items c.args.number c.index-found.result.now c.requires.known c.index-found.ensures)).range

pub makes_needless-requires-clause-small : goal.makes_needless-requires-clause-small
makes_needless-requires-clause-small g c =
    let small = (c.requires.search.labels.labels c.args.number c.index-found.result.now (read c.args.search.now.tree.found.items c.args.number c.index-found.result.now c.requires.known c.index-found.ensures)).small in
    let fits : FitsSigned w128 c.index-found.result.now.earned = search rules in
    let whole : to_z w128 (of_z w128 c.index-found.result.now.earned) ≡ c.index-found.result.now.earned = omega (arith, ints) in
    let told : c.asked_of-asked.result.earned ≡ c.index-found.result.now.earned = c.asked_of-asked.ensures.earned ∙ whole in
    subst (λ z. unsigned_abs z ≤ 2 ^ 91) (sym told) small
