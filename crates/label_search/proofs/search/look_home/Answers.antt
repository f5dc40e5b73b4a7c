use Rattle.std.proofs.Common.{◌≡◌, ◌∙◌, ℕ, sym, subst}
use Rattle.std.specs.Prelude.{IfSome}
use Rattle.std.proofs.lemmas.Option.{same_Some}
use Rattle.label_search.specs.declared.found.Found.{Found}
use Rattle.label_search.proofs.GrownTrees.{read}
use Rattle.label_search.proofs.search.look_home.Goals as goal

pub gain-requires : goal.gain-requires
gain-requires g c =
    (c.requires.search.labels.labels c.args.number c.index-found.result.now (read c.args.search.now.tree.found.items c.args.number c.index-found.result.now c.requires.known c.index-found.ensures)).range

pub keep_route-requires-clause-earns : goal.keep_route-requires-clause-earns
keep_route-requires-clause-earns g c f at =
    let here = read c.args.search.now.tree.found.items c.args.number c.index-found.result.now c.requires.known c.index-found.ensures in
    let same : c.index-found.result.now ≡ f = same_Some c.index-found.result.now f (sym here ∙ at) in
    let told : (g.R.Resources.space c.args.resources.now).earns c.index-found.result.now.label =
    subst (λ o. IfSome o (λ (n : ℕ). (g.R.Resources.space c.args.resources.now).earns c.index-found.result.now.label)) c.in-Some.is c.in_ok-gain.ensures in
    subst (λ (k : Found g.row.R-Label.Denot). (g.R.Resources.space c.args.resources.now).earns k.label) same told
