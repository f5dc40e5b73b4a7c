use Rattle.std.proofs.Common.{◌∙◌, List, ap, map, rules, subst, sym}
use Rattle.mixed_model.specs.declared.proof.MixedRoute.{MixedRoute}
use Rattle.mixed_model.specs.declared.proof.MixedShare.{MixedShare}
use Rattle.mixed_fleet.specs.Whole.{AreWhole, IsAtBound}
use Rattle.mixed_fleet.proofs.Wholes.{at_bound}
use Rattle.mixed_fleet.proofs.whole.whole_plan.Goals as goal

pub returns : goal.returns
returns c =
    let kinds = c.args.kinds.now in
    let p = c.args.proof.now in
    let over = c.in-Exact.over in
    let shares = c.in-Exact.shares in
    let listed : AreWhole over c.as_slice.result.now = search rules in
    let whole : AreWhole over shares = subst (λ (xs : List MixedShare). AreWhole over xs) c.as_slice.ensures listed in
    let are = c.in_ok-routes.ensures ∙ ap (λ (xs : List MixedShare). map (λ (x : MixedShare). x.route) xs) c.as_slice-2.ensures in
    subst (λ (rs : List MixedRoute). IsAtBound kinds p rs) (sym c.from_vec.ensures)
    (at_bound kinds p over shares c.in_ok-routes.routes.items c.sort_by_first.new.routes.items c.requires.fleet c.requires.proof c.in-Exact.is whole are c.sort_by_first.ensures.same c.sort_by_first.ensures.order)
