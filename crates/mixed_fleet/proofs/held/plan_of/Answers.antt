use Rattle.std.proofs.Common.{◌≡◌, ◌<◌, List, length, subst, sym}
use Rattle.std.specs.List.{All}
use Rattle.std.proofs.lemmas.List.Sorted.{All-permutation}
use Rattle.mixed_model.specs.Meaning.{kind_plans}
use Rattle.mixed_model.specs.Plans.{IsMixedPlan, mixed_cost}
use Rattle.mixed_model.specs.declared.proof.MixedRoute.{MixedRoute}
use Rattle.mixed_fleet.proofs.Firsts.{may_hold}
use Rattle.mixed_fleet.proofs.HeldPlans.{is_held_at}
use Rattle.mixed_fleet.proofs.held.plan_of.Goals as goal

pub check_mixed_plan-requires-clause-known : goal.check_mixed_plan-requires-clause-known
check_mixed_plan-requires-clause-known c =
    let P = λ (r : MixedRoute). r.kind < length c.args.kinds.now in
    subst (λ (rs : List MixedRoute). All P rs) (sym c.deref.ensures.value)
    (All-permutation P c.args.routes.items c.sort_by_first.new.routes.items c.sort_by_first.ensures.same c.requires.known)

pub returns : goal.returns
returns c =
    let kinds = c.args.kinds.now in
    let routes = c.sort_by_first.new.routes.items in
    let plan = subst (λ (rs : List MixedRoute). IsMixedPlan kinds 1 (kind_plans rs)) c.deref.ensures.value c.in-Ok.ensures.valid in
    let cost = subst (λ (rs : List MixedRoute). c.in-Ok.cost ≡ mixed_cost kinds 1 (kind_plans rs)) c.deref.ensures.value c.in-Ok.ensures.cost in
    is_held_at kinds routes c.from_vec.result c.in-Ok.cost c.from_vec.ensures (may_hold kinds c.requires.fleet routes plan c.sort_by_first.ensures.order) cost
