use Rattle.std.proofs.Common.{◌≡◌, ◌∙◌, Option, List, true, ap, subst, sym}
use Rattle.std.proofs.lemmas.Bool.{false≢true}
use Rattle.ev_model.specs.Feasible.{IsFeasible}
use Rattle.ev_model.specs.declared.Stop.{Stop}
use Rattle.route_plan.specs.declared.plan.RoutePlan.{RoutePlan}
use Rattle.route_proof.specs.Closed.{HasGoodPlan}
use Rattle.route_proof.specs.Following.{follows}
use Rattle.route_proof.proofs.FollowedRoutes.{follows_all, follows_true}
use Rattle.route_proof.proofs.plan.bar_of.Goals as goal

pub returns-then-not-follows-clause-broken : goal.returns-then-not-follows-clause-broken
returns-then-not-follows-clause-broken c =
    let feasible = subst (λ (s : List Stop). IsFeasible c.args.inst.now 1 c.args.start s) c.as_slice.ensures c.in-Ok.ensures.feasible in (
      c.in-Some.plan,
      c.in-Some.is,
      feasible,
      λ f.
          false≢true (sym c.if-not-follows.true ∙ c.follows.ensures ∙ ap (λ (s : List Stop). follows c.args.route.now s) c.as_slice-in-Ok.ensures ∙ follows_all c.args.route.now c.in-Some.plan.stops f),
    )

pub returns-else-not-follows-clause-good : goal.returns-else-not-follows-clause-good
returns-else-not-follows-clause-good c =
    let feasible = subst (λ (s : List Stop). IsFeasible c.args.inst.now 1 c.args.start s) c.as_slice.ensures c.in-Ok.ensures.feasible in
    let told : follows c.args.route.now c.in-Some.plan.stops ≡ true = sym (ap (λ (s : List Stop). follows c.args.route.now s) c.as_slice-in-Ok.ensures) ∙ sym c.follows.ensures ∙ c.if-not-follows.false in
    subst (λ (o : Option RoutePlan). HasGoodPlan (record { network = c.args.inst.now; route = c.args.route.now; start = c.args.start }) o) (sym c.in-Some.is)
    (feasible, follows_true c.args.route.now c.in-Some.plan.stops told)
