use Rattle.std.proofs.Common.{◌≡◌, ◌≢◌, ◌∙◌, ◌+◌, [], ap, arith, length, subst, sym, take}
use Rattle.std.proofs.lemmas.Grind.{common_steps}
use Rattle.std.specs.Prelude.{nat_eq}
use Rattle.route_improve.specs.Arranged.{are_served}
use Rattle.route_improve.specs.Finished.{ArePlansOf}
use Rattle.route_improve.proofs.Answered.{none_in, plans_more, plans_same, some_in}
use Rattle.route_improve.proofs.finish.plan_of.Goals as goal
use Rattle.route_improve.proofs.finish.plan_of.Goals.{After-is_empty, then-not-is_empty+in_ok-plan_of_route+in_ok-push, else-not-is_empty}

len_is : (c : After-is_empty) → c.route-item.result.order.len ≡ length c.route-item.result.order.items
len_is c = omega arith

pub loop-route-preserved : goal.loop-route-preserved
loop-route-preserved c = elim c.if-not-is_empty.branch [
  | then-not-is_empty+in_ok-plan_of_route+in_ok-push w ↦
      let served : c.route-item.result.order.items ≢ [] = some_in c.route-item.result.order.items c.is_empty.result (c.is_empty.ensures ∙ ap (λ n. nat_eq n 0) (len_is (goal.at.loop-route-preserved c).After-is_empty)) w.if-not-is_empty.true in
      let more = plans_more c.args.inst.now c.args.routes.now c.loop-route.route-index c.route-item.result c.loop-route.plans.items w.in_ok-plan_of_route.field-0 c.loop-route-test.true c.route-item.is served c.loop-route.invariant w.in_ok-plan_of_route.ensures in
      subst (ArePlansOf c.args.inst.now (are_served (take (c.loop-route.route-index + 1) c.args.routes.now))) (sym (ap (λ v. v.items) w.plans-is ∙ w.in_ok-push.ensures.items)) more
  | else-not-is_empty w ↦
      let nobody : c.route-item.result.order.items ≡ [] = none_in c.route-item.result.order.items c.is_empty.result (c.is_empty.ensures ∙ ap (λ n. nat_eq n 0) (len_is (goal.at.loop-route-preserved c).After-is_empty)) w.if-not-is_empty.false in
      let same = plans_same c.args.inst.now c.args.routes.now c.loop-route.route-index c.route-item.result c.loop-route.plans.items c.loop-route-test.true c.route-item.is nobody c.loop-route.invariant in
      subst (ArePlansOf c.args.inst.now (are_served (take (c.loop-route.route-index + 1) c.args.routes.now))) (sym (ap (λ v. v.items) w.plans-is)) same
]

pub plan_of_route-requires-clause-order : goal.plan_of_route-requires-clause-order
plan_of_route-requires-clause-order = grind (arith, common_steps)
