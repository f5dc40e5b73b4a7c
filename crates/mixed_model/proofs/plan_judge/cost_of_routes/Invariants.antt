use Rattle.std.proofs.Common.{◌≡◌, ◌≤◌, ◌*◌, ◌^◌, take}
use Rattle.std.specs.List.{All}
use Rattle.mixed_model.specs.Meaning.{kind_plans}
use Rattle.mixed_model.specs.Plans.{mixed_cost}
use Rattle.mixed_model.proofs.Walks.{Walked}
use Rattle.mixed_model.proofs.plan_judge.cost_of_routes.Given as goal

abbrev pub invariant-loop-route : goal.invariant-loop-route
invariant-loop-route l = record {
  small : l.cost ≤ l.route * 2 ^ 64;
  walked : All (Walked l.kinds) (take l.route l.plan);
  sum : l.cost ≡ mixed_cost l.kinds 1 (kind_plans (take l.route l.plan));
}
