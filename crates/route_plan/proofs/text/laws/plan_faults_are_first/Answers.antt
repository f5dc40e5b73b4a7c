use Rattle.ev_text.specs.Readers.{whole_with}
use Rattle.route_plan.specs.PlanReading.{plan_at}
use Rattle.route_plan.proofs.PlanLaws.{plan_ends_too_early, plan_is_wrong, too_long}
use Rattle.route_plan.proofs.text.laws.plan_faults_are_first.Goals as goal

pub returns : goal.returns
returns c = record {
  cut = plan_ends_too_early;
  wrong = plan_is_wrong;
  too_long = λ bytes len. too_long bytes (whole_with plan_at bytes) len;
}
