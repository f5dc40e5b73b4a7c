use Rattle.ev_text.specs.Readers.{whole_with}
use Rattle.route_plan.specs.PlanReading.{file_at}
use Rattle.route_plan.proofs.PlanLaws.{file_ends_too_early, file_is_wrong, too_long}
use Rattle.route_plan.proofs.text.laws.fleet_plan_faults_are_first.Goals as goal

pub returns : goal.returns
returns c = record {
  cut = file_ends_too_early;
  wrong = file_is_wrong;
  too_long = λ bytes len. too_long bytes (whole_with file_at bytes) len;
}
