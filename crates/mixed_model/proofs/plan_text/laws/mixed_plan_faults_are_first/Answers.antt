use Rattle.ev_text.specs.Readers.{whole_with}
use Rattle.route_plan.proofs.PlanLaws.{too_long}
use Rattle.mixed_model.specs.MixedReading.{mixed_file_at}
use Rattle.mixed_model.proofs.TextLaws.{ends_too_early, is_wrong}
use Rattle.mixed_model.proofs.plan_text.laws.mixed_plan_faults_are_first.Goals as goal

pub returns : goal.returns
returns c = record {
  cut = λ kinds bytes at some few is. ends_too_early kinds some few bytes at is;
  wrong = λ kinds bytes fault some few is no_end. is_wrong kinds some few bytes fault is no_end;
  too_long = λ kinds bytes len. too_long bytes (whole_with (mixed_file_at kinds) bytes) len;
}
