use Rattle.ev_text.specs.Readers.{whole_with}
use Rattle.fixed_reader.specs.FixedReading.{fixed_at}
use Rattle.fixed_reader.proofs.FixedLaws.{fixed_ends_too_early, fixed_is_wrong}
use Rattle.route_plan.proofs.PlanLaws.{too_long}
use Rattle.fixed_reader.proofs.laws.fixed_faults_are_first.Goals as goal

pub returns : goal.returns
returns c = record {
  cut = fixed_ends_too_early;
  wrong = fixed_is_wrong;
  too_long = λ d bytes len. too_long bytes (whole_with (fixed_at d) bytes) len;
}
