-- What is heard of an answer of `evgap`, by its status and its line.
use Rattle.std.specs.Prelude.{ℕ, List, Option}
use Rattle.evgap_run.specs.declared.cause.Cause.{Cause}
use Rattle.evgap_run.specs.declared.cause.Cause.TheVariants as cause
use Rattle.fleet_steps.specs.Heard as fleet
use Rattle.job_frame.specs.Heard as frame
use Rattle.job_frame.specs.declared.status.Status.{Status}

-- the line of a broken rule is put, and this rule is heard
abbrev pub HearsRefusal : Status → List ℕ → Option Cause → Type 0
HearsRefusal answered text heard = frame.HearsRefusal cause.Refused answered text heard

-- the line of the rule that a fleet plan breaks is put, and this rule is heard
abbrev pub HearsBrokenPlan : Status → List ℕ → Option Cause → Type 0
HearsBrokenPlan answered text heard = fleet.HearsBrokenPlan cause.Plan answered text heard
