-- What is heard of an answer of `evroute`, by its status and its line.
use Rattle.std.specs.Prelude.{◌⊎◌, ℕ, List, Option, None, Some}
use Rattle.evroute_causes.specs.declared.cause.Cause.{Cause}
use Rattle.evroute_causes.specs.declared.cause.Cause.TheVariants as cause
use Rattle.fleet_steps.specs.Heard as fleet
use Rattle.job_frame.specs.Heard as frame
use Rattle.job_frame.specs.declared.status.Status.{Status}
use Rattle.job_frame.specs.declared.status.Status.TheVariants as status

-- the line of a broken rule is put, and this rule is heard
abbrev pub HearsRefusal : Status → List ℕ → Option Cause → Type 0
HearsRefusal answered text heard = frame.HearsRefusal cause.Refused answered text heard

-- of other answers this is heard, by their status
abbrev pub HearsElse : (Status → Option Cause) → Status → List ℕ → Option Cause → Type 0
HearsElse by answered text heard = frame.HearsElse by answered text heard

-- nothing
abbrev pub no_cause : Status → Option Cause
no_cause answered = None

-- of a job whose other answers are as plain as the one that was asked for
abbrev pub HearsRefusals : Status → List ℕ → Option Cause → Type 0
HearsRefusals answered text heard =
    HearsRefusal answered text heard ⊎ HearsElse no_cause answered text heard

-- nothing is heard where the job did what it was asked for
abbrev pub HearsDone : Status → List ℕ → Option Cause → Type 0
HearsDone answered text heard = frame.HearsDone answered text heard

-- the line of the rule that a fleet plan breaks is put, and this rule is heard
abbrev pub HearsBrokenPlan : Status → List ℕ → Option Cause → Type 0
HearsBrokenPlan answered text heard = fleet.HearsBrokenPlan cause.Plan answered text heard

-- what a bound tells: that there is no plan of the fleet, where it says so
abbrev pub cause_beside : Option ℕ → Option Cause
cause_beside None = Some cause.NoFleet
cause_beside (Some bound) = None

-- what the status of a search for a fleet tells
abbrev pub search_cause : Status → Option Cause
search_cause status.Negative = Some cause.NoFleet
search_cause other = None

-- of a search for a fleet
abbrev pub HearsSearch : Status → List ℕ → Option Cause → Type 0
HearsSearch answered text heard =
    HearsRefusal answered text heard ⊎ HearsElse search_cause answered text heard
