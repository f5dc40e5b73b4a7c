-- How a job ends that found its answer, or why it has none, before anything was written.
use Rattle.std.specs.Prelude.{◌≡◌, IfErr, IfOk, Result}
use Rattle.ev_outside.specs.Shelf.{ShelfState}
use Rattle.ev_outside.specs.Sink.{SinkState}
use Rattle.ev_outside.specs.declared.shelf.ShelfFault.{ShelfFault}
use Rattle.ev_outside.specs.declared.shelf.ShelfFault.TheVariants.{Failed, Memory}
use Rattle.job_frame.specs.Faults.{Concludes}
use Rattle.job_frame.specs.Finds.{outcome_of}
use Rattle.job_frame.specs.declared.found.Found.{Found}
use Rattle.job_frame.specs.declared.status.Status.{Status}
use Rattle.job_frame.specs.declared.status.Status.TheVariants as status

-- the status where nothing was found
abbrev pub status_without : ShelfFault → Status
status_without Failed = status.Fault
status_without Memory = status.Memory

-- why nothing was found is the status, and nothing is written or put
pub record EndsWithout (fault : ShelfFault) (before after : ShelfState) (old new : SinkState)
    (ended : Status) : Type 0 where
  pub status_is : ended ≡ status_without fault
  pub shelf : after ≡ before
  pub sink : new ≡ old

-- what was found was written and put, or why it was not; or nothing was found
pub record Finishes {C : Type 0} (found : Result (Found C) ShelfFault)
    (before after : ShelfState) (old new : SinkState) (ended : Status) : Type 0 where
  pub concludes : IfOk found (λ f. Concludes (outcome_of f) before after old new ended)
  pub without : IfErr found (λ fault. EndsWithout fault before after old new ended)
