-- Exit statuses.
use Rattle.std.specs.Prelude.{ℕ}
use Rattle.job_frame.specs.declared.status.Status.{Status}
use Rattle.job_frame.specs.declared.status.Status.TheVariants.{Done, Negative, Words, Refused, Fault, Memory, Stopped}

abbrev pub code_of : Status → ℕ
code_of Done = 0
code_of Negative = 1
code_of Words = 2
code_of Refused = 3
code_of Fault = 4
code_of Memory = 5
code_of Stopped = 6
