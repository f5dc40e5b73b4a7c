-- What `convert` finds.
use Rattle.std.proofs.Common.{◌≡◌, ◌≢◌, ℕ, List, [], ◌∷◌, Option, Result, Ok, Err, refl, subst}
use Rattle.command_line.specs.Words.{ConvertJob}
use Rattle.decimal_import.specs.Conversion.{Refuses, conversion_of}
use Rattle.decimal_import.specs.Converted.{IsConverted}
use Rattle.decimal_import.specs.declared.fault.ImportFault.{ImportFault}
use Rattle.decimal_import.specs.declared.fault.ImportFault.TheVariants as faults
use Rattle.ev_outside.specs.Shelf.{Files}
use Rattle.job_frame.specs.Caps.{most_bytes}
use Rattle.evroute_run.specs.ConvertAnswer.{BecomesWhole, convert_task}
use Rattle.job_frame.specs.Task.{Answers, AreReadUpTo}
use Rattle.job_frame.specs.declared.status.Status.TheVariants as status
use Rattle.refusal_lines.specs.RefusalText.{refusal_text}
use Rattle.refusal_lines.specs.declared.refusal.Refusal.TheVariants as refusal

-- a fault that isn't want of memory is the first broken rule
refused_with : (fault : ImportFault) (made : Result (List ℕ) ImportFault) → fault ≢ faults.Memory → Refuses fault made → made ≡ Err fault
refused_with (faults.Token at) made rule is = is
refused_with (faults.Negative at) made rule is = is
refused_with (faults.TooLarge at) made rule is = is
refused_with faults.Digits made rule is = is
refused_with (faults.TooLong len) made rule is = is
refused_with faults.Memory made rule is = absurd (rule refl)

-- what was converted is what the bytes become, wherever they lie
pub convert_becomes : (job : ConvertJob) (files : Option Files) (bytes given whole : List ℕ) → AreReadUpTo most_bytes files job.file bytes → given ≡ bytes
    → conversion_of given job.time_digits job.energy_digits ≡ Ok whole → IsConverted job.time_digits job.energy_digits given whole
    → Answers (convert_task job) files (record { status = status.Done; writes = record { name = job.outfile; bytes = whole } ∷ []; text = [] })
convert_becomes job files bytes given whole read same unbroken converted = record {
  bytes = bytes ∷ [];
  read = (read, tt);
  answer = record {
    whole = whole;
    becomes = subst (λ (bs : List ℕ). BecomesWhole job bs whole) same (record { unbroken = unbroken; converted = converted });
    written = refl;
    text_is = refl;
  };
}

pub convert_refused : (job : ConvertJob) (files : Option Files) (bytes given : List ℕ) (fault : ImportFault) → AreReadUpTo most_bytes files job.file bytes → given ≡ bytes
    → fault ≢ faults.Memory → Refuses fault (conversion_of given job.time_digits job.energy_digits)
    → Answers (convert_task job) files (record { status = status.Refused; writes = []; text = refusal_text (refusal.Literal fault) })
convert_refused job files bytes given fault read same rule refuses = record {
  bytes = bytes ∷ [];
  read = (read, tt);
  answer = record {
    refusal = refusal.Literal fault;
    rule = rule;
    refused = subst (λ (bs : List ℕ). conversion_of bs job.time_digits job.energy_digits ≡ Err fault) same
        (refused_with fault (conversion_of given job.time_digits job.energy_digits) rule refuses);
    none = refl;
    text_is = refl;
  };
}
