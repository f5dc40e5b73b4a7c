-- What `fixed` finds.
use Rattle.std.proofs.Common.{◌≡◌, ℕ, List, [], ◌∷◌, Option, refl, subst}
use Rattle.command_line.specs.Words.{FixedJob}
use Rattle.ev_outside.specs.Shelf.{Files}
use Rattle.job_frame.specs.Caps.{most_bytes}
use Rattle.evroute_run.specs.FixedAnswer.{FixedAnswers, fixed_task}
use Rattle.job_frame.specs.Task.{Answers, AreReadUpTo}
use Rattle.job_frame.specs.declared.status.Status.{Status}

pub fixed_found : (job : FixedJob) (files : Option Files) (bytes given : List ℕ) (answered : Status) (text : List ℕ) → AreReadUpTo most_bytes files job.file bytes → given ≡ bytes
    → FixedAnswers job.options job.route given answered text → Answers (fixed_task job) files (record { status = answered; writes = []; text = text })
fixed_found job files bytes given answered text read same answers = record {
  bytes = bytes ∷ [];
  read = (read, tt);
  answer = (subst (λ (bs : List ℕ). FixedAnswers job.options job.route bs answered text) same answers, refl);
}
