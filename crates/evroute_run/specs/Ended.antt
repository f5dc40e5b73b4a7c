-- Why a step of a job is the last, job by job: the first rule is broken, or memory was refused.
use Rattle.std.specs.Prelude.{List, Option, ℕ}
use Rattle.command_line.specs.declared.Options.{Options}
use Rattle.evroute_run.specs.CheckAnswer.{IsCheckRefused}
use Rattle.evroute_run.specs.CheckBoundAnswer.{IsCheckBoundRefused}
use Rattle.evroute_run.specs.CheckRouteAnswer.{IsCheckRouteRefused}
use Rattle.evroute_run.specs.FixedAnswer.{IsRefused}
use Rattle.fleet_steps.specs.PlanFile.{IsTextRefused}
use Rattle.refusal_lines.specs.RefusalText.{IsRule}
use Rattle.job_frame.specs.declared.answer.Ended.{Ended}
use Rattle.job_frame.specs.declared.answer.Ended.TheVariants.{Refused, Memory}

-- of `fixed`
abbrev pub IsEnded : Options → List ℕ → List ℕ → Ended → Type 0
IsEnded options word bytes (Refused refusal) = IsRule refusal × IsRefused options word bytes refusal
IsEnded options word bytes Memory = Unit {0}

-- of `check`
abbrev pub IsCheckEnded : Option ℕ → List ℕ → List ℕ → List ℕ → Ended → Type 0
IsCheckEnded limit bytes plan_bytes cert_bytes (Refused refusal) =
    IsRule refusal × IsCheckRefused limit bytes plan_bytes cert_bytes refusal
IsCheckEnded limit bytes plan_bytes cert_bytes Memory = Unit {0}

-- of `check-route`
abbrev pub IsCheckRouteEnded : Options → List ℕ → List ℕ → List ℕ → Ended → Type 0
IsCheckRouteEnded options word bytes cert_bytes (Refused refusal) =
    IsRule refusal × IsCheckRouteRefused options word bytes cert_bytes refusal
IsCheckRouteEnded options word bytes cert_bytes Memory = Unit {0}

-- of `check-bound`
abbrev pub IsCheckBoundEnded : Option ℕ → List ℕ → List ℕ → Ended → Type 0
IsCheckBoundEnded limit bytes cert_bytes (Refused refusal) =
    IsRule refusal × IsCheckBoundRefused limit bytes cert_bytes refusal
IsCheckBoundEnded limit bytes cert_bytes Memory = Unit {0}

-- of `improve`
abbrev pub IsImproveEnded : Option ℕ → List ℕ → List ℕ → Ended → Type 0
IsImproveEnded limit bytes plan_bytes (Refused refusal) =
    IsRule refusal × IsTextRefused limit bytes plan_bytes refusal
IsImproveEnded limit bytes plan_bytes Memory = Unit {0}
