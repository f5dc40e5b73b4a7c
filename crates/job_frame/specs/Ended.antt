-- Why a step of a job is the last: the first rule is broken, or memory was refused.
use Rattle.std.specs.Prelude.{List, Option, ℕ}
use Rattle.job_frame.specs.LimitedNetwork.{IsNetworkRefused}
use Rattle.job_frame.specs.declared.answer.Ended.{Ended}
use Rattle.job_frame.specs.declared.answer.Ended.TheVariants.{Refused, Memory}
use Rattle.refusal_lines.specs.RefusalText.{IsRule}

-- a step that is the last by a refusal names a rule
abbrev pub IsRuleOrMemory : Ended → Type 0
IsRuleOrMemory (Refused refusal) = IsRule refusal
IsRuleOrMemory Memory = Unit {0}

-- of the steps that each job has
abbrev pub IsNetworkEnded : Option ℕ → List ℕ → Ended → Type 0
IsNetworkEnded limit bytes (Refused refusal) = IsRule refusal × IsNetworkRefused limit bytes refusal
IsNetworkEnded limit bytes Memory = Unit {0}
