-- Why a step of a job is the last.
use Rattle.std.proofs.Common.{◌≡◌, subst}
use Rattle.job_frame.specs.Ended.{IsRuleOrMemory}
use Rattle.job_frame.specs.declared.answer.Ended.{Ended}
use Rattle.job_frame.specs.declared.answer.Ended.TheVariants.{Refused}
use Rattle.refusal_lines.specs.RefusalText.{IsRule}
use Rattle.refusal_lines.specs.declared.refusal.Refusal.{Refusal}

-- a refusal names a rule
pub rule_of : (ended : Ended) (r : Refusal) → ended ≡ Refused r → IsRuleOrMemory ended → IsRule r
rule_of ended r is rule = subst (λ (e : Ended). IsRuleOrMemory e) is rule
