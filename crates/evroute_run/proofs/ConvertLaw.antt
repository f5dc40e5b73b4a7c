-- The causes of the statuses of `convert` exclude each other.
use Rattle.std.proofs.Common.{◌∙◌, ℕ, List, [], ◌∷◌, sym}
use Rattle.command_line.specs.Words.{ConvertJob}
use Rattle.ev_text.proofs.Results.{Err-ne-Ok}
use Rattle.job_frame.proofs.OneStatus.{ExcludeEachOther, IsPlain, lawful, nothing_excludes}
use Rattle.job_frame.specs.Lawful.{IsLawful}
use Rattle.job_frame.specs.Task.{Outcome}
use Rattle.job_frame.specs.Writes.{Written}
use Rattle.refusal_lines.specs.declared.refusal.Refusal.{Refusal}
use Rattle.refusal_lines.specs.declared.refusal.Refusal.TheVariants as refusal
use Rattle.evroute_run.specs.ConvertAnswer.{BecomesWhole, ConvertAnswers, IsConvertRefused, convert_answers, convert_task}
use Rattle.job_frame.specs.declared.status.Status.{Status}
use Rattle.job_frame.specs.declared.status.Status.TheVariants as status

refused_becomes_nothing : (job : ConvertJob) (bytes whole : List ℕ) (r : Refusal) → BecomesWhole job bytes whole → IsConvertRefused job bytes r → ⊥
refused_becomes_nothing job bytes whole (refusal.Literal e) becomes is = Err-ne-Ok e whole (sym is ∙ becomes.unbroken)
refused_becomes_nothing job bytes whole (refusal.Instance e) becomes is = absurd is
refused_becomes_nothing job bytes whole (refusal.Limit given) becomes is = absurd is
refused_becomes_nothing job bytes whole (refusal.Customers count) becomes is = absurd is
refused_becomes_nothing job bytes whole (refusal.Charge level) becomes is = absurd is
refused_becomes_nothing job bytes whole (refusal.Route e) becomes is = absurd is
refused_becomes_nothing job bytes whole (refusal.Plan e) becomes is = absurd is
refused_becomes_nothing job bytes whole (refusal.Certificate e) becomes is = absurd is
refused_becomes_nothing job bytes whole refusal.Maker becomes is = absurd is

ConvertCause : ConvertJob → List ℕ → Status → Type 0
ConvertCause job bytes s = (ws : List Written) × ((text : List ℕ) × ConvertAnswers job bytes s ws text)

convert_answered : (job : ConvertJob) (bytes : List ℕ) (s : Status) → ConvertCause job bytes s → IsPlain s
unfolding ConvertCause
convert_answered job bytes status.Done p = tt
convert_answered job bytes status.Refused p = tt
convert_answered job bytes status.Negative p = absurd p.1.1
convert_answered job bytes status.Words p = absurd p.1.1
convert_answered job bytes status.Fault p = absurd p.1.1
convert_answered job bytes status.Memory p = absurd p.1.1
convert_answered job bytes status.Stopped p = absurd p.1.1

convert_exclude : (job : ConvertJob) (bytes : List ℕ) → ExcludeEachOther (ConvertCause job bytes)
unfolding ConvertCause
convert_exclude job bytes = record {
  answered = convert_answered job bytes;
  done_negative = λ p q. absurd q.1.1;
  done_refused = λ p q. refused_becomes_nothing job bytes p.1.1.whole q.1.1.refusal p.1.1.becomes q.1.1.refused;
  negative_refused = λ p q. absurd p.1.1;
}

abbrev convert_cause : ConvertJob → List (List ℕ) → Status → Type 0
convert_cause job (bytes ∷ []) s = ConvertCause job bytes s
convert_cause job other s = ⊥

convert_has : (job : ConvertJob) (bytes : List (List ℕ)) (o : Outcome) → convert_answers job bytes o → convert_cause job bytes o.status
unfolding ConvertCause
convert_has job (bytes ∷ []) o is = (o.writes, (o.text, is))
convert_has job [] o is = absurd is
convert_has job (bytes ∷ more ∷ others) o is = absurd is

convert_each : (job : ConvertJob) (bytes : List (List ℕ)) → ExcludeEachOther (convert_cause job bytes)
convert_each job (bytes ∷ []) = convert_exclude job bytes
convert_each job [] = nothing_excludes
convert_each job (bytes ∷ more ∷ others) = nothing_excludes

pub convert_lawful : (job : ConvertJob) → IsLawful (convert_task job)
convert_lawful job = lawful (convert_task job) (convert_cause job) (convert_has job) (convert_each job)
