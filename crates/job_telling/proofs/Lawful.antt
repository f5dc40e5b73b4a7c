-- The job of telling of a program is found and lawful.
use Rattle.std.proofs.Common.{◌∙◌, ℕ, List, ap, sym}
use Rattle.job_frame.specs.Lawful.{IsLawful}
use Rattle.job_frame.specs.Task.{Outcome}
use Rattle.job_telling.specs.ToldTask.{tell_task}
use Rattle.job_telling.specs.declared.words.Told.{Told}

-- it is done alone
pub tell_lawful : {C : Type 0} (program usage : List ℕ) (told : Told) → IsLawful (tell_task {C = C} program usage told)
tell_lawful {C} program usage told = record {
  one_status = λ bytes o p is other alike. ap (λ (x : Outcome). x.status) (is ∙ sym other);
  stopped = λ bytes o is stopped. let done = sym (ap (λ (x : Outcome). x.status) is) ∙ stopped in absurd (cc);
}
