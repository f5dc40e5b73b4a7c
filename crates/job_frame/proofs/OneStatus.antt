-- Tasks whose bytes have one status, since its cause excludes the others.
use Rattle.std.proofs.Common.{◌≡◌, ℕ, List, refl, subst}
use Rattle.job_frame.specs.Lawful.{IsLawful}
use Rattle.job_frame.specs.Task.{Outcome, Task}
use Rattle.job_frame.specs.declared.status.Status.{Status}
use Rattle.job_frame.specs.declared.status.Status.TheVariants as status

-- done, negative or refused
abbrev pub IsPlain : Status → Type 0
IsPlain status.Done = Unit {0}
IsPlain status.Negative = Unit {0}
IsPlain status.Refused = Unit {0}
IsPlain other = ⊥

-- three causes, of which each excludes the others
pub record ExcludeEachOther (Cause : Status → Type 0) : Type 0 where
  pub answered : (s : Status) → Cause s → IsPlain s
  pub done_negative : Cause status.Done → Cause status.Negative → ⊥
  pub done_refused : Cause status.Done → Cause status.Refused → ⊥
  pub negative_refused : Cause status.Negative → Cause status.Refused → ⊥

one_of : (Cause : Status → Type 0) → ExcludeEachOther Cause → (s t : Status) → Cause s → Cause t → s ≡ t
one_of Cause is status.Done status.Done p q = refl
one_of Cause is status.Done status.Negative p q = absurd (is.done_negative p q)
one_of Cause is status.Done status.Refused p q = absurd (is.done_refused p q)
one_of Cause is status.Done status.Words p q = absurd (is.answered status.Words q)
one_of Cause is status.Done status.Fault p q = absurd (is.answered status.Fault q)
one_of Cause is status.Done status.Memory p q = absurd (is.answered status.Memory q)
one_of Cause is status.Done status.Stopped p q = absurd (is.answered status.Stopped q)
one_of Cause is status.Negative status.Done p q = absurd (is.done_negative q p)
one_of Cause is status.Negative status.Negative p q = refl
one_of Cause is status.Negative status.Refused p q = absurd (is.negative_refused p q)
one_of Cause is status.Negative status.Words p q = absurd (is.answered status.Words q)
one_of Cause is status.Negative status.Fault p q = absurd (is.answered status.Fault q)
one_of Cause is status.Negative status.Memory p q = absurd (is.answered status.Memory q)
one_of Cause is status.Negative status.Stopped p q = absurd (is.answered status.Stopped q)
one_of Cause is status.Refused status.Done p q = absurd (is.done_refused q p)
one_of Cause is status.Refused status.Negative p q = absurd (is.negative_refused q p)
one_of Cause is status.Refused status.Refused p q = refl
one_of Cause is status.Refused status.Words p q = absurd (is.answered status.Words q)
one_of Cause is status.Refused status.Fault p q = absurd (is.answered status.Fault q)
one_of Cause is status.Refused status.Memory p q = absurd (is.answered status.Memory q)
one_of Cause is status.Refused status.Stopped p q = absurd (is.answered status.Stopped q)
one_of Cause is status.Words t p q = absurd (is.answered status.Words p)
one_of Cause is status.Fault t p q = absurd (is.answered status.Fault p)
one_of Cause is status.Memory t p q = absurd (is.answered status.Memory p)
one_of Cause is status.Stopped t p q = absurd (is.answered status.Stopped p)

-- bytes to which nothing is answered
pub nothing_excludes : ExcludeEachOther (λ s. ⊥)
nothing_excludes = record {
  answered = λ s p. absurd p;
  done_negative = λ p q. p;
  done_refused = λ p q. p;
  negative_refused = λ p q. p;
}

pub lawful : {C : Type 0} (task : Task C) (Cause : List (List ℕ) → Status → Type 0) → ((bytes : List (List ℕ)) (o : Outcome) → task.answers bytes o → Cause bytes o.status)
    → ((bytes : List (List ℕ)) → ExcludeEachOther (Cause bytes)) → IsLawful task
lawful {C} task Cause has exclude = record {
  one_status = λ bytes o p is was alike. one_of (Cause bytes) (exclude bytes) o.status p.status (has bytes o is) (has bytes p was);
  stopped = λ bytes o is stopped. absurd (subst (λ (s : Status). IsPlain s) stopped ((exclude bytes).answered o.status (has bytes o is)));
}
