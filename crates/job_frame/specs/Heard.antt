-- What is heard of an answer, by its status and its line: why it isn't the one that was asked for.
use Rattle.std.specs.Prelude.{◌≡◌, ◌≢◌, ◌⊎◌, ℕ, List, Option, None, Some}
use Rattle.job_frame.specs.declared.status.Status.{Status}
use Rattle.job_frame.specs.declared.status.Status.TheVariants as status
use Rattle.refusal_lines.specs.RefusalText.{refusal_text}
use Rattle.refusal_lines.specs.declared.refusal.Refusal.{Refusal}

-- the line of a broken rule is put, and this rule is heard, as a cause of this kind
pub record HearsRefusal {C : Type 0} (refused : Refusal → C)
    (answered : Status) (text : List ℕ) (heard : Option C) : Type 0 where
  pub refusal : Refusal
  pub status_is : answered ≡ status.Refused
  pub text_is : text ≡ refusal_text refusal
  pub heard_is : heard ≡ Some (refused refusal)

-- of other answers this is heard, by their status
abbrev pub HearsElse : {C : Type 0} → (Status → Option C) → Status → List ℕ → Option C → Type 0
HearsElse {C} by answered text heard = (answered ≢ status.Refused) × (heard ≡ by answered)

-- nothing
abbrev pub no_cause : {C : Type 0} → Status → Option C
no_cause {C} answered = None

-- of a job whose other answers are as plain as the one that was asked for
abbrev pub HearsRefusals : {C : Type 0} → (Refusal → C) → Status → List ℕ → Option C → Type 0
HearsRefusals {C} refused answered text heard =
    HearsRefusal refused answered text heard ⊎ HearsElse no_cause answered text heard

-- nothing is heard where the job did what it was asked for
abbrev pub HearsDone : {C : Type 0} → Status → List ℕ → Option C → Type 0
HearsDone {C} answered text heard = (answered ≡ status.Done) × (heard ≡ None)
