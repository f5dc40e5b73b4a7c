-- What is heard of an answer that was made, by its status, its text and its cause.
use Rattle.std.proofs.Common.{◌≡◌, ◌⊎◌, ℕ, List, Option, Some, Result, Ok, Err, IfOk, inl, refl, subst, sym}
use Rattle.job_frame.specs.Heard.{HearsRefusal}
use Rattle.job_frame.specs.declared.found.Answer.{Answer}
use Rattle.job_frame.specs.declared.found.Found.{Found}
use Rattle.job_frame.specs.declared.status.Status.{Status}
use Rattle.job_frame.specs.declared.status.Status.TheVariants as status
use Rattle.refusal_lines.specs.RefusalText.{refusal_text}
use Rattle.refusal_lines.specs.declared.refusal.Refusal.{Refusal}

-- this is heard of the answer
abbrev pub HearsOf : {C : Type 0} → (Status → List ℕ → Option C → Type 0) → Answer C → Type 0
HearsOf {C} Heard a = Heard a.status a.text.items a.cause

-- of the answer that was found
abbrev pub HearsOfFound : {C : Type 0} → (Status → List ℕ → Option C → Type 0) → Found C → Type 0
HearsOfFound {C} Heard f = HearsOf Heard f.answer

hears_refusal : {C : Type 0} (refused : Refusal → C) (r : Refusal) (a : Answer C) → a.status ≡ status.Refused → a.text.items ≡ refusal_text r → a.cause ≡ Some (refused r) → HearsOf (HearsRefusal refused) a
hears_refusal {C} refused r a answered text heard = record { refusal = r; status_is = answered; text_is = text; heard_is = heard }

-- what is heard of the line of a refusal, whatever else may be heard of the job
pub its_rule : {C Else : Type 0} (refused : Refusal → C) (r : Refusal) → HearsRefusal refused status.Refused (refusal_text r) (Some (refused r)) ⊎ Else
its_rule {C} {Else} refused r = inl (record { refusal = r; status_is = refl; text_is = refl; heard_is = refl })

-- the line of a refusal that was made
pub refusal_is_heard : {C E : Type 0} (refused : Refusal → C) (Else : Status → List ℕ → Option C → Type 0) (r : Refusal) (made : Result (Answer C) E) → IfOk made (λ a. a.status ≡ status.Refused)
    → IfOk made (λ a. a.text.items ≡ refusal_text r) → IfOk made (λ a. a.cause ≡ Some (refused r)) → IfOk made (λ a. HearsOf (HearsRefusal refused) a ⊎ HearsOf Else a)
refusal_is_heard {C} {E} refused Else r (Err e) answered text heard = tt
refusal_is_heard {C} {E} refused Else r (Ok a) answered text heard = inl (hears_refusal refused r a answered text heard)

-- the same as all that a job finds
pub refused_job_is_heard : {C E : Type 0} (refused : Refusal → C) (Else : Status → List ℕ → Option C → Type 0) (r : Refusal) (made : Result (Found C) E) → IfOk made (λ f. f.answer.status ≡ status.Refused)
    → IfOk made (λ f. f.answer.text.items ≡ refusal_text r) → IfOk made (λ f. f.answer.cause ≡ Some (refused r)) → IfOk made (λ f. HearsOfFound (HearsRefusal refused) f ⊎ HearsOfFound Else f)
refused_job_is_heard {C} {E} refused Else r (Err e) answered text heard = tt
refused_job_is_heard {C} {E} refused Else r (Ok f) answered text heard = inl (hears_refusal refused r f.answer answered text heard)

-- what was found tells what its answer does
pub found_is_heard : {C E : Type 0} (Heard : Status → List ℕ → Option C → Type 0) (a : Answer C) (made : Result (Found C) E) → IfOk made (λ f. f.answer ≡ a) → HearsOf Heard a → IfOk made (HearsOfFound Heard)
found_is_heard {C} {E} Heard a (Err e) same heard = tt
found_is_heard {C} {E} Heard a (Ok f) same heard = subst (λ (x : Answer C). HearsOf Heard x) (sym same) heard
