-- What `make` answers.
use Rattle.std.proofs.Common.{◌≡◌, ◌≢◌, ◌∙◌, ◌∷◌, ℕ, Bool, List, [], None, Option, inr, refl, subst, sym}
use Rattle.command_line.specs.Words.{MakeJob}
use Rattle.ev_model.specs.Network.{Network}
use Rattle.ev_outside.specs.Shelf.{Files, ShelfState}
use Rattle.ev_outside.specs.Sink.{Adds}
use Rattle.evroute_causes.specs.declared.cause.Cause.{Cause}
use Rattle.evroute_run.specs.MakeAnswer.{HasNoInstance, MakeAnswers, MakesNetwork, made_file, make_task, text_made}
use Rattle.instance_reader.specs.Faults.{IsInstanceOf}
use Rattle.job_frame.specs.Performs.{PutsHeard, SparesFiles}
use Rattle.job_frame.specs.Task.{Answers}
use Rattle.job_frame.specs.Writes.{Leaves, Written}
use Rattle.job_frame.specs.declared.status.Status.{Status}
use Rattle.job_frame.specs.declared.status.Status.TheVariants as status
use Rattle.refusal_lines.specs.RefusalText.{refusal_text}
use Rattle.refusal_lines.specs.declared.refusal.Refusal.TheVariants as refusal

pub make_found : (job : MakeJob) (files : Option Files) (answered : Status) (ws : List Written) (text : List ℕ) → MakeAnswers job answered ws text →
    Answers (make_task job) files (record { status = answered; writes = ws; text = text })
make_found job files answered ws text answers = record { bytes = []; read = tt; answer = answers }

pub make_refused : (job : MakeJob) (files : Option Files) → HasNoInstance job →
    Answers (make_task job) files (record { status = status.Refused; writes = []; text = refusal_text refusal.Maker })
make_refused job files nothing =
    make_found job files status.Refused [] (refusal_text refusal.Maker) (record { refusal = refusal.Maker; rule = tt; refused = nothing; nothing = refl; text_is = refl })

-- a text that was made, and what it means
pub makes_network : (job : MakeJob) (g : Network) (bytes : List ℕ) → (HasNoInstance job → ⊥) → bytes ≡ text_made job → IsInstanceOf bytes g → MakesNetwork job g
makes_network job g bytes within same means = record { within = within; instance = subst (λ (bs : List ℕ). IsInstanceOf bs g) same means }

some_is_not_none : (w : Written) → ◌≡◌ {A = List Written} (w ∷ []) [] → ⊥
some_is_not_none w same = cc

-- what is answered behind a written file is no refusal
not_refused : (job : MakeJob) (s : Status) (text : List ℕ) → MakeAnswers job s (made_file job ∷ []) text → s ≢ status.Refused
not_refused job status.Done text answers is = cc
not_refused job status.Negative text answers is = cc
not_refused job status.Refused text answers is = some_is_not_none (made_file job) answers.nothing
not_refused job status.Words text answers is = absurd answers
not_refused job status.Fault text answers is = absurd answers
not_refused job status.Memory text answers is = absurd answers
not_refused job status.Stopped text answers is = absurd answers

-- it has no cause
pub make_heard : (job : MakeJob) (s : Status) (text : List ℕ) (before after : ShelfState) (old new : Option (List ℕ)) (ended : Status) (heard : Option Cause) → MakeAnswers job s (made_file job ∷ []) text
    → Leaves (made_file job ∷ []) before.files after.files → ended ≡ s → Adds old new text → PutsHeard (make_task job) before.files after.files old new ended heard
make_heard job s text before after old new ended heard answers leaves same put = record {
  puts = record {
    outcome = record { status = s; writes = made_file job ∷ []; text = text };
    answers = make_found job before.files s (made_file job ∷ []) text answers;
    status_is = same;
    written = leaves;
    put = put;
  };
  cause = None;
  is = inr ((λ is. not_refused job s text answers (sym same ∙ is)), refl);
  was_heard = tt;
}

-- want of memory leaves the made file alone behind
pub spares_made : (job : MakeJob) {writes_take puts_take : Bool} {files left : Option Files} {ended : Status} → (HasNoInstance job → ⊥) → Leaves (made_file job ∷ []) files left
    → SparesFiles (make_task job) writes_take puts_take files left ended
spares_made job {writes_take} {puts_take} {files} {left} {ended} within leaves = record { memory = λ writes puts is. inr (made_file job ∷ [], (within, refl), leaves) }
