-- What `bound` finds, once a bound was found or a rule is broken.
use Rattle.std.proofs.Common.{◌≡◌, ◌∙◌, ℕ, List, [], ◌∷◌, Option, None, Some, Result, Ok, Err, IfOk, ap, map, refl, subst, sym}
use Rattle.std.specs.List.{All}
use Rattle.std.proofs.lemmas.List.Elements.{All-cons, All-nil}
use Rattle.command_line.specs.Words.{BoundJob}
use Rattle.ev_model.specs.Network.{Network}
use Rattle.ev_outside.specs.Shelf.{Files}
use Rattle.evroute_run.proofs.Refused.{puts_fleet_refusal}
use Rattle.evroute_run.specs.BoundAnswer.{AcceptsBound, BoundAnswers, IsBoundFound, IsReadBack, PutsBound, bound_status, bound_task}
use Rattle.job_frame.specs.Caps.{most_bytes}
use Rattle.fleet_steps.specs.FleetNetwork.{HasFleetNetwork, IsFleetEnded}
use Rattle.job_frame.specs.declared.answer.Ended.{Ended}
use Rattle.job_frame.specs.declared.answer.Ended.TheVariants.{Refused}
use Rattle.job_frame.specs.Finds.{written_by}
use Rattle.job_frame.specs.Task.{Answers, AreReadUpTo, IsAnswered}
use Rattle.job_frame.specs.Writes.{AreDifferent, Written}
use Rattle.job_frame.specs.declared.found.Answer.{Answer}
use Rattle.job_frame.specs.declared.found.Found.{Found}
use Rattle.job_frame.specs.declared.status.Status.{Status}
use Rattle.job_frame.specs.declared.status.Status.TheVariants as status
use Rattle.near_proof.specs.declared.proof.NearProof.{NearProof}
use Rattle.near_text.specs.NearTexts.{near_text}
use Rattle.near_text.specs.VerdictText.{near_bound_text}
use Rattle.near_text.specs.Written.{written_near}
use Rattle.ng_pricing.specs.NearBound.{IsNearBound}
use Rattle.refusal_lines.specs.RefusalText.{refusal_text}
use Rattle.refusal_lines.specs.declared.refusal.Refusal.{Refusal}
use Rattle.evroute_causes.specs.declared.cause.Cause.{Cause}

-- a proof, with its bound and its file
pub puts_bound : {E : Type 0} (g : Network) (near : ℕ) (cert name : List ℕ) (proof : NearProof) (answer : Answer Cause) (file : Written) (made : Result (Found Cause) E) →
    IsNearBound g near proof → answer.status ≡ bound_status proof.bound → answer.text.items ≡ near_bound_text g.denominator proof.bound
    → name ≡ cert → file ≡ record { name = name; bytes = near_text (written_near g proof) } → IsReadBack g proof
    → IfOk made (λ f. f.answer ≡ answer) → IfOk made (λ f. map written_by f.files.items ≡ file ∷ [])
    → IfOk made (λ f. IsBoundFound g near cert f.answer.status (map written_by f.files.items) f.answer.text.items)
puts_bound {E} g near cert name proof answer file (Err e) is status text named spelled reads answered files = tt
puts_bound {E} g near cert name proof answer file (Ok f) is status text named spelled reads answered files = record {
  proof = proof;
  is = is;
  status_is = ap (λ (a : Answer Cause). a.status) answered ∙ status;
  written = files ∙ ap (λ (w : Written). w ∷ []) spelled
      ∙ ap (λ (n : List ℕ). let w : Written = record { name = n; bytes = near_text (written_near g proof) } in w ∷ []) named;
  read_back = reads;
  text_is = ap (λ (a : Answer Cause). a.text.items) answered ∙ text;
}

-- `check-bound` accepts what is written
accepts : (limit : Option ℕ) (bytes : List ℕ) (g : Network) (near : ℕ) (cert : List ℕ) (ended : Status) (ws : List Written) (text : List ℕ) → HasFleetNetwork limit bytes g
    → (found : IsBoundFound g near cert ended ws text) → All (AcceptsBound limit bytes g found.proof.bound) ws
accepts limit bytes g near cert ended ws text fleet found =
    let file : Written = record { name = cert; bytes = near_text (written_near g found.proof) } in
    let accepted : AcceptsBound limit bytes g found.proof.bound file =
    λ short. record {
      files = record { network = g; fleet = fleet; proof = found.proof; has = found.read_back short };
      accepted = found.is.accepted;
      shows = found.is.shows;
      text_is = refl;
    } in
    subst (λ (xs : List Written). All (AcceptsBound limit bytes g found.proof.bound) xs) (sym found.written)
    (All-cons (AcceptsBound limit bytes g found.proof.bound) file [] accepted (All-nil (AcceptsBound limit bytes g found.proof.bound)))

-- the line of a refusal
pub bound_refused : (job : BoundJob) (files : Option Files) (bytes given : List ℕ) (ended : Ended) (refusal : Refusal) → AreReadUpTo most_bytes files job.file bytes → given ≡ bytes
    → ended ≡ Refused refusal → IsFleetEnded job.limit given ended
    → Answers (bound_task job) files (record { status = status.Refused; writes = []; text = refusal_text refusal })
bound_refused job files bytes given ended refusal read same is refused = record {
  bytes = bytes ∷ [];
  read = (read, tt);
  answer = puts_fleet_refusal job.limit bytes given ended refusal same is refused;
}

by_bound : (job : BoundJob) (bytes : List ℕ) (bound : Option ℕ) (ws : List Written) (text : List ℕ) → PutsBound job bytes (bound_status bound) ws text
    → BoundAnswers job bytes (bound_status bound) ws text
by_bound job bytes None ws text p = p
by_bound job bytes (Some bound) ws text p = p

found_answers : (job : BoundJob) (bytes : List ℕ) (ended : Status) (ws : List Written) (text : List ℕ) → PutsBound job bytes ended ws text → BoundAnswers job bytes ended ws text
found_answers job bytes ended ws text p =
    let is : ended ≡ bound_status p.found.proof.bound = p.found.status_is in
    subst (λ (s : Status). BoundAnswers job bytes s ws text) (sym is)
    (by_bound job bytes p.found.proof.bound ws text (subst (λ (s : Status). PutsBound job bytes s ws text) is p))

-- a bound that was found
pub bound_found : (job : BoundJob) (files : Option Files) (bytes given : List ℕ) (g : Network) (ended : Status) (ws : List Written) (text : List ℕ) →
    AreReadUpTo most_bytes files job.file bytes → given ≡ bytes → HasFleetNetwork job.limit given g → IsBoundFound g job.near job.cert ended ws text
    → Answers (bound_task job) files (record { status = ended; writes = ws; text = text })
bound_found job files bytes given g ended ws text read same fleet found = record {
  bytes = bytes ∷ [];
  read = (read, tt);
  answer = found_answers job bytes ended ws text (let it = subst (λ (bs : List ℕ). HasFleetNetwork job.limit bs g) same fleet in record {
    network = g;
    fleet = it;
    found = found;
    judged = accepts job.limit bytes g job.near job.cert ended ws text it found;
  });
}

answered_status : (bound : Option ℕ) → IsAnswered (bound_status bound)
answered_status None = tt
answered_status (Some bound) = tt

pub found_is_answered : (g : Network) (near : ℕ) (cert : List ℕ) (ended : Status) (ws : List Written) (text : List ℕ) → IsBoundFound g near cert ended ws text → IsAnswered ended
found_is_answered g near cert ended ws text found = subst IsAnswered (sym found.status_is) (answered_status found.proof.bound)

pub found_writes_one : (g : Network) (near : ℕ) (cert : List ℕ) (ended : Status) (ws : List Written) (text : List ℕ) → IsBoundFound g near cert ended ws text → AreDifferent ws
found_writes_one g near cert ended ws text found = subst (λ (xs : List Written). AreDifferent xs) (sym found.written) (tt, tt)
