-- What `bound` writes and puts on the bytes of its instance.
use Rattle.std.specs.Prelude.{◌≡◌, ℕ, ◌≤◌, List, [], ◌∷◌, Option, None, Some, length}
use Rattle.std.specs.List.{All}
use Rattle.certificate_parts.specs.Limits.{most_bytes}
use Rattle.command_line.specs.Words.{BoundJob}
use Rattle.ev_model.specs.Network.{Network}
use Rattle.near_proof.specs.declared.proof.NearProof.{NearProof}
use Rattle.near_proof.specs.declared.verdict.NearVerdict.TheVariants as verdict
use Rattle.near_text.specs.NearTexts.{near_text}
use Rattle.near_text.specs.VerdictText.{near_bound_text, near_verdict_text}
use Rattle.near_text.specs.Written.{written_near}
use Rattle.ng_pricing.specs.NearBound.{IsNearBound}
use Rattle.job_frame.specs.Caps.{file_read}
use Rattle.evroute_run.specs.CheckBoundAnswer.{PutsAcceptedBound}
use Rattle.near_steps.specs.NearFile.{HasNear}
use Rattle.fleet_steps.specs.FleetNetwork.{HasFleetNetwork}
use Rattle.evroute_run.specs.FleetRefusal.{PutsFleetRefusal}
use Rattle.evroute_causes.specs.Heard.{HearsSearch}
use Rattle.job_frame.specs.Task.{Outcome, Task}
use Rattle.job_frame.specs.Writes.{Written}
use Rattle.job_frame.specs.declared.status.Status.{Status}
use Rattle.job_frame.specs.declared.status.Status.TheVariants as status
use Rattle.evroute_causes.specs.declared.cause.Cause.{Cause}

-- the status where no fleet plan costs less than this, or where there is no fleet plan
abbrev pub bound_status : Option ℕ → Status
bound_status None = status.Negative
bound_status (Some bound) = status.Done

-- the text of a proof, where it isn't too long, is read as this proof
abbrev pub IsReadBack : Network → NearProof → Type 0
IsReadBack g p =
    length (near_text (written_near g p)) ≤ most_bytes → HasNear g (near_text (written_near g p)) p

-- A proof is written into the file `cert` that is accepted and true, with the near sets of so many
-- other customers; its prices are the greatest one by one, or it has no bound, exactly where some
-- customer stands on no near route. It is read back from what is written. The bound is put, which no
-- fleet plan costs less than, in any fraction of a unit; or that there is no fleet plan, in any
-- fraction.
pub record IsBoundFound (g : Network) (near : ℕ) (cert : List ℕ)
    (ended : Status) (ws : List Written) (text : List ℕ) : Type 0 where
  pub proof : NearProof
  pub is : IsNearBound g near proof
  pub status_is : ended ≡ bound_status proof.bound
  pub written : ws ≡ record { name = cert; bytes = near_text (written_near g proof) } ∷ []
  pub read_back : IsReadBack g proof
  pub text_is : text ≡ near_bound_text g.denominator proof.bound

-- what is written, where it isn't more than is read, `check-bound` accepts beside the same instance,
-- with this bound
abbrev pub AcceptsBound : Option ℕ → List ℕ → Network → Option ℕ → Written → Type 0
AcceptsBound limit bytes g bound w =
    length w.bytes ≤ most_bytes → PutsAcceptedBound limit bytes w.bytes
    (near_verdict_text g.denominator bound verdict.Accepted)

-- so it is on the instance of the bytes, with the limit of the words
pub record PutsBound (job : BoundJob) (bytes : List ℕ)
    (ended : Status) (ws : List Written) (text : List ℕ) : Type 0 where
  pub network : Network
  pub fleet : HasFleetNetwork job.limit bytes network
  pub found : IsBoundFound network job.near job.cert ended ws text
  pub judged : All (AcceptsBound job.limit bytes network found.proof.bound) ws

-- the file and the text that belong to a status
abbrev pub BoundAnswers : BoundJob → List ℕ → Status → List Written → List ℕ → Type 0
BoundAnswers job bytes status.Done ws text = PutsBound job bytes status.Done ws text
BoundAnswers job bytes status.Negative ws text = PutsBound job bytes status.Negative ws text
BoundAnswers job bytes status.Refused ws text = PutsFleetRefusal job.limit bytes ws text
BoundAnswers job bytes other ws text = ⊥

-- `bound` reads one file
abbrev pub bound_answers : BoundJob → List (List ℕ) → Outcome → Type 0
bound_answers job (bytes ∷ []) o = BoundAnswers job bytes o.status o.writes o.text
bound_answers job other o = ⊥

abbrev pub bound_task : BoundJob → Task Cause
bound_task job = record {
  reads = file_read job.file ∷ [];
  goes_on = λ before. Unit {0};
  answers = bound_answers job;
  heard = HearsSearch;
  asks = λ name. ⊥;
  writes_first = λ ws. ⊥;
  is_open = ⊥;
  has_budget = ⊥;
}
