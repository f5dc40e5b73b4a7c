-- The causes of the statuses of `bound` exclude each other.
use Rattle.std.proofs.Common.{◌≡◌, ℕ, List, [], ◌∷◌, Option, None, Some, refl, subst}
use Rattle.command_line.specs.Words.{BoundJob}
use Rattle.ev_model.specs.Network.{Network}
use Rattle.fleet_steps.proofs.Instances.{fleet_refused_not, same_fleet}
use Rattle.evroute_run.proofs.NearSetsLaw.{stands_on_none}
use Rattle.evroute_run.specs.BoundAnswer.{BoundAnswers, PutsBound, bound_answers, bound_status, bound_task}
use Rattle.job_frame.proofs.OneStatus.{ExcludeEachOther, IsPlain, lawful, nothing_excludes}
use Rattle.job_frame.specs.Lawful.{IsLawful}
use Rattle.job_frame.specs.Task.{Outcome}
use Rattle.job_frame.specs.Writes.{Written}
use Rattle.job_frame.specs.declared.status.Status.{Status}
use Rattle.job_frame.specs.declared.status.Status.TheVariants as status
use Rattle.near_proof.specs.declared.proof.NearProof.{NearProof}
use Rattle.ng_pricing.specs.NearBound.{IsNearBound}

-- on one network, with one size of near sets, there is a bound or there is none
none_is_none : (g : Network) (near : ℕ) (p q : NearProof) → IsNearBound g near p → IsNearBound g near q → q.bound ≡ None → p.bound ≡ None
none_is_none g near p q is other none =
    let alone = other.none.0 none in
    is.none.1 (alone.0, alone.1, stands_on_none g near q.sets p.sets alone.0 other.sets is.sets alone.2)

not_done : (bound : Option ℕ) → bound ≡ None → status.Done ≡ bound_status bound → ⊥
not_done None none is = cc
not_done (Some bound) none is = absurd (cc)

negative_is_none : (bound : Option ℕ) → status.Negative ≡ bound_status bound → bound ≡ None
negative_is_none None is = refl
negative_is_none (Some bound) is = absurd (cc)

done_or_negative : (job : BoundJob) (bytes : List ℕ) (vs ws : List Written) (text told : List ℕ) → PutsBound job bytes status.Done vs text → PutsBound job bytes status.Negative ws told → ⊥
done_or_negative job bytes vs ws text told p q =
    let same : q.network ≡ p.network = same_fleet job.limit bytes q.network p.network q.fleet p.fleet in
    let other = subst (λ (g : Network). IsNearBound g job.near q.found.proof) same q.found.is in
    not_done p.found.proof.bound
    (none_is_none p.network job.near p.found.proof q.found.proof p.found.is other (negative_is_none q.found.proof.bound q.found.status_is))
    p.found.status_is

-- ---- the causes

BoundCause : BoundJob → List ℕ → Status → Type 0
BoundCause job bytes s = (ws : List Written) × ((text : List ℕ) × BoundAnswers job bytes s ws text)

answered : (job : BoundJob) (bytes : List ℕ) (s : Status) → BoundCause job bytes s → IsPlain s
unfolding BoundCause
answered job bytes status.Done p = tt
answered job bytes status.Negative p = tt
answered job bytes status.Refused p = tt
answered job bytes status.Words p = absurd p.1.1
answered job bytes status.Fault p = absurd p.1.1
answered job bytes status.Memory p = absurd p.1.1
answered job bytes status.Stopped p = absurd p.1.1

exclude : (job : BoundJob) (bytes : List ℕ) → ExcludeEachOther (BoundCause job bytes)
unfolding BoundCause
exclude job bytes = record {
  answered = answered job bytes;
  done_negative = λ p q. done_or_negative job bytes p.0 q.0 p.1.0 q.1.0 p.1.1 q.1.1;
  done_refused = λ p q. fleet_refused_not job.limit bytes p.1.1.network q.1.1.refusal p.1.1.fleet q.1.1.rule q.1.1.refused;
  negative_refused = λ p q. fleet_refused_not job.limit bytes p.1.1.network q.1.1.refusal p.1.1.fleet q.1.1.rule q.1.1.refused;
}

abbrev cause : BoundJob → List (List ℕ) → Status → Type 0
cause job (bytes ∷ []) s = BoundCause job bytes s
cause job other s = ⊥

has : (job : BoundJob) (bytes : List (List ℕ)) (o : Outcome) → bound_answers job bytes o → cause job bytes o.status
unfolding BoundCause
has job (bytes ∷ []) o is = (o.writes, (o.text, is))
has job [] o is = absurd is
has job (bytes ∷ more ∷ others) o is = absurd is

each : (job : BoundJob) (bytes : List (List ℕ)) → ExcludeEachOther (cause job bytes)
each job (bytes ∷ []) = exclude job bytes
each job [] = nothing_excludes
each job (bytes ∷ more ∷ others) = nothing_excludes

pub bound_lawful : (job : BoundJob) → IsLawful (bound_task job)
bound_lawful job = lawful (bound_task job) (cause job) (has job) (each job)
