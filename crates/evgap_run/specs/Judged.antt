-- What the judges of a plan and of a proof find.
use Rattle.std.specs.Prelude.{◌≡◌, ℕ, false, List, Option, None, Some}
use Rattle.ev_model.specs.Network.{Network}
use Rattle.fleet_steps.specs.PlanFile.{BreaksFirst, IsValid}
use Rattle.evgap_run.specs.declared.cause.Cause.{Cause}
use Rattle.evgap_run.specs.declared.cause.Cause.TheVariants as cause
use Rattle.job_frame.specs.declared.status.Status.{Status}
use Rattle.job_frame.specs.declared.status.Status.TheVariants as status
use Rattle.refusal_lines.specs.RejectedText.{rejected_text}
use Rattle.report_lines.specs.Lines.{IsBoundOf}
use Rattle.route_plan.specs.declared.plan.FleetPlan.{FleetPlan}
use Rattle.tree_text.specs.BoundProofs.{IsAcceptedProof, IsTrueProof, bound_of}
use Rattle.tree_text.specs.BoundVerdicts.{AreOfOneKind, IsBoundVerdict, bound_verdict_text, is_accepted}
use Rattle.tree_text.specs.declared.bounds.proof.BoundProof.{BoundProof}
use Rattle.evgap_run.specs.Report.{IsSmallCost, accepted_text}
use Rattle.evgap_run.specs.declared.judging.Judgement.{Judgement}
use Rattle.evgap_run.specs.declared.judging.Judgement.TheVariants.{Accepted, Plan, Proof}

-- both are accepted, or the first broken rule is found
abbrev pub IsJudgementOf : Network → Option FleetPlan → BoundProof → Judgement → Type 0
IsJudgementOf g plan p (Accepted cost bound) =
    IsValid g plan cost × IsAcceptedProof g p × IsTrueProof g p × (bound ≡ bound_of p)
IsJudgementOf g plan p (Plan fault) = BreaksFirst g plan fault
IsJudgementOf g plan p (Proof found) =
    ((cost : Option ℕ) × IsValid g plan cost) × (is_accepted found ≡ false)
    × IsBoundVerdict g p found

-- what is accepted has a small cost, and no bound above it, and a rejected proof is of the kind of
-- its verdict
abbrev pub HasLines : BoundProof → Judgement → Type 0
HasLines p (Accepted cost bound) = IsBoundOf cost bound × IsSmallCost cost
HasLines p (Plan fault) = Unit {0}
HasLines p (Proof found) = AreOfOneKind p found

-- the lines of what is found, on a proof with this bound
abbrev pub judgement_text : ℕ → Option ℕ → Judgement → List ℕ
judgement_text denominator told (Accepted cost bound) = accepted_text denominator cost bound
judgement_text denominator told (Plan fault) = rejected_text fault
judgement_text denominator told (Proof found) = bound_verdict_text denominator told found

-- the status of what is found
abbrev pub judged_status : Judgement → Status
judged_status (Accepted cost bound) = status.Done
judged_status found = status.Negative

-- and its cause: the rule that is broken, where one is
abbrev pub judged_cause : Judgement → Option Cause
judged_cause (Accepted cost bound) = None
judged_cause (Plan fault) = Some (cause.Plan fault)
judged_cause (Proof found) = Some (cause.Proof found)

-- the lines of what the judges find are put, and its cause is heard
pub record HearsJudgement
    (answered : Status) (text : List ℕ) (heard : Option Cause) : Type 0 where
  pub denominator : ℕ
  pub told : Option ℕ
  pub found : Judgement
  pub status_is : answered ≡ judged_status found
  pub text_is : text ≡ judgement_text denominator told found
  pub heard_is : heard ≡ judged_cause found
