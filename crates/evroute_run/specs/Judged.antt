-- What the judges of a plan and of a certificate find.
use Rattle.std.specs.Prelude.{◌≡◌, Option}
use Rattle.bound_certificate.specs.declared.certificate.Certificate.{Certificate}
use Rattle.certificate_check.specs.Accepted.{IsAccepted}
use Rattle.certificate_check.specs.Truth.{IsTrueCertificate}
use Rattle.ev_model.specs.Network.{Network}
use Rattle.plan_writer.specs.declared.check.Judgement.{Judgement}
use Rattle.plan_writer.specs.declared.check.Judgement.TheVariants as judgement
use Rattle.route_plan.specs.declared.plan.FleetPlan.{FleetPlan}
use Rattle.evroute_run.specs.CheckAnswer.{IsRejection}
use Rattle.fleet_steps.specs.PlanFile.{IsValid}

-- both are accepted, or the first broken rule is found
abbrev pub IsJudgementOf : Network → Option FleetPlan → Certificate → Judgement → Type 0
IsJudgementOf g plan c (judgement.Accepted cost bound) =
    IsValid g plan cost × IsAccepted g c × IsTrueCertificate g c × (bound ≡ c.bound)
IsJudgementOf g plan c found = IsRejection g plan c found
