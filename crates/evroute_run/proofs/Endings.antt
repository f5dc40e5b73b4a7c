-- Why a step is the last of a command, by why the steps that several commands share are.
use Rattle.std.proofs.Common.{ℕ, List, Option, subst, sym}
use Rattle.ev_model.specs.Network.{Network}
use Rattle.fleet_steps.proofs.PlanFiles.{plan_rule}
use Rattle.fleet_steps.specs.FleetNetwork.{HasFleetNetwork, IsFleetEnded}
use Rattle.near_steps.specs.NearFile.{IsProofEnded}
use Rattle.fleet_steps.specs.PlanFile.{IsPlanEnded}
use Rattle.job_frame.specs.Ended.{IsRuleOrMemory}
use Rattle.job_frame.specs.LimitedNetwork.{HasNetwork}
use Rattle.job_frame.specs.declared.answer.Ended.{Ended}
use Rattle.job_frame.specs.declared.answer.Ended.TheVariants.{Refused, Memory}
use Rattle.refusal_lines.specs.declared.refusal.Refusal.{Refusal}
use Rattle.refusal_lines.specs.declared.refusal.Refusal.TheVariants as refusal
use Rattle.evroute_run.specs.CheckAnswer.{IsCheckRefused}
use Rattle.evroute_run.specs.CheckBoundAnswer.{IsCheckBoundRefused}
use Rattle.evroute_run.specs.Ended.{IsCheckBoundEnded, IsCheckEnded, IsImproveEnded}

-- a rule that the first steps on a fleet break is a rule of `check`, whatever its other files hold
pub check_at_instance : (limit : Option ℕ) (bytes plan_bytes cert_bytes : List ℕ) (e : Ended) → IsFleetEnded limit bytes e → IsCheckEnded limit bytes plan_bytes cert_bytes e
check_at_instance limit bytes plan_bytes cert_bytes Memory h = tt
check_at_instance limit bytes plan_bytes cert_bytes (Refused (refusal.Instance fault)) h = h
check_at_instance limit bytes plan_bytes cert_bytes (Refused (refusal.Limit given)) h = h
check_at_instance limit bytes plan_bytes cert_bytes (Refused (refusal.Customers count)) h = h
check_at_instance limit bytes plan_bytes cert_bytes (Refused (refusal.Charge level)) h = absurd h.1
check_at_instance limit bytes plan_bytes cert_bytes (Refused (refusal.Route fault)) h = absurd h.1
check_at_instance limit bytes plan_bytes cert_bytes (Refused (refusal.Plan fault)) h = absurd h.1
check_at_instance limit bytes plan_bytes cert_bytes (Refused (refusal.Certificate fault)) h = absurd h.1
check_at_instance limit bytes plan_bytes cert_bytes (Refused (refusal.Literal fault)) h = absurd h.1
check_at_instance limit bytes plan_bytes cert_bytes (Refused refusal.Maker) h = absurd h.1

-- the first fault of a plan's text is a rule of `check`, whatever its certificate holds
pub check_at_plan : (limit : Option ℕ) (bytes plan_bytes cert_bytes : List ℕ) (g : Network) (e : Ended) → HasFleetNetwork limit bytes g → IsRuleOrMemory e → IsPlanEnded plan_bytes e
    → IsCheckEnded limit bytes plan_bytes cert_bytes e
check_at_plan limit bytes plan_bytes cert_bytes g Memory fleet rule h = tt
check_at_plan limit bytes plan_bytes cert_bytes g (Refused r) fleet rule (fault, is, first) =
    (rule, subst (λ (x : Refusal). IsCheckRefused limit bytes plan_bytes cert_bytes x) (sym is) (g, fleet, first))

-- and a rule of `improve`
pub improve_at_plan : (limit : Option ℕ) (bytes plan_bytes : List ℕ) (g : Network) (e : Ended) → HasNetwork limit bytes g → IsRuleOrMemory e → IsPlanEnded plan_bytes e → IsImproveEnded limit bytes plan_bytes e
improve_at_plan limit bytes plan_bytes g Memory network rule h = tt
improve_at_plan limit bytes plan_bytes g (Refused r) network rule h = (rule, plan_rule limit bytes plan_bytes g r network h)

-- the first fault of a near proof's text is a rule of `check-bound`
pub check_bound_at_proof : (limit : Option ℕ) (bytes cert_bytes : List ℕ) (g : Network) (e : Ended) → HasFleetNetwork limit bytes g → IsRuleOrMemory e → IsProofEnded g cert_bytes e
    → IsCheckBoundEnded limit bytes cert_bytes e
check_bound_at_proof limit bytes cert_bytes g Memory fleet rule h = tt
check_bound_at_proof limit bytes cert_bytes g (Refused r) fleet rule (fault, is, first) =
    (rule, subst (λ (x : Refusal). IsCheckBoundRefused limit bytes cert_bytes x) (sym is) (g, fleet, first))
