-- What is reported of a search.
use Rattle.std.specs.Borrow.{Bor}
use Rattle.std.specs.Option.{option_map}
use Rattle.std.proofs.Common.{◌≡◌, ◌≢◌, ℕ, Bool, false, true, List, Option, None, Some, IfSome, refl, subst, sym}
use Rattle.ev_model.specs.Network.{IsNetwork, Network}
use Rattle.fleet_steps.specs.PlanFile.{BreaksFirst, IsValid}
use Rattle.gap_search.specs.Gap.{IsGapOutcome, IsHeld, cost_held, plan_held}
use Rattle.gap_search.specs.declared.outcome.GapOutcome.{GapOutcome}
use Rattle.job_frame.specs.declared.status.Status.{Status}
use Rattle.report_lines.specs.Lines.{IsBoundOf}
use Rattle.route_improve.proofs.Answered.{moved_orderly}
use Rattle.route_improve.specs.Improved.{IsOrderly}
use Rattle.route_improve.specs.declared.improving.Improved.{Improved}
use Rattle.route_improve.specs.declared.improving.Improved.TheVariants.{Alone, Plan}
use Rattle.plan_check.proofs.FleetPlans.{fleet_plan_keeps}
use Rattle.plan_check.specs.declared.fault.PlanFault.{PlanFault}
use Rattle.route_plan.specs.PlanTexts.{FitsFile, fleet_plan_text}
use Rattle.route_plan.specs.declared.plan.FleetPlan.{FleetPlan}
use Rattle.route_plan.specs.declared.plan.RoutePlan.{RoutePlan}
use Rattle.tree_text.proofs.BoundLaws.{shown_bound}
use Rattle.tree_text.specs.BoundProofs.{bound_of, bound_proof_text}
use Rattle.tree_text.specs.declared.bounds.proof.BoundProof.{BoundProof}
use Rattle.evgap_run.specs.declared.cause.Cause.TheVariants as cause
use Rattle.evgap_run.proofs.PlanFinds.{same_routes}
use Rattle.evgap_run.specs.PlanAnswer.{IsPlanFound, alone_in, found_cause, plan_status}
use Rattle.evgap_run.specs.Report.{found_text}

pub held_is_orderly : (g : Network) (start : Option (List RoutePlan)) (ended : Bool) (held : Improved) → IsHeld g start ended held → IfSome (plan_held held) (λ p. IsOrderly g p.routes)
held_is_orderly g start ended (Plan plan) is = moved_orderly g ended plan.routes is.0
held_is_orderly g start ended (Alone node) is = tt

-- what was found, by what it costs
pub is_found : (g : Network) (start : Option (Bor FleetPlan)) (may_end moves_ended : Bool) (o : GapOutcome) (cost alone : Option ℕ) (plan_bytes proof_bytes text : List ℕ) (ended : Status) → IsNetwork g → (may_end ≡ false → moves_ended ≡ false) →
    IsGapOutcome g (option_map (λ p. p.now.routes) start) moves_ended o → cost ≡ cost_held g o.plan → alone ≡ alone_in o.plan → plan_bytes ≡ fleet_plan_text (plan_held o.plan) →
    proof_bytes ≡ bound_proof_text g o.proof → ended ≡ plan_status cost (bound_of o.proof) → text ≡ found_text g.denominator alone cost (bound_of o.proof)
    → IsPlanFound g (option_map (λ p. p.now) start) may_end plan_bytes proof_bytes ended text
is_found g start may_end moves_ended o cost alone plan_bytes proof_bytes text ended network may is cost_is alone_is plan_is proof_is ended_is text_is = record {
  is_network = network;
  outcome = o;
  moves_ended = moves_ended;
  may = may;
  is = subst (λ (from : Option (List RoutePlan)). IsGapOutcome g from moves_ended o) (same_routes start) is;
  true_bound = shown_bound g o.proof is.proof;
  plan_is = plan_is;
  proof_is = proof_is;
  status_is = subst (λ (c : Option ℕ). ended ≡ plan_status c (bound_of o.proof)) cost_is ended_is;
  text_is = subst (λ (a : Option ℕ). text ≡ found_text g.denominator a (cost_held g o.plan) (bound_of o.proof)) alone_is
      (subst (λ (c : Option ℕ). text ≡ found_text g.denominator alone c (bound_of o.proof)) cost_is text_is);
}

-- no move is left unless it is told that a clock ended them
unended_by : (g : Network) (start : Option (List RoutePlan)) (ended : Bool) (plan : Improved) (proof : BoundProof) (bound : Option ℕ) → bound_of proof ≡ bound → IsGapOutcome g start ended (record { plan = plan; proof = proof })
    → found_cause (alone_in plan) bound ended ≢ Some cause.MovesEnded → IsGapOutcome g start false (record { plan = plan; proof = proof })
unended_by g start false plan proof bound same is untold = is
unended_by g start true (Plan plan) proof (Some b) same is untold = absurd (untold refl)
unended_by g start true (Plan plan) proof None same is untold = let none : Some plan ≡ None = is.none same in absurd (cc)
unended_by g start true (Alone node) proof bound same is untold = record { plan = is.plan; proof = is.proof; bound = is.bound; none = is.none }

pub unended : (g : Network) (start : Option (List RoutePlan)) (ended : Bool) (o : GapOutcome) → IsGapOutcome g start ended o → found_cause (alone_in o.plan) (bound_of o.proof) ended ≢ Some cause.MovesEnded → IsGapOutcome g start false o
unended g start ended o is untold = unended_by g start ended o.plan o.proof (bound_of o.proof) refl is untold

-- it is told only where one ended them
pub told_ended : (alone bound : Option ℕ) (ended : Bool) → found_cause alone bound ended ≡ Some cause.MovesEnded → ended ≡ true
told_ended alone bound true told = refl
told_ended alone None false told = absurd (cc)
told_ended (Some node) (Some b) false told = absurd (cc)
told_ended None (Some b) false told = absurd (cc)

pub bounds_cost : (cost held bound : Option ℕ) → cost ≡ held → IsBoundOf held bound → IsBoundOf cost bound
bounds_cost cost held bound is bounds = subst (λ (c : Option ℕ). IsBoundOf c bound) (sym is) bounds

-- ---- what the plan that is held costs

module _ (g : Network) (held : Improved) where
  pub costs_held : (cost : Option ℕ) → IsValid g (plan_held held) cost → cost ≡ cost_held g held
  costs_held cost valid = by held cost valid
    where
      by : (h : Improved) (cost : Option ℕ) → IsValid g (plan_held h) cost → cost ≡ cost_held g h
      by (Plan plan) cost valid = valid.1
      by (Alone node) cost valid = valid

  text_by : (h : Improved) → IfSome (plan_held h) (λ p. IsOrderly g p.routes) → FitsFile (plan_held h)
  text_by (Plan plan) is = is.text
  text_by (Alone node) is = tt

  -- it may stand in a text
  pub text_of_held : (plan : Option FleetPlan) → plan ≡ plan_held held → IfSome (plan_held held) (λ p. IsOrderly g p.routes) → FitsFile plan
  text_of_held plan same is = subst (λ (p : Option FleetPlan). FitsFile p) (sym same) (text_by held is)

  unbroken_by : (h : Improved) (fault : PlanFault) → IfSome (plan_held h) (λ p. IsOrderly g p.routes) → BreaksFirst g (plan_held h) fault → ⊥
  unbroken_by (Plan plan) fault is broken = fleet_plan_keeps g plan.routes is.fleet fault broken.broken
  unbroken_by (Alone node) fault is broken = broken

  -- and breaks no rule
  pub held_unbroken : (plan : Option FleetPlan) (fault : PlanFault) → plan ≡ plan_held held → IfSome (plan_held held) (λ p. IsOrderly g p.routes) → BreaksFirst g plan fault → ⊥
  held_unbroken plan fault same is broken = unbroken_by held fault is (subst (λ (p : Option FleetPlan). BreaksFirst g p fault) same broken)
