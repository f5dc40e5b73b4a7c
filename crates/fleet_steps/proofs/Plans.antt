-- Bytes hold one plan at most, a plan has one text, and a plan that has a cost breaks no rule.
use Rattle.std.proofs.Common.{◌≡◌, ◌∙◌, ℕ, List, Option, None, Some, refl, sym}
use Rattle.ev_model.specs.Network.{Network}
use Rattle.ev_text.proofs.Results.{Ok-injective}
use Rattle.ev_text.proofs.WholeLaws.{whole-spells}
use Rattle.fleet_steps.specs.PlanFile.{BreaksFirst, IsValid}
use Rattle.plan_check.proofs.FleetPlans.{fleet_plan_keeps}
use Rattle.plan_check.specs.declared.fault.PlanFault.{PlanFault}
use Rattle.route_plan.proofs.PlanLaws.{fleet_plan_is_spelled}
use Rattle.route_plan.proofs.PlanReaders.{AnyBehind, reader-file}
use Rattle.route_plan.specs.PlanReading.{file_at}
use Rattle.route_plan.specs.PlanTexts.{FitsFile, SpellsFleetPlan, fleet_plan_text}
use Rattle.route_plan.specs.declared.plan.FleetPlan.{FleetPlan}

pub same_plan : (bytes : List ℕ) (p q : Option FleetPlan) → SpellsFleetPlan bytes p → SpellsFleetPlan bytes q → p ≡ q
same_plan bytes p q is other = Ok-injective p q (sym ((fleet_plan_is_spelled bytes p).1 is) ∙ (fleet_plan_is_spelled bytes q).1 other)

-- plans with the same text are the same
pub one_plan : (p q : Option FleetPlan) → FitsFile p → FitsFile q → fleet_plan_text p ≡ fleet_plan_text q → p ≡ q
one_plan p q fits other same =
    let first = whole-spells file_at fleet_plan_text FitsFile AnyBehind reader-file (λ plan own. tt) (fleet_plan_text q) p in
    let second = whole-spells file_at fleet_plan_text FitsFile AnyBehind reader-file (λ plan own. tt) (fleet_plan_text q) q in
    Ok-injective p q (sym (first.1 (fits, sym same)) ∙ second.1 (other, refl))

pub valid_breaks_none : (g : Network) (plan : Option FleetPlan) (cost : Option ℕ) (fault : PlanFault) → IsValid g plan cost → BreaksFirst g plan fault → ⊥
valid_breaks_none g None cost fault valid broken = broken
valid_breaks_none g (Some plan) cost fault valid broken = fleet_plan_keeps g plan.routes valid.0 fault broken.broken
