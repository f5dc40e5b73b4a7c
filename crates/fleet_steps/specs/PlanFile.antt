-- The plan of a file beside its instance, or none where the file says so.
use Rattle.std.specs.Prelude.{◌≡◌, ℕ, ◌≤◌, List, Option, None, Some, Err, length, option_map}
use Rattle.ev_model.specs.Fleet.{cost_of, IsFleetPlan}
use Rattle.ev_model.specs.Network.{Network}
use Rattle.instance_reader.specs.Faults.{IsFirstFault}
use Rattle.job_frame.specs.LimitedNetwork.{HasNetwork, IsPastLimit}
use Rattle.job_frame.specs.declared.answer.Ended.{Ended}
use Rattle.job_frame.specs.declared.answer.Ended.TheVariants.{Refused, Memory}
use Rattle.plan_check.specs.FleetRules.{IsFirstBroken, stops_of}
use Rattle.plan_check.specs.declared.fault.LargeFault.{LargeFault}
use Rattle.plan_check.specs.declared.fault.LargeFault.TheVariants as large
use Rattle.plan_check.specs.declared.fault.PlanFault.{PlanFault}
use Rattle.refusal_lines.specs.declared.refusal.Refusal.{Refusal}
use Rattle.refusal_lines.specs.declared.refusal.Refusal.TheVariants as refusal
use Rattle.route_plan.specs.Limits as route
use Rattle.route_plan.specs.PlanReading.{fleet_plan_in}
use Rattle.route_plan.specs.PlanTexts.{SpellsFleetPlan}
use Rattle.route_plan.specs.declared.plan.FleetPlan.{FleetPlan}
use Rattle.route_plan.specs.declared.plan.RoutePlan.{RoutePlan}
use Rattle.route_plan.specs.declared.text.plan_text.PlanText.{PlanText}
use Rattle.fleet_steps.specs.FleetNetwork.{HasFleetNetwork}

-- the bytes of the instance and of the plan file break no rule: g is the network, and the file
-- holds the plan or says that there is none
pub record HasFleet (limit : Option ℕ) (bytes plan_bytes : List ℕ)
    (g : Network) (plan : Option FleetPlan) : Type 0 where
  pub network : HasFleetNetwork limit bytes g
  pub spelled : SpellsFleetPlan plan_bytes plan

-- the same of an instance with any number of customers
pub record HasPlan (limit : Option ℕ) (bytes plan_bytes : List ℕ)
    (g : Network) (plan : Option FleetPlan) : Type 0 where
  pub network : HasNetwork limit bytes g
  pub spelled : SpellsFleetPlan plan_bytes plan

-- a plan file with these bytes, where they aren't too many, is read as this plan
abbrev pub IsReadBack : List ℕ → Option FleetPlan → Type 0
IsReadBack plan_bytes plan =
    length plan_bytes ≤ route.most_bytes → SpellsFleetPlan plan_bytes plan

-- no rule of a text is broken, whatever the number of customers: what the two files hold
pub record HoldsPlan (limit : Option ℕ) (bytes plan_bytes : List ℕ) : Type 0 where
  pub network : Network
  pub plan : Option FleetPlan
  pub has : HasPlan limit bytes plan_bytes network plan

-- the first broken rule: of the instance, the limit, the plan's text
abbrev pub IsTextRefused : Option ℕ → List ℕ → List ℕ → Refusal → Type 0
IsTextRefused limit bytes plan_bytes (refusal.Instance fault) = IsFirstFault bytes fault
IsTextRefused limit bytes plan_bytes (refusal.Limit given) = IsPastLimit limit bytes given
IsTextRefused limit bytes plan_bytes (refusal.Plan fault) =
    (g : Network) × HasNetwork limit bytes g × (fleet_plan_in plan_bytes ≡ Err fault)
IsTextRefused limit bytes plan_bytes other = ⊥

-- the bytes are no text of a plan, by this fault, or memory was refused
abbrev pub IsPlanEnded : List ℕ → Ended → Type 0
IsPlanEnded bytes (Refused r) =
    (fault : PlanText) × (r ≡ refusal.Plan fault) × (fleet_plan_in bytes ≡ Err fault)
IsPlanEnded bytes Memory = Unit {0}

-- the routes of a plan, where there is one
abbrev pub routes_of : Option FleetPlan → Option (List RoutePlan)
routes_of plan = option_map (λ p. p.routes) plan

-- the plan is a fleet plan of this cost, or there is none
abbrev pub IsValid : Network → Option FleetPlan → Option ℕ → Type 0
IsValid g None cost = cost ≡ None
IsValid g (Some plan) cost =
    IsFleetPlan g 1 (stops_of plan.routes) × (cost ≡ Some (cost_of g 1 (stops_of plan.routes)))

-- there is a plan, and this is the first rule that it breaks
abbrev pub BreaksFirst : Network → Option FleetPlan → PlanFault → Type 0
BreaksFirst g None fault = ⊥
BreaksFirst g (Some plan) fault = IsFirstBroken g plan.routes fault

-- why a plan, or none, has no cost: the first rule that it breaks, or want of memory
abbrev pub IsUnfit : Network → Option FleetPlan → LargeFault → Type 0
IsUnfit g plan (large.Plan fault) = BreaksFirst g plan fault
IsUnfit g plan large.Memory = Unit {0}
