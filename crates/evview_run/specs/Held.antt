-- What the plan file holds, by the form that the words name: plans of vehicles that start with one level, or none.
use Rattle.std.specs.Prelude.{◌≡◌, ◌⊎◌, ℕ, ◌<◌, ◌≤◌, List, [], ◌∷◌, Option, None, Some, Result, Ok, Err, length}
use Rattle.ev_model.specs.Network.{Network}
use Rattle.ev_model.specs.declared.Stop.{Stop}
use Rattle.fixed_reader.specs.FixedReading.{fixed_in}
use Rattle.instance_reader.specs.Faults.{IsFirstFault}
use Rattle.job_frame.specs.LimitedNetwork.{HasNetwork, IsNetworkRefused, IsPastLimit}
use Rattle.job_frame.specs.declared.answer.Ended.{Ended}
use Rattle.job_frame.specs.declared.answer.Ended.TheVariants.{Refused, Memory}
use Rattle.refusal_lines.specs.declared.refusal.Refusal.{Refusal}
use Rattle.refusal_lines.specs.declared.refusal.Refusal.TheVariants as refusal
use Rattle.route_plan.specs.PlanReading.{fleet_plan_in}
use Rattle.route_plan.specs.Limits.{most_routes}
use Rattle.route_plan.specs.declared.plan.FleetPlan.{FleetPlan}
use Rattle.route_plan.specs.declared.text.plan_text.PlanText.{PlanText}
use Rattle.view_words.specs.Words.{ViewPlan}
use Rattle.view_words.specs.declared.form.PlanForm.{PlanForm}
use Rattle.view_words.specs.declared.form.PlanForm.TheVariants as plan_form
use Rattle.evview_run.specs.declared.held.HeldPlans.{HeldPlans}

-- the level that the words name, else that of a full battery
abbrev pub level_of : Network → Option ℕ → ℕ
level_of g None = g.capacity
level_of g (Some level) = level

-- the level at which each vehicle starts
abbrev pub start_of : Network → PlanForm → ℕ
start_of g plan_form.Fleet = g.capacity
start_of g plan_form.Part = g.capacity
start_of g (plan_form.Fixed charge) = level_of g charge

-- a fleet plan, or none
abbrev pub held_fleet : ℕ → Result (Option FleetPlan) PlanText → Result HeldPlans PlanText
held_fleet start (Ok plan) = Ok (record { start = start; plan = plan; told = None })
held_fleet start (Err fault) = Err fault

-- a charged route is the plan of one vehicle, and its time is told
abbrev pub one_route : ℕ → List Stop × ℕ → HeldPlans
one_route start route = record {
  start = start;
  plan = Some (record { routes = record { stops = route.0 } ∷ [] });
  told = Some route.1;
}

-- a charged route, or none
abbrev pub held_charged : ℕ → Result (Option (List Stop × ℕ)) PlanText → Result HeldPlans PlanText
held_charged start (Ok None) = Ok (record { start = start; plan = None; told = None })
held_charged start (Ok (Some route)) = Ok (one_route start route)
held_charged start (Err fault) = Err fault

-- the plans of the bytes of a file, or the first fault of their text
abbrev pub held_in : Network → PlanForm → List ℕ → Result HeldPlans PlanText
held_in g plan_form.Fleet bytes = held_fleet g.capacity (fleet_plan_in bytes)
held_in g plan_form.Part bytes = held_fleet g.capacity (fleet_plan_in bytes)
held_in g (plan_form.Fixed charge) bytes =
    held_charged (level_of g charge) (fixed_in g.denominator bytes)

-- there are no more routes than a plan file may have
abbrev pub HasFewRoutes : Option FleetPlan → Type 0
HasFewRoutes None = Unit {0}
HasFewRoutes (Some plan) = length plan.routes ≤ most_routes

-- what is known of plans that were read
pub record FitsHeld (g : Network) (form : PlanForm) (held : HeldPlans) : Type 0 where
  pub start : held.start ≡ start_of g form
  pub within : held.start ≤ g.capacity
  pub few : HasFewRoutes held.plan

-- the instance and the limit break no rule, and vehicles can start with the level of the words
pub record HasStart (job : ViewPlan) (bytes : List ℕ) (g : Network) : Type 0 where
  pub network : HasNetwork job.limit bytes g
  pub within : start_of g job.form ≤ g.capacity

-- the same, and the plan file holds these plans
pub record HasHeld (job : ViewPlan) (bytes plan_bytes : List ℕ)
    (g : Network) (held : HeldPlans) : Type 0 where
  pub start : HasStart job bytes g
  pub is : held_in g job.form plan_bytes ≡ Ok held

-- no rule of a text is broken: what the two files hold
pub record HoldsPlans (job : ViewPlan) (bytes plan_bytes : List ℕ) : Type 0 where
  pub network : Network
  pub held : HeldPlans
  pub has : HasHeld job bytes plan_bytes network held

-- the first broken rule: of the instance, the limit, the level at the start, the plan's text
abbrev pub IsTextRefused : ViewPlan → List ℕ → List ℕ → Refusal → Type 0
IsTextRefused job bytes plan_bytes (refusal.Instance fault) = IsFirstFault bytes fault
IsTextRefused job bytes plan_bytes (refusal.Limit given) = IsPastLimit job.limit bytes given
IsTextRefused job bytes plan_bytes (refusal.Charge level) =
    (g : Network) × HasNetwork job.limit bytes g
    × (start_of g job.form ≡ level) × (g.capacity < level)
IsTextRefused job bytes plan_bytes (refusal.Plan fault) =
    (g : Network) × HasStart job bytes g × (held_in g job.form plan_bytes ≡ Err fault)
IsTextRefused job bytes plan_bytes other = ⊥

-- vehicles can't start with the level of the words
abbrev pub IsStartEnded : Network → PlanForm → Ended → Type 0
IsStartEnded g form (Refused r) =
    (level : ℕ) × (r ≡ refusal.Charge level) × (start_of g form ≡ level) × (g.capacity < level)
IsStartEnded g form Memory = Unit {0}

-- the first broken rule: of the instance, the limit, the level at the start; or memory was refused
abbrev pub IsSettingEnded : Option ℕ → PlanForm → List ℕ → Ended → Type 0
IsSettingEnded limit form bytes (Refused r) =
    IsNetworkRefused limit bytes r
    ⊎ ((g : Network) × HasNetwork limit bytes g × IsStartEnded g form (Refused r))
IsSettingEnded limit form bytes Memory = Unit {0}

-- the bytes are no text of a charged route, by this fault, or memory was refused
abbrev pub IsRouteEnded : ℕ → List ℕ → Ended → Type 0
IsRouteEnded denominator bytes (Refused r) =
    (fault : PlanText) × (r ≡ refusal.Plan fault) × (fixed_in denominator bytes ≡ Err fault)
IsRouteEnded denominator bytes Memory = Unit {0}

-- the bytes are no text of plans, by this fault, or memory was refused
abbrev pub IsHeldEnded : Network → PlanForm → List ℕ → Ended → Type 0
IsHeldEnded g form bytes (Refused r) =
    (fault : PlanText) × (r ≡ refusal.Plan fault) × (held_in g form bytes ≡ Err fault)
IsHeldEnded g form bytes Memory = Unit {0}
