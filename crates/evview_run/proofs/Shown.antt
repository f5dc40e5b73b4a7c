-- The one route that is asked for has a schedule, and the total time is what the plan costs.
use Rattle.std.proofs.Common.{◌≡◌, ◌∙◌, All, ℕ, ◌+◌, ◌<◌, List, [], ◌∷◌, suc, length, Option, None, Some, IfSome, ap, arith, refl, subst, sym}
use Rattle.std.specs.Option.{option_map}
use Rattle.ev_model.specs.Feasible.{IsFeasible}
use Rattle.ev_model.specs.Network.{Network}
use Rattle.fleet_steps.specs.PlanFile.{IsValid}
use Rattle.plan_check.specs.FleetRules.{stops_of}
use Rattle.plan_schedule.specs.Schedules.{route_schedules, schedule_of}
use Rattle.plan_schedule.specs.declared.schedule.Schedule.{Schedule}
use Rattle.route_plan.specs.declared.plan.FleetPlan.{FleetPlan}
use Rattle.route_plan.specs.declared.plan.RoutePlan.{RoutePlan}
use Rattle.plan_schedule.proofs.RouteTimes.{full_times, times_are}
use Rattle.view_words.specs.declared.form.PlanForm.{PlanForm}
use Rattle.view_words.specs.declared.form.PlanForm.TheVariants as plan_form
use Rattle.evview_run.specs.Held.{start_of}
use Rattle.evview_run.specs.ViewAnswer.{HasRoute, IsDriven, IsShowable, IsShownPart, part_of, shown_from, shown_of}
use Rattle.evview_run.specs.declared.held.HeldPlans.{HeldPlans}

many_routes : (g : Network) (start : ℕ) (number : ℕ) (plans : List RoutePlan) → length (route_schedules g start number (stops_of plans)) ≡ length plans
many_routes g start number [] = refl
many_routes g start number (p ∷ plans) = ap suc (many_routes g start (number + 1) plans)

pub part_is_there : (g : Network) (start : ℕ) (plan : FleetPlan) (route : Option ℕ) (whole : Schedule) → HasRoute route (Some plan) → whole ≡ schedule_of g start (stops_of plan.routes)
    → IfSome route (λ number. number < length whole.routes)
part_is_there g start plan None whole there is = tt
part_is_there g start plan (Some number) whole there is =
    let count : length whole.routes ≡ length plan.routes = ap (λ (s : Schedule). length s.routes) is ∙ many_routes g start 0 plan.routes in
    omega (arith, there, count)

-- ---- what is shown can be driven

valid_is_driven : (g : Network) (plan : Option FleetPlan) (cost : Option ℕ) → IsValid g plan cost → IsDriven g g.capacity plan cost
valid_is_driven g None cost valid = valid
valid_is_driven g (Some plan) cost valid = (valid.0.feasible, valid.1 ∙ ap (λ (n : ℕ). Some n) (sym (full_times g (stops_of plan.routes))))

part_is_driven : (g : Network) (plan : Option FleetPlan) (cost : Option ℕ) → IsShownPart g plan cost → IsDriven g g.capacity plan cost
part_is_driven g None cost part = part
part_is_driven g (Some plan) cost part = (part.0.feasible, part.1 ∙ ap (λ (n : ℕ). Some n) (sym (full_times g (stops_of plan.routes))))

pub showable_is_driven : (form : PlanForm) (g : Network) (held : HeldPlans) (cost : Option ℕ) → held.start ≡ start_of g form → IsShowable form g held cost → IsDriven g held.start held.plan cost
showable_is_driven plan_form.Fleet g held cost start valid = subst (λ (n : ℕ). IsDriven g n held.plan cost) (sym start) (valid_is_driven g held.plan cost valid)
showable_is_driven plan_form.Part g held cost start part = subst (λ (n : ℕ). IsDriven g n held.plan cost) (sym start) (part_is_driven g held.plan cost part)
showable_is_driven (plan_form.Fixed charge) g held cost start driven = driven

pub driven_is_feasible : (g : Network) (start : ℕ) (plan : Option FleetPlan) (cost : Option ℕ) → IsDriven g start plan cost → IfSome plan (λ p. All (IsFeasible g 1 start) (stops_of p.routes))
driven_is_feasible g start None cost driven = tt
driven_is_feasible g start (Some plan) cost driven = driven.0

-- ---- what is shown, beside what the plan costs

part_time : (whole : Schedule) (route : Option ℕ) → (part_of whole route).totals.time ≡ whole.totals.time
part_time whole None = refl
part_time whole (Some number) = refl

driven_time : (g : Network) (start : ℕ) (route : Option ℕ) (plan : Option FleetPlan) (cost : Option ℕ) → IsDriven g start plan cost → option_map (λ (s : Schedule). s.totals.time) (shown_from g start route plan) ≡ cost
driven_time g start route None cost driven = sym driven
driven_time g start route (Some plan) cost driven =
    let plans = stops_of plan.routes in
    ap (λ (n : ℕ). Some n) (part_time (schedule_of g start plans) route ∙ times_are g start plans driven.0) ∙ sym driven.1

pub time_is_cost : (form : PlanForm) (g : Network) (route : Option ℕ) (held : HeldPlans) (cost : Option ℕ) → held.start ≡ start_of g form → IsShowable form g held cost
    → option_map (λ (s : Schedule). s.totals.time) (shown_of g route held) ≡ cost
time_is_cost form g route held cost start showable = driven_time g held.start route held.plan cost (showable_is_driven form g held cost start showable)
