-- Which rules plans break: fleet plans, parts of them, and routes that are driven.
use Rattle.std.proofs.Common.{◌≡◌, ◌∙◌, ◌+◌, ◌<◌, ◌≤◌, ℕ, All, false, true, List, [], ◌∷◌, Option, None, Some, Result, Ok, Err, ap, arith, get_or, inl, length, refl, subst, sym}
use Rattle.std.specs.Option.{option_and_then}
use Rattle.std.proofs.lemmas.Bool.{ltb-false}
use Rattle.std.proofs.lemmas.List.{get_or-map, length-map}
use Rattle.std.proofs.lemmas.List.Elements.{All-cons, All-get_or, All-head, All-map, All-nil, All-tail}
use Rattle.std.proofs.lemmas.Option.{get_or_from_slice_get, slice_get-get_or, slice_get_within}
use Rattle.ev_model.specs.Feasible.{IsFeasible}
use Rattle.ev_model.specs.Fleet.{cost_of}
use Rattle.ev_model.specs.Network.{Network}
use Rattle.ev_model.specs.declared.Stop.{Stop}
use Rattle.fleet_steps.proofs.Plans.{valid_breaks_none}
use Rattle.fleet_steps.specs.PlanFile.{BreaksFirst, IsUnfit, IsValid}
use Rattle.plan_check.specs.FleetRules.{IsBroken, IsFirstBroken, IsRouteAt, rule_of, stops_of, times_served}
use Rattle.plan_check.specs.declared.fault.LargeFault.{LargeFault}
use Rattle.plan_check.specs.declared.fault.LargeFault.TheVariants as large
use Rattle.plan_check.specs.declared.fault.PlanFault.{PlanFault}
use Rattle.plan_check.specs.declared.fault.PlanFault.TheVariants.{EmptyRoute, Stray, Twice, Unserved, Walk}
use Rattle.plan_schedule.specs.Schedules.{times_of}
use Rattle.route_plan.proofs.Feasibly.{walked_is_feasible}
use Rattle.route_plan.proofs.Walked.{feasible_is_walked}
use Rattle.route_plan.specs.Walking.{walk_along}
use Rattle.route_plan.specs.declared.plan.FleetPlan.{FleetPlan}
use Rattle.route_plan.specs.declared.plan.RoutePlan.{RoutePlan}
use Rattle.route_plan.specs.declared.walks.Walk.{Walk as WalkEnd}
use Rattle.route_plan.specs.declared.walks.WalkFault.{WalkFault}
use Rattle.view_words.specs.declared.form.PlanForm.{PlanForm}
use Rattle.view_words.specs.declared.form.PlanForm.TheVariants as plan_form
use Rattle.evview_run.specs.Judged.{IsPartUnfit, IsUnshown}
use Rattle.evview_run.specs.ViewAnswer.{Breaks, IsDriven, IsPart, IsShowable, IsShownPart, first_walk, first_walk_in, is_of_part, walk_or}
use Rattle.evview_run.specs.declared.held.HeldPlans.{HeldPlans}

-- ---- what is broken before the other rules

feasible_unless : (g : Network) (start : ℕ) (stops : List Stop) (answer : Result WalkEnd WalkFault) → walk_along g start stops ≡ answer →
    ((reason : WalkFault) → walk_along g start stops ≡ Err reason → ⊥) → IsFeasible g 1 start stops
feasible_unless g start stops (Ok w) is none = (walked_is_feasible g start stops w is).0
feasible_unless g start stops (Err reason) is none = absurd (none reason is)

-- routes of which no walk breaks a rule
all_feasible : (g : Network) (plans : List RoutePlan) → ((route : ℕ) (reason : WalkFault) → IsBroken g plans (Walk route reason) → ⊥) → All (IsFeasible g 1 g.capacity) (stops_of plans)
all_feasible g plans none = All-map (IsFeasible g 1 g.capacity) (λ p. p.stops) plans
    (λ i d within. feasible_unless g g.capacity (get_or plans i d).stops (walk_along g g.capacity (get_or plans i d).stops) refl (λ reason fails. none i reason (get_or plans i d, slice_get-get_or plans i d within, fails)))

-- plans that break neither of the rules of a part
part_unless : (g : Network) (plans : List RoutePlan) → ((fault : PlanFault) → IsBroken g plans fault → rule_of fault < 3 → ⊥) → IsPart g plans
part_unless g plans none = record {
  feasible = all_feasible g plans (λ route reason broken. none (Walk route reason) broken (omega arith));
  once = λ customer known.
      let seldom : 1 < times_served g plans customer → ⊥ = λ more. none (Twice customer) (known, more) (omega arith) in
      omega (arith, seldom);
}

-- the first broken rule is none of a part
pub behind_is_part : (g : Network) (plans : List RoutePlan) (fault : PlanFault) → IsFirstBroken g plans fault → 3 ≤ rule_of fault → IsPart g plans
behind_is_part g plans fault first behind = part_unless g plans (λ other broken early. first.first other broken (inl (omega (arith, early, behind))))

-- what a part of a plan costs
abbrev part_cost : FleetPlan → Network → Option ℕ
part_cost plan g = Some (cost_of g 1 (stops_of plan.routes))

-- a part of a fleet plan, by how the whole is judged
pub valid_is_part : (g : Network) (plan : Option FleetPlan) (cost : Option ℕ) → IsValid g plan cost → (known : Option ℕ) × IsShownPart g plan known
valid_is_part g None cost valid = (None, refl)
valid_is_part g (Some plan) cost valid =
    let fleet = valid.0 in
    (part_cost plan g, (record { feasible = fleet.feasible; once = λ customer known. omega (arith, fleet.once customer known.0 known.1) }, refl))

pub unasked_is_part : (g : Network) (plan : Option FleetPlan) (fault : PlanFault) → BreaksFirst g plan fault → is_of_part fault ≡ false → (known : Option ℕ) × IsShownPart g plan known
unasked_is_part g None fault broken unasked = absurd broken
unasked_is_part g (Some plan) fault broken unasked =
    (part_cost plan g, (behind_is_part g plan.routes fault broken (omega (arith, ltb-false (rule_of fault) 3 unasked)), refl))

-- ---- what is shown breaks no rule that is asked

at_route : (g : Network) (plans : List RoutePlan) (i : ℕ) (p : RoutePlan) → All (IsFeasible g 1 g.capacity) (stops_of plans) → IsRouteAt plans i p → IsFeasible g 1 g.capacity p.stops
at_route g plans i p all at =
    let within = slice_get_within plans i p at in
    let long : i < length (stops_of plans) = rw length-map within in
    let same : get_or (stops_of plans) i p.stops ≡ p.stops =
    get_or-map (λ p. p.stops) plans i p p.stops within ∙ ap (λ (q : RoutePlan). q.stops) (get_or_from_slice_get plans i p p at) in
    subst (IsFeasible g 1 g.capacity) same (All-get_or (IsFeasible g 1 g.capacity) (stops_of plans) i p.stops long all)

part_keeps : (g : Network) (plans : List RoutePlan) → IsPart g plans → (fault : PlanFault) → IsBroken g plans fault → is_of_part fault ≡ true → ⊥
part_keeps g plans part (Walk route reason) broken asked =
    let well = feasible_is_walked g g.capacity broken.0.stops (at_route g plans route broken.0 part.feasible broken.1) in
    let fails : walk_along g g.capacity broken.0.stops ≡ Err reason = broken.2 in
    cc
part_keeps g plans part (Twice customer) broken asked = omega (arith, part.once customer broken.0, broken.1)
part_keeps g plans part (Unserved customer) broken asked = cc
part_keeps g plans part (EmptyRoute route) broken asked = cc
part_keeps g plans part (Stray route at) broken asked = cc

part_breaks_none : (g : Network) (plan : Option FleetPlan) (cost : Option ℕ) (fault : PlanFault) → IsShownPart g plan cost → BreaksFirst g plan fault → is_of_part fault ≡ true → ⊥
part_breaks_none g None cost fault part broken asked = broken
part_breaks_none g (Some plan) cost fault part broken asked = part_keeps g plan.routes part.0 fault broken.broken asked

-- ---- walks

all_walked : (g : Network) (start number : ℕ) (plans : List RoutePlan) → All (IsFeasible g 1 start) (stops_of plans) → first_walk g start number plans ≡ None
all_walked g start number [] all = refl
all_walked g start number (p ∷ plans) all =
    ap (λ (r : Result WalkEnd WalkFault). walk_or number r (first_walk g start (number + 1) plans)) (feasible_is_walked g start p.stops (All-head (IsFeasible g 1 start) p.stops (stops_of plans) all))
    ∙ all_walked g start (number + 1) plans (All-tail (IsFeasible g 1 start) p.stops (stops_of plans) all)

walked_all : (g : Network) (start number : ℕ) (plans : List RoutePlan) → first_walk g start number plans ≡ None → All (IsFeasible g 1 start) (stops_of plans)
walked_all g start number [] none = All-nil (IsFeasible g 1 start)
walked_all g start number (p ∷ plans) none = by (walk_along g start p.stops) refl none (walked_all g start (number + 1) plans)
  where
    by : (r : Result WalkEnd WalkFault) → walk_along g start p.stops ≡ r → walk_or number r (first_walk g start (number + 1) plans) ≡ None
        → (first_walk g start (number + 1) plans ≡ None → All (IsFeasible g 1 start) (stops_of plans)) → All (IsFeasible g 1 start) (stops_of (p ∷ plans))
    by (Ok end) is behind others = All-cons (IsFeasible g 1 start) p.stops (stops_of plans) (walked_is_feasible g start p.stops end is).0 (others behind)
    by (Err reason) is some others = absurd (cc)

driven_breaks_none : (g : Network) (start : ℕ) (plan : Option FleetPlan) (time : Option ℕ) (fault : PlanFault) → IsDriven g start plan time → option_and_then (λ plan. first_walk g start 0 plan.routes) plan ≡ Some fault → ⊥
driven_breaks_none g start None time fault driven broken = cc
driven_breaks_none g start (Some plan) time fault driven broken = let none = all_walked g start 0 plan.routes driven.0 in cc

pub walked_is_driven : (g : Network) (start : ℕ) (plan : Option FleetPlan) → option_and_then (λ plan. first_walk g start 0 plan.routes) plan ≡ None → (time : Option ℕ) × IsDriven g start plan time
walked_is_driven g start None none = (None, refl)
walked_is_driven g start (Some plan) none = (Some (times_of g start (stops_of plan.routes)), (walked_all g start 0 plan.routes none, refl))

pub showable_breaks_none : (form : PlanForm) (g : Network) (held : HeldPlans) (cost : Option ℕ) (fault : PlanFault) → IsShowable form g held cost → Breaks form g held fault → ⊥
showable_breaks_none plan_form.Fleet g held cost fault showable broken = valid_breaks_none g held.plan cost fault showable broken
showable_breaks_none plan_form.Part g held cost fault showable broken = part_breaks_none g held.plan cost fault showable broken.0 broken.1
showable_breaks_none (plan_form.Fixed charge) g held cost fault showable broken = driven_breaks_none g held.start held.plan cost fault showable broken

-- ---- how plans are judged, by the form

pub fleet_is_shown : (form : PlanForm) (g : Network) (held : HeldPlans) (plan : Option FleetPlan) (cost : Option ℕ) → form ≡ plan_form.Fleet → plan ≡ held.plan → IsValid g plan cost → (known : Option ℕ) × IsShowable form g held known
fleet_is_shown form g held plan cost is same valid =
    (cost, subst (λ (f : PlanForm). IsShowable f g held cost) (sym is) (subst (λ (p : Option FleetPlan). IsValid g p cost) same valid))

pub fleet_is_unshown : (form : PlanForm) (g : Network) (held : HeldPlans) (plan : Option FleetPlan) (fault : LargeFault) → form ≡ plan_form.Fleet → plan ≡ held.plan → IsUnfit g plan fault → IsUnshown form g held fault
fleet_is_unshown form g held plan (large.Plan fault) is same unfit =
    subst (λ (f : PlanForm). Breaks f g held fault) (sym is) (subst (λ (p : Option FleetPlan). BreaksFirst g p fault) same unfit)
fleet_is_unshown form g held plan large.Memory is same unfit = tt

pub part_is_shown : (form : PlanForm) (g : Network) (held : HeldPlans) (plan : Option FleetPlan) → form ≡ plan_form.Part → plan ≡ held.plan → (known : Option ℕ) × IsShownPart g plan known → (known : Option ℕ) × IsShowable form g held known
part_is_shown form g held plan is same (known, part) =
    (known, subst (λ (f : PlanForm). IsShowable f g held known) (sym is) (subst (λ (p : Option FleetPlan). IsShownPart g p known) same part))

pub part_is_unshown : (form : PlanForm) (g : Network) (held : HeldPlans) (plan : Option FleetPlan) (fault : LargeFault) → form ≡ plan_form.Part → plan ≡ held.plan → IsPartUnfit g plan fault → IsUnshown form g held fault
part_is_unshown form g held plan (large.Plan fault) is same unfit =
    subst (λ (f : PlanForm). Breaks f g held fault) (sym is) (subst (λ (p : Option FleetPlan). BreaksFirst g p fault × (is_of_part fault ≡ true)) same unfit)
part_is_unshown form g held plan large.Memory is same unfit = tt

pub route_is_shown : (form : PlanForm) (charge : Option ℕ) (g : Network) (held : HeldPlans) → form ≡ plan_form.Fixed charge → first_walk_in held g ≡ None → (known : Option ℕ) × IsShowable form g held known
route_is_shown form charge g held is none =
    let driven = walked_is_driven g held.start held.plan none in
    (driven.0, subst (λ (f : PlanForm). IsShowable f g held driven.0) (sym is) driven.1)

pub route_is_unshown : (form : PlanForm) (charge : Option ℕ) (g : Network) (held : HeldPlans) (fault : PlanFault) → form ≡ plan_form.Fixed charge → first_walk_in held g ≡ Some fault → IsUnshown form g held (large.Plan fault)
route_is_unshown form charge g held fault is some = subst (λ (f : PlanForm). Breaks f g held fault) (sym is) some
