-- The routes of a plan, one after another.
use Rattle.std.proofs.Common.{◌≡◌, ◌∙◌, ℕ, suc, ◌+◌, ◌<◌, List, [], ◌∷◌, ◌++◌, append_assoc, drop, drop-cons, get_or, length, refl, sym, ap, subst, add-one}
use Rattle.std.specs.List.{All}
use Rattle.std.proofs.lemmas.List.Elements.{All-head, All-tail}
use Rattle.ev_model.specs.Feasible.{IsFeasible}
use Rattle.ev_model.specs.Network.{Network}
use Rattle.ev_model.specs.declared.Stop.{Stop}
use Rattle.plan_check.specs.FleetRules.{stops_of}
use Rattle.route_plan.specs.declared.plan.RoutePlan.{RoutePlan}
use Rattle.plan_schedule.specs.Schedules.{route_schedule, route_schedules}
use Rattle.plan_schedule.specs.declared.schedule.RouteSchedule.{RouteSchedule}

-- the route at a position, and those behind it
cut_at : (plans : List RoutePlan) (p : RoutePlan) (i : ℕ) → p ≡ get_or plans i p → i < length plans → drop i plans ≡ p ∷ drop (suc i) plans
cut_at plans p i is within = drop-cons plans i p within ∙ ap (λ q. q ∷ drop (suc i) plans) (sym is)

-- each route of those that are left is feasible
abbrev pub AreFeasible : Network → ℕ → List RoutePlan → Type 0
AreFeasible g start plans = All (IsFeasible g 1 start) (stops_of plans)

pub feasible_here : (g : Network) (start : ℕ) (plans : List RoutePlan) (p : RoutePlan) (i : ℕ) → p ≡ get_or plans i p → i < length plans → AreFeasible g start (drop i plans) → IsFeasible g 1 start p.stops
feasible_here g start plans p i is within all =
    All-head (IsFeasible g 1 start) p.stops (stops_of (drop (suc i) plans)) (subst (λ ps. AreFeasible g start ps) (cut_at plans p i is within) all)

pub feasible_behind : (g : Network) (start : ℕ) (plans : List RoutePlan) (p : RoutePlan) (i : ℕ) → p ≡ get_or plans i p → i < length plans → AreFeasible g start (drop i plans) → AreFeasible g start (drop (i + 1) plans)
feasible_behind g start plans p i is within all =
    rw add-one (All-tail (IsFeasible g 1 start) p.stops (stops_of (drop (suc i) plans)) (subst (λ ps. AreFeasible g start ps) (cut_at plans p i is within) all))

-- one schedule more was made
pub told_next : (g : Network) (start : ℕ) (items more : List RouteSchedule) (r : RouteSchedule) (all : List RouteSchedule) (plans : List RoutePlan) (p : RoutePlan) (i : ℕ) → p ≡ get_or plans i p → i < length plans → more ≡ items ++ r ∷ [] → r ≡ route_schedule g start i p.stops → items ++ route_schedules g start i (stops_of (drop i plans)) ≡ all → more ++ route_schedules g start (i + 1) (stops_of (drop (i + 1) plans)) ≡ all
told_next g start items more r all plans p i is within pushed made told =
    let rest = route_schedules g start (i + 1) (stops_of (drop (suc i) plans)) in
    let told_cut : items ++ (route_schedule g start i p.stops ∷ rest) ≡ all = subst (λ ps. items ++ route_schedules g start i (stops_of ps) ≡ all) (cut_at plans p i is within) told in
    let told_r : items ++ (r ∷ rest) ≡ all = subst (λ (x : RouteSchedule). items ++ (x ∷ rest) ≡ all) (sym made) told_cut in
    let same : route_schedules g start (i + 1) (stops_of (drop (i + 1) plans)) ≡ rest = ap (λ n. route_schedules g start (i + 1) (stops_of (drop n plans))) (add-one i) in
    ap (λ xs. more ++ xs) same ∙ ap (λ xs. xs ++ rest) pushed ∙ append_assoc items (r ∷ []) rest ∙ told_r

-- as many schedules as plans
many_from : (g : Network) (start : ℕ) (number : ℕ) (plans : List (List Stop)) → length (route_schedules g start number plans) ≡ length plans
many_from g start number [] = refl
many_from g start number (stops ∷ plans) = ap suc (many_from g start (number + 1) plans)

as_many_stops : (plans : List RoutePlan) → length (stops_of plans) ≡ length plans
as_many_stops [] = refl
as_many_stops (p ∷ plans) = ap suc (as_many_stops plans)

pub as_many : (g : Network) (start : ℕ) (routes : List RouteSchedule) (plans : List RoutePlan) → routes ≡ route_schedules g start 0 (stops_of plans) → length routes ≡ length plans
as_many g start routes plans is = ap (λ rs. length rs) is ∙ many_from g start 0 (stops_of plans) ∙ as_many_stops plans
