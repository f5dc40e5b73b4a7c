-- Visits have the levels and the times of their plan.
use Rattle.std.proofs.Common.{◌≡◌, ◌∙◌, ℕ, ◌+◌, ◌*◌, ◌^◌, ◌≤◌, List, [], ◌∷◌, length, map, take, zero, suc, refl, sym, ap, arith}
use Rattle.std.specs.List.{All}
use Rattle.std.proofs.lemmas.List.Elements.{All-head, All-tail}
use Rattle.ev_model.specs.Feasible.{IsFeasible}
use Rattle.ev_model.specs.Fleet.{cost_of}
use Rattle.ev_model.specs.Levels.{leaving_level, levels_from, levels_of}
use Rattle.ev_model.specs.Network.{Network, scaled_limit}
use Rattle.ev_model.specs.Time.{stop_time, time_from, time_of}
use Rattle.ev_model.specs.declared.Stop.{Stop}
use Rattle.route_plan.proofs.Walked.{leaving_in_ones}
use Rattle.plan_schedule.specs.Schedules.{route_schedules, schedule_of, times_of}
use Rattle.plan_schedule.specs.Totals.{AreRouteSums, nothing, of_visit, plus, route_totals, summed}
use Rattle.plan_schedule.specs.Visits.{IsWithin, end_of, leaving_at, level_at, start_of, visit_at, visits_behind, visits_of}
use Rattle.plan_schedule.specs.declared.schedule.Totals.{Totals}
use Rattle.plan_schedule.specs.declared.schedule.Visit.{Visit}
use Rattle.plan_schedule.proofs.GoesOn.{leaves_at}

-- the level on leaving a stop
left_with : (g : Network) (v : Visit) (s : Stop) → leaving_level g 1 v.node v.level_left s ≡ level_at g v s + s.added
left_with g v s = leaving_in_ones g v.node v.level_left s

levels_behind : (g : Network) (v : Visit) (ss : List Stop) → map (λ w. w.level_left) (visits_behind g v ss) ≡ levels_from g 1 v.node v.level_left ss
levels_behind g v [] = refl
levels_behind g v (s ∷ ss) =
    let left = left_with g v s in
    ap (λ ls. (level_at g v s + s.added) ∷ ls) (levels_behind g (visit_at g v s) ss)
    ∙ ap (λ l. l ∷ levels_from g 1 s.node l ss) (sym left)

at_depot_first : (g : Network) (start : ℕ) (first : Stop) (stops : List Stop) → IsFeasible g 1 start (first ∷ stops) → first.node ≡ 0
at_depot_first g start first stops feasible = ap (λ (s : Stop). s.node) feasible.plan.1

pub levels_are : (g : Network) (start : ℕ) (stops : List Stop) → IsFeasible g 1 start stops → map (λ w. w.level_left) (visits_of g start stops) ≡ levels_of g 1 start stops
levels_are g start [] feasible = refl
levels_are g start (first ∷ stops) feasible =
    let at_depot = at_depot_first g start first stops feasible in
    let once : 1 * start ≡ start = omega arith in
    ap (λ ls. start ∷ ls) (levels_behind g (start_of start) stops)
    ∙ ap (λ l. l ∷ levels_from g 1 0 l stops) (sym once)
    ∙ ap (λ n. 1 * start ∷ levels_from g 1 n (1 * start) stops) (sym at_depot)

-- from a visit on
end_behind : (g : Network) (v : Visit) (ss : List Stop) → end_of (v ∷ visits_behind g v ss) ≡ v.leaving + time_from g 1 v.node v.level_left ss
end_behind g v [] = omega arith
end_behind g v (s ∷ ss) =
    let left : time_from g 1 s.node (leaving_level g 1 v.node v.level_left s) ss ≡ time_from g 1 s.node (level_at g v s + s.added) ss = ap (λ l. time_from g 1 s.node l ss) (left_with g v s) in
    let leaves = leaves_at g v s in
    let rest = end_behind g (visit_at g v s) ss in
    let sum : leaving_at g v s + time_from g 1 s.node (level_at g v s + s.added) ss ≡ v.leaving + time_from g 1 v.node v.level_left (s ∷ ss) = omega (arith, leaves, left) in
    rest ∙ sum

-- the time of a plan, by the depot and a full battery
time_is : (g : Network) (start : ℕ) (first : Stop) (stops : List Stop) → first.node ≡ 0 → time_from g 1 0 start stops ≡ time_of g 1 start (first ∷ stops)
time_is g start first stops at_depot =
    let once : 1 * start ≡ start = omega arith in
    sym (ap (λ n. time_from g 1 n (1 * start) stops) at_depot ∙ ap (λ l. time_from g 1 0 l stops) once)

pub end_is : (g : Network) (start : ℕ) (stops : List Stop) → IsFeasible g 1 start stops → end_of (visits_of g start stops) ≡ time_of g 1 start stops
end_is g start [] feasible = refl
end_is g start (first ∷ stops) feasible =
    let zero_more : 0 + time_from g 1 0 start stops ≡ time_from g 1 0 start stops = omega arith in
    end_behind g (start_of start) stops ∙ zero_more ∙ time_is g start first stops (at_depot_first g start first stops feasible)

-- the first visits are those of the first stops
first_behind : (g : Network) (v : Visit) (n : ℕ) (ss : List Stop) → take n (visits_behind g v ss) ≡ visits_behind g v (take n ss)
first_behind g v zero ss = refl
first_behind g v (suc n) [] = refl
first_behind g v (suc n) (s ∷ ss) = ap (λ vs. visit_at g v s ∷ vs) (first_behind g (visit_at g v s) n ss)

pub each_is : (g : Network) (start : ℕ) (n : ℕ) (stops : List Stop) → IsFeasible g 1 start stops → end_of (take n (visits_of g start stops)) ≡ time_of g 1 start (take n stops)
each_is g start zero stops feasible = refl
each_is g start (suc n) [] feasible = refl
each_is g start (suc n) (first ∷ stops) feasible =
    let zero_more : 0 + time_from g 1 0 start (take n stops) ≡ time_from g 1 0 start (take n stops) = omega arith in
    ap (λ vs. end_of (start_of start ∷ vs)) (first_behind g (start_of start) n stops)
    ∙ end_behind g (start_of start) (take n stops) ∙ zero_more ∙ time_is g start first (take n stops) (at_depot_first g start first stops feasible)

-- what the sums of a visit say of its time
takes : (g : Network) (v : Visit) (s : Stop) → (of_visit (visit_at g v s)).time ≡ stop_time g 1 v.node v.level_left s
takes g v s =
    let leaves = leaves_at g v s in
    omega (arith, leaves)

sum_behind : (g : Network) (v : Visit) (ss : List Stop) (t : Totals) → (summed t (map of_visit (visits_behind g v ss))).time ≡ t.time + time_from g 1 v.node v.level_left ss
sum_behind g v [] t = omega arith
sum_behind g v (s ∷ ss) t =
    let left : time_from g 1 s.node (leaving_level g 1 v.node v.level_left s) ss ≡ time_from g 1 s.node (level_at g v s + s.added) ss = ap (λ l. time_from g 1 s.node l ss) (left_with g v s) in
    let took = takes g v s in
    let rest = sum_behind g (visit_at g v s) ss (plus t (of_visit (visit_at g v s))) in
    let sum : t.time + (of_visit (visit_at g v s)).time + time_from g 1 s.node (level_at g v s + s.added) ss ≡ t.time + time_from g 1 v.node v.level_left (s ∷ ss) = omega (arith, took, left) in
    rest ∙ sum

pub sum_is : (g : Network) (start : ℕ) (stops : List Stop) → IsFeasible g 1 start stops → (route_totals (visits_of g start stops)).time ≡ time_of g 1 start stops
sum_is g start [] feasible = refl
sum_is g start (first ∷ stops) feasible =
    let none : 0 + 0 + 0 + 0 + 0 + time_from g 1 0 start stops ≡ time_from g 1 0 start stops = omega arith in
    sum_behind g (start_of start) stops (plus nothing (of_visit (start_of start))) ∙ none ∙ time_is g start first stops (at_depot_first g start first stops feasible)

-- the parts of a time
abbrev Adds : Totals → Type 0
Adds t = t.driving + t.serving + t.plugging + t.charging ≡ t.time

parts_from : (t : Totals) (visits : List Visit) → Adds t → Adds (summed t (map of_visit visits))
parts_from t [] adds = adds
parts_from t (v ∷ visits) adds =
    let next : Adds (plus t (of_visit v)) = omega (arith, adds) in
    parts_from (plus t (of_visit v)) visits next

pub parts_are : (visits : List Visit) → Adds (route_totals visits)
parts_are visits = parts_from nothing visits refl

-- what a plan takes
times_behind : (g : Network) (start : ℕ) (number : ℕ) (plans : List (List Stop)) (t : Totals) → All (IsFeasible g 1 start) plans → (summed t (map (λ r. r.totals) (route_schedules g start number plans))).time ≡ t.time + times_of g start plans
times_behind g start number [] t all = omega arith
times_behind g start number (stops ∷ plans) t all =
    let sums = route_totals (visits_of g start stops) in
    let took = sum_is g start stops (All-head (IsFeasible g 1 start) stops plans all) in
    let rest = times_behind g start (number + 1) plans (plus t sums) (All-tail (IsFeasible g 1 start) stops plans all) in
    let sum : t.time + sums.time + times_of g start plans ≡ t.time + times_of g start (stops ∷ plans) = omega (arith, took) in
    rest ∙ sum

pub times_are : (g : Network) (start : ℕ) (plans : List (List Stop)) → All (IsFeasible g 1 start) plans → (schedule_of g start plans).totals.time ≡ times_of g start plans
times_are g start plans all =
    let none : 0 + times_of g start plans ≡ times_of g start plans = omega arith in
    times_behind g start 0 plans nothing all ∙ none

-- and costs, where each vehicle starts full
pub full_times : (g : Network) (plans : List (List Stop)) → times_of g g.capacity plans ≡ cost_of g 1 plans
full_times g [] = refl
full_times g (stops ∷ plans) = ap (λ n. time_of g 1 g.capacity stops + n) (full_times g plans)

-- energies and visits are no more than so many times the greatest
record Few (n : ℕ) (t all : Totals) : Type 0 where
  driven : all.energy_driven ≤ t.energy_driven + n * 10 ^ 9
  charged : all.energy_charged ≤ t.energy_charged + n * 10 ^ 9
  stops : all.stops ≤ t.stops + n

few : (g : Network) (t : Totals) (visits : List Visit) → All (IsWithin g) visits → Few (length visits) t (summed t (map of_visit visits))
few g t [] all = record {
  driven = omega arith;
  charged = omega arith;
  stops = omega arith;
}
few g t (v ∷ visits) all =
    let rest = few g (plus t (of_visit v)) visits (All-tail (IsWithin g) v visits all) in
    let within = All-head (IsWithin g) v visits all in
    record {
      driven = omega (arith, rest.driven, within.small_energy);
      charged = omega (arith, rest.charged, within.small_charge);
      stops = omega (arith, rest.stops);
    }

-- the sums of a feasible route of visits that the program holds
pub small_route : (g : Network) (start : ℕ) (stops : List Stop) (visits : List Visit) → visits ≡ visits_of g start stops → All (IsWithin g) visits → IsFeasible g 1 start stops → scaled_limit g ≤ 10 ^ 18 → length visits ≤ 2 ^ 64 → AreRouteSums (route_totals visits)
small_route g start stops visits is all feasible limit count =
    let sums = route_totals visits in
    let took : sums.time ≡ time_of g 1 start stops = ap (λ vs. (route_totals vs).time) is ∙ sum_is g start stops feasible in
    let parts : sums.driving + sums.serving + sums.plugging + sums.charging ≡ sums.time = parts_are visits in
    let within = few g nothing visits all in
    let time : sums.time ≤ 10 ^ 18 = omega (arith, took, feasible.in_time, limit) in
    record {
      driving = omega (arith, time, parts);
      serving = omega (arith, time, parts);
      plugging = omega (arith, time, parts);
      charging = omega (arith, time, parts);
      time = time;
      energy_driven = omega (arith, within.driven, count);
      energy_charged = omega (arith, within.charged, count);
      stops = omega (arith, within.stops, count);
    }
