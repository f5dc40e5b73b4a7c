-- A vehicle on its way along a feasible plan.
use Rattle.std.proofs.Common.{◌≡◌, ◌∙◌, ℕ, suc, ◌+◌, ◌*◌, ◌^◌, ◌<◌, ◌≤◌, List, [], ◌∷◌, ◌++◌, append_assoc, drop, get_or, length, sym, ap, subst, arith, add-one, drop-cons}
use Rattle.ev_model.specs.Feasible.{IsFeasible}
use Rattle.ev_model.specs.Levels.{KeepsBatteryFrom, leaving_level}
use Rattle.ev_model.specs.Network.{IsNetwork, Network, energy, node_count, process_time, travel_time}
use Rattle.ev_model.specs.Plan.{AreStopsFrom}
use Rattle.ev_model.specs.Time.{plugging_time, stop_time, time_from}
use Rattle.ev_model.specs.declared.Stop.{Stop}
use Rattle.route_plan.proofs.Walked.{leaving_in_ones, time_after-stop}
use Rattle.route_plan.specs.FirstPlaces.{behind_first}
use Rattle.plan_schedule.specs.Visits.{charging_at, leaving_at, level_at, start_of, visit_at, visits_behind}
use Rattle.plan_schedule.specs.declared.schedule.Visit.{Visit}

-- the stops behind a visit keep the rules of a plan, and end by the greatest limit
pub record GoesOn (g : Network) (v : Visit) (ss : List Stop) : Type 0 where
  pub known : v.node < node_count g
  pub stops : AreStopsFrom g v.node ss
  pub battery : KeepsBatteryFrom g 1 v.node v.level_left ss
  pub in_time : v.leaving + time_from g 1 v.node v.level_left ss ≤ 10 ^ 18

-- the next stop may be visited, and the vehicle goes on from there
pub record GoesTo (g : Network) (v : Visit) (s : Stop) (ss : List Stop) : Type 0 where
  pub known : s.node < node_count g
  pub reached : energy g v.node s.node ≤ v.level_left
  pub full : level_at g v s + s.added ≤ g.capacity
  pub in_time : leaving_at g v s ≤ 10 ^ 18
  pub on : GoesOn g (visit_at g v s) ss

in_parts : (t d a b c x : ℕ) → t + d * a + d * b + d * c + x ≡ t + d * (a + b + c) + x
in_parts t d a b c x = omega arith

-- a stop takes the time of the plan
pub leaves_at : (g : Network) (v : Visit) (s : Stop) → leaving_at g v s ≡ v.leaving + stop_time g 1 v.node v.level_left s
leaves_at g v s =
    in_parts v.leaving g.denominator (travel_time g v.node s.node) (process_time g s.node) (plugging_time g s) (charging_at g v s)
    ∙ time_after-stop g v.node v.level_left v.leaving s

pub goes_to : (g : Network) (v : Visit) (s : Stop) (ss : List Stop) → GoesOn g v (s ∷ ss) → GoesTo g v s ss
goes_to g v s ss goes =
    let left : leaving_level g 1 v.node v.level_left s ≡ level_at g v s + s.added = leaving_in_ones g v.node v.level_left s in
    let leaves = leaves_at g v s in
    let battery : KeepsBatteryFrom g 1 s.node (level_at g v s + s.added) ss = subst (λ l. KeepsBatteryFrom g 1 s.node l ss) left goes.battery.2 in
    let rest : time_from g 1 s.node (leaving_level g 1 v.node v.level_left s) ss ≡ time_from g 1 s.node (level_at g v s + s.added) ss = ap (λ l. time_from g 1 s.node l ss) left in
    let most : leaving_at g v s + time_from g 1 s.node (level_at g v s + s.added) ss ≤ 10 ^ 18 = omega (arith, leaves, rest, goes.in_time) in
    record {
      known = goes.stops.1.known;
      reached = omega (arith, goes.battery.0);
      full = omega (arith, left, goes.battery.1);
      in_time = omega (arith, most);
      on = record {
        known = goes.stops.1.known;
        stops = goes.stops.2;
        battery = battery;
        in_time = most;
      };
    }

-- at a position
pub goes_to_next : (g : Network) (v : Visit) (stops : List Stop) (d : Stop) (at : ℕ) → at < length stops → GoesOn g v (drop at stops) → GoesTo g v (get_or stops at d) (drop (at + 1) stops)
goes_to_next g v stops d at within goes =
    rw add-one (goes_to g v (get_or stops at d) (drop (suc at) stops) (subst (λ ss. GoesOn g v ss) (drop-cons stops at d within) goes))

-- a vehicle begins a feasible plan
pub begins : (g : Network) (start : ℕ) (stops : List Stop) → IsNetwork g → IsFeasible g 1 start stops → GoesOn g (start_of start) (behind_first stops)
begins g start [] network feasible = absurd feasible.plan
begins g start (first ∷ stops) network feasible =
    let at_depot : first.node ≡ 0 = ap (λ (s : Stop). s.node) feasible.plan.1 in
    let once : 1 * start ≡ start = omega arith in
    let kept : KeepsBatteryFrom g 1 0 (1 * start) stops = subst (λ n. KeepsBatteryFrom g 1 n (1 * start) stops) at_depot feasible.battery.0 in
    let time : time_from g 1 first.node (1 * start) stops ≡ time_from g 1 0 start stops =
    ap (λ n. time_from g 1 n (1 * start) stops) at_depot ∙ ap (λ l. time_from g 1 0 l stops) once in
    record {
      known = omega (arith, network.depot);
      stops = subst (λ n. AreStopsFrom g n stops) at_depot feasible.plan.3;
      battery = subst (λ l. KeepsBatteryFrom g 1 0 l stops) once kept;
      in_time = omega (arith, time, feasible.in_time, network.small_limit);
    }

-- one visit more was made
pub told_next : (g : Network) (items more : List Visit) (v w : Visit) (all : List Visit) (stops : List Stop) (d : Stop) (at : ℕ) → at < length stops → more ≡ items ++ w ∷ [] → w ≡ visit_at g v (get_or stops at d) → items ++ visits_behind g v (drop at stops) ≡ all → more ++ visits_behind g w (drop (at + 1) stops) ≡ all
told_next g items more v w all stops d at within pushed is told =
    let s = get_or stops at d in
    let rest = drop (suc at) stops in
    let cut : drop at stops ≡ s ∷ rest = drop-cons stops at d within in
    let told_cut : items ++ (visit_at g v s ∷ visits_behind g (visit_at g v s) rest) ≡ all = subst (λ ss. items ++ visits_behind g v ss ≡ all) cut told in
    let told_w : items ++ (w ∷ visits_behind g w rest) ≡ all = subst (λ (x : Visit). items ++ (x ∷ visits_behind g x rest) ≡ all) (sym is) told_cut in
    rw add-one (ap (λ xs. xs ++ visits_behind g w rest) pushed ∙ append_assoc items (w ∷ []) (visits_behind g w rest) ∙ told_w)

-- and the vehicle goes on from it
pub goes_next : (g : Network) (v w : Visit) (stops : List Stop) (d : Stop) (at : ℕ) → at < length stops → w ≡ visit_at g v (get_or stops at d) → GoesOn g v (drop at stops) → GoesOn g w (drop (at + 1) stops)
goes_next g v w stops d at within is goes =
    let to = goes_to_next g v stops d at within goes in
    subst (λ (x : Visit). GoesOn g x (drop (at + 1) stops)) (sym is) to.on
