-- States that take in all that a vehicle may come to are closed labels.
use Rattle.std.proofs.Common.{◌≡◌, ℕ, zero, suc, ◌*◌, ◌≤◌, List, [], ◌∷◌, Option, Some, None, ap, sym, subst, refl, arith, map}
use Rattle.std.specs.List.{Contains}
use Rattle.dominance.specs.LevelTimes.{IsLevel}
use Rattle.piece_fn.specs.PieceFn.{level_times}
use Rattle.ev_model.specs.Time.{time_of}
use Rattle.ev_model.specs.declared.Stop.{Stop}
use Rattle.frvcp_labels.specs.Listing.{HoldAll, SomeHolds}
use Rattle.route_plan.specs.declared.plan.RoutePlan.{RoutePlan}
use Rattle.route_proof.specs.Closed.{AreClosed, HasGoodPlan, IsAccepted, IsHome, IsOnWay, IsStepFrom, IsTrue, bar}
use Rattle.route_proof.specs.Covered.{IsCovered, vehicle_at}
use Rattle.route_proof.specs.declared.proof.RouteLabel.{RouteLabel}
use Rattle.route_steps.specs.Homes.{IsPlanWithin}
use Rattle.route_steps.specs.Steps.{Holds, leaving_of}
use Rattle.route_steps.specs.Trips.{Journey}
use Rattle.route_steps.specs.Ways.{Leaving, begin, leaving_after}
use Rattle.route_steps.specs.declared.state.State.{State}
use Rattle.fixed_certificate.specs.Labels.{label_of}

-- each label is that of a state, and each state has its label
state_of : (states : List State) (l : RouteLabel) → Contains (map label_of states) l → (s : State) × Contains states s × (label_of s ≡ l)
state_of [] l there = absurd (omega (arith, there.1))
state_of (s ∷ ss) l (zero, inside, is) = (s, (0, omega arith, refl), is)
state_of (s ∷ ss) l (suc i, inside, is) =
    let rest = state_of ss l (i, omega (arith, inside), is) in
    (rest.0, (suc rest.1.0, omega (arith, rest.1.1), rest.1.2), rest.2)

label_there : (states : List State) (s : State) → Contains states s → Contains (map label_of states) (label_of s)
label_there [] s there = absurd (omega (arith, there.1))
label_there (x ∷ ss) s (zero, inside, is) = (0, omega arith, ap label_of is)
label_there (x ∷ ss) s (suc i, inside, is) =
    let rest = label_there ss s (i, omega (arith, inside), is) in
    (suc rest.0, omega (arith, rest.1), rest.2)

is_covered : (states : List State) (v : Leaving) → SomeHolds states v → IsCovered (map label_of states) v
is_covered states v by = (label_of by.0, label_there states by.0 by.1, record { passed = by.2.passed; node = by.2.node; reaches = by.2.reaches })

-- no plan of the route takes less than the bar
bar_is_least : (t : Journey) (plan : Option RoutePlan) (time : ℕ) (stops : List Stop) → IsTrue t plan → IsPlanWithin t time stops → bar t plan ≤ time
bar_is_least t None time stops none is = absurd (none 1 stops is.feasible is.follows)
bar_is_least t (Some plan) time stops fastest is =
    let least : 1 * time_of t.network 1 t.start plan.stops ≤ time_of t.network 1 t.start stops = fastest.fastest 1 stops is.feasible is.follows in
    let within = is.within in
    omega (arith, least, within)

holds_level : (s : State) (level : ℕ) → IsLevel (level_times s.value) level → Holds s (leaving_of s level)
holds_level s level is = record { passed = refl; node = refl; reaches = (level, is, (omega arith, omega arith)) }

module _ (t : Journey) (plan : Option RoutePlan) (states : List State) (is : IsTrue t plan) (all : HoldAll t states) where
  are_closed : AreClosed t (bar t plan) (map label_of states)
  are_closed = record {
    begins = λ some. is_covered states (begin t.start) all.begun;
    step = λ l level stop in_labels step on_way below.
        let from = state_of states l in_labels in
        subst (λ (x : RouteLabel). IsOnWay t (leaving_after t.network (vehicle_at x level) stop).passed → IsStepFrom t x level stop → IsCovered (map label_of states) (leaving_after t.network (vehicle_at x level) stop)) from.2
        (λ short goes. is_covered states (leaving_after t.network (leaving_of from.0 level) stop)
        (all.next from.0 (leaving_of from.0 level) stop from.1 (holds_level from.0 level goes.level_is) goes.may short)) on_way step;
    home = λ l level stop in_labels step home.
        let from = state_of states l in_labels in
        subst (λ (x : RouteLabel). IsHome t (leaving_after t.network (vehicle_at x level) stop).passed → IsStepFrom t x level stop → bar t plan ≤ (leaving_after t.network (vehicle_at x level) stop).time) from.2
        (λ at_end goes.
        let found = all.home from.0 level stop from.1 goes.level_is goes.may at_end in
        bar_is_least t plan (leaving_after t.network (leaving_of from.0 level) stop).time found.0 is found.1) home step;
  }

good_plan : (t : Journey) (plan : Option RoutePlan) → IsTrue t plan → HasGoodPlan t plan
good_plan t None is = record {}
good_plan t (Some plan) is = (is.feasible, is.follows)

pub is_accepted : (t : Journey) (plan : Option RoutePlan) (states : List State) (labels : List RouteLabel) → labels ≡ map label_of states → IsTrue t plan → HoldAll t states → IsAccepted t (record { plan = plan; labels = labels })
is_accepted t plan states labels are is all = record {
  plan = good_plan t plan is;
  closed = subst (λ (ls : List RouteLabel). AreClosed t (bar t plan) ls) (sym are) (are_closed t plan states is all);
}
