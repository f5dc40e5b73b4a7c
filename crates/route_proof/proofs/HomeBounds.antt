-- Along closed labels no way home ends below the bar.
use Rattle.std.proofs.Common.{◌≡◌, ◌∙◌, ℕ, ◌+◌, ◌-◌, ◌<◌, ◌≤◌, ◌⊎◌, List, Option, Some, None, length, subst, arith, inl, inr}
use Rattle.std.specs.List.{All, Contains}
use Rattle.std.proofs.lemmas.Bool.{cases_Bool, cases_lt}
use Rattle.ev_model.specs.Network.{IsNetwork, scaled_limit}
use Rattle.ev_model.specs.Route.{IsRoute}
use Rattle.ev_model.specs.Time.{time_from, time_of}
use Rattle.ev_model.specs.declared.Stop.{Stop}
use Rattle.route_plan.specs.declared.plan.RoutePlan.{RoutePlan}
use Rattle.route_steps.specs.Trips.{Journey}
use Rattle.route_steps.specs.Ways.{IsRest, Leaving, MayStop, begin, leaving_after, passed_after}
use Rattle.route_steps.proofs.Rests.{way_home}
use Rattle.route_steps.proofs.WayHomePlans.{fastest, is_trip, no_plan}
use Rattle.route_proof.specs.Closed.{AreClosed, HasGoodPlan, IsAccepted, IsStepFrom, IsTrue, bar}
use Rattle.route_proof.specs.Covered.{IsCovered, vehicle_at}
use Rattle.route_proof.specs.Ranges.{RouteLabelFits}
use Rattle.route_proof.specs.declared.proof.RouteLabel.{RouteLabel}
use Rattle.route_proof.specs.declared.proof.RouteProof.{RouteProof}
use Rattle.route_proof.proofs.Better.{IsAsGood, may_be_made, stays_as_good, stop_of}
use Rattle.route_proof.proofs.Ranges.{low_levels}

-- what covers a vehicle covers each that it is as good as
pub covered_by_good : (labels : List RouteLabel) (a v : Leaving) → IsCovered labels a → IsAsGood a v → IsCovered labels v
covered_by_good labels a v covered good =
    let r = covered.2.reaches in
    let level = good.level in
    let time = good.time in (
      covered.0,
      covered.1,
      record {
        passed = covered.2.passed ∙ good.passed;
        node = covered.2.node ∙ good.node;
        reaches = (r.0, r.1, (omega (arith, r.2.0, level), omega (arith, r.2.1, time)));
      },
    )

-- a stop ends on the way or at the end of the route
on_or_home : (passed n : ℕ) (s : Stop) → passed < n - 1 → (passed_after passed s ≡ n - 1) ⊎ (passed_after passed s < n - 1)
on_or_home passed n s before = elim (cases_Bool s.via) [
  | inl via ↦ rw via (inr before)
  | inr own ↦ elim (cases_lt (passed + 1) (n - 1)) [
    | inl less ↦ rw own (inr less)
    | inr end ↦ rw own (inl (omega (arith, end, before)))
  ]
]

module _ (t : Journey) (network : IsNetwork t.network) (least : ℕ) (labels : List RouteLabel) (fits : All (RouteLabelFits t.network t.route) labels) (closed : AreClosed t least labels) where
  fits_each : (l : RouteLabel) → Contains labels l → RouteLabelFits t.network t.route l
  fits_each l is = subst (λ (x : RouteLabel). RouteLabelFits t.network t.route x) is.2 (fits is.0 l is.1)

  -- a stop of a covered vehicle leads to a covered one, or to the bar
  goes_on : (v : Leaving) (s : Stop) → IsCovered labels v → MayStop t.network t.route v s → IsCovered labels (leaving_after t.network v s) ⊎ (least ≤ (leaving_after t.network v s).time)
  goes_on v s covered may =
      let g = t.network in
      let l = covered.0 in
      let r = covered.2.reaches in
      let a = vehicle_at l r.0 in
      let good : IsAsGood a v = record { passed = covered.2.passed; node = covered.2.node; level = r.2.0; time = omega (arith, r.2.1) } in
      let low = low_levels g t.route l (fits_each l covered.1) r.0 r.1 in
      let stop = stop_of g a v s in
      let made = may_be_made g t.route network a v s good may low in
      let step : IsStepFrom t l r.0 stop = record { level_is = r.1; may = made } in
      let after = stays_as_good g t.route network a v s good may in
      let later = after.time in
      elim (on_or_home a.passed (length t.route) stop made.on_way) [
        | inl home ↦ (let past = closed.home l r.0 stop covered.1 step home in inr (omega (arith, past, later)))
        | inr way ↦ elim (cases_lt (leaving_after g a stop).time least) [
          | inl below ↦ inl (covered_by_good labels (leaving_after g a stop) (leaving_after g v s) (closed.step l r.0 stop covered.1 step way below) after)
          | inr past ↦ inr (omega (arith, past, later))
        ]
      ]

  on_way : (v : Leaving) → IsCovered labels v → v.passed < length t.route - 1
  on_way v covered =
      let before = (fits_each covered.0 covered.1).passed in
      let same = covered.2.passed in
      omega (arith, before, same)

  begun : IsCovered labels (begin t.start) ⊎ (least ≤ 0)
  begun = elim (cases_lt 0 least) [
    | inl some ↦ inl (closed.begins some)
    | inr none ↦ inr none
  ]

  pub none_below : (stops : List Stop) → IsRest t.network t.route (begin t.start) stops → least ≤ 0 + time_from t.network 1 0 t.start stops
  none_below stops rest =
      way_home t.network t.route (IsCovered labels) (λ v. least ≤ v.time) (λ n. least ≤ n) goes_on (λ v ss past is. omega (arith, past)) on_way stops (begin t.start) begun rest

closed_is_true : (t : Journey) (plan : Option RoutePlan) (labels : List RouteLabel) → IsNetwork t.network → IsRoute t.network t.route → All (RouteLabelFits t.network t.route) labels → HasGoodPlan t plan → AreClosed t (bar t plan) labels → IsTrue t plan
closed_is_true t None labels network route fits good closed = no_plan t (is_trip t.network t.route network route) (λ stops rest.
    let past = none_below t network (scaled_limit t.network + 1) labels fits closed stops rest in
    let in_time = rest.in_time in
    omega (arith, past, in_time))
closed_is_true t (Some plan) labels network route fits good closed =
    fastest t (time_of t.network 1 t.start plan.stops) plan.stops (is_trip t.network t.route network route)
    (λ stops rest. (let least = none_below t network (time_of t.network 1 t.start plan.stops) labels fits closed stops rest in omega (arith, least)))
    (record { feasible = good.0; follows = good.1; within = omega arith })

pub accepted_is_true : (t : Journey) (p : RouteProof) → IsNetwork t.network → IsRoute t.network t.route → All (RouteLabelFits t.network t.route) p.labels → IsAccepted t p → IsTrue t p.plan
accepted_is_true t p network route fits is = closed_is_true t p.plan p.labels network route fits is.plan is.closed
