-- Plans of the route are the ways from the depot to its end.
use Rattle.std.proofs.Common.{◌≡◌, ℕ, ◌+◌, ◌-◌, ◌*◌, ◌≤◌, List, [], ◌∷◌, length, drop, drop-cons, get_or, refl, sym, ◌∙◌, ap, subst, arith}
use Rattle.std.proofs.lemmas.List.{length-drop}
use Rattle.ev_model.specs.Network.{Network, scaled_limit}
use Rattle.ev_model.specs.Plan.{EndsAtDepot}
use Rattle.ev_model.specs.Levels.{KeepsBatteryFrom, level_after}
use Rattle.ev_model.specs.Feasible.{IsFeasible}
use Rattle.ev_model.specs.Route.{FollowsRoute}
use Rattle.ev_model.specs.Time.{time_from, time_of}
use Rattle.ev_model.specs.declared.Stop.{Stop}
use Rattle.route_steps.specs.Ways.{IsRest, begin, depot_stop}

one_time : (n : ℕ) → 1 * n ≡ n
one_time n = omega arith

module _ (g : Network) (route : List ℕ) where
  -- what follows the depot in a plan is a way to the end of the route
  pub plan_rest : (start : ℕ) (stops : List Stop) → 2 ≤ length route → IsFeasible g 1 start (depot_stop ∷ stops) → FollowsRoute route (depot_stop ∷ stops) → IsRest g route (begin start) stops
  plan_rest start stops two is follows =
      let battery : KeepsBatteryFrom g 1 0 start stops = subst (λ l. KeepsBatteryFrom g 1 0 l stops) (one_time start) is.battery.0 in
      let home : 1 * g.home_level ≤ level_after g 1 0 start stops = subst (λ l. 1 * g.home_level ≤ level_after g 1 0 l stops) (one_time start) is.battery.1 in
      let in_time : time_from g 1 0 start stops ≤ 1 * scaled_limit g = subst (λ l. time_from g 1 0 l stops ≤ 1 * scaled_limit g) (one_time start) is.in_time in
      record {
        moves = is.plan.3;
        ends = λ some. is.plan.2;
        battery = battery;
        home = omega arith;
        follows = ap (λ l. drop 1 l) follows;
        within = omega arith;
        in_time = omega arith;
      }

  some_stops : (start : ℕ) (stops : List Stop) → 2 ≤ length route → IsRest g route (begin start) stops → EndsAtDepot stops
  some_stops start [] two is =
      let count : 0 ≡ length route - 1 = ap length is.follows ∙ length-drop 1 route in
      absurd (omega arith)
  some_stops start (s ∷ ss) two is = is.ends (λ e. cc)

  -- a way to the end of the route makes a plan
  pub rest_plan : (start : ℕ) (stops : List Stop) → 2 ≤ length route → get_or route 0 0 ≡ 0 → IsRest g route (begin start) stops
      → IsFeasible g 1 start (depot_stop ∷ stops) × FollowsRoute route (depot_stop ∷ stops) × (time_of g 1 start (depot_stop ∷ stops) ≡ time_from g 1 0 start stops)
  rest_plan start stops two first is =
      let battery : KeepsBatteryFrom g 1 0 (1 * start) stops = subst (λ l. KeepsBatteryFrom g 1 0 l stops) (sym (one_time start)) is.battery in
      let home : g.home_level ≤ level_after g 1 0 (1 * start) stops = subst (λ l. g.home_level ≤ level_after g 1 0 l stops) (sym (one_time start)) is.home in
      let in_time : 0 + time_from g 1 0 (1 * start) stops ≤ scaled_limit g = subst (λ l. 0 + time_from g 1 0 l stops ≤ scaled_limit g) (sym (one_time start)) is.in_time in
      let parts : drop 0 route ≡ get_or route 0 0 ∷ drop 1 route = drop-cons route 0 0 (omega arith) in (
        record {
          plan = (omega arith, refl, some_stops start stops two is, is.moves);
          battery = (battery, omega arith);
          in_time = omega arith;
        },
        ap (λ l. 0 ∷ l) is.follows ∙ ap (λ n. n ∷ drop 1 route) (sym first) ∙ sym parts,
        ap (λ l. time_from g 1 0 l stops) (one_time start),
      )

  -- a bound on each way from the depot bounds each feasible whole plan of the route
  pub plan_bound : (start best : ℕ) (others : List Stop) → 2 ≤ length route → ((stops : List Stop) → IsRest g route (begin start) stops → best ≤ 0 + time_from g 1 0 start stops) → IsFeasible g 1 start others → FollowsRoute route others
      → best ≤ time_of g 1 start others
  plan_bound start best [] two bound is follows = absurd is.plan
  plan_bound start best (first ∷ stops) two bound is follows =
      let same : first ≡ depot_stop = is.plan.1 in
      let rest = bound stops (plan_rest start stops two (subst (λ s. IsFeasible g 1 start (s ∷ stops)) same is) (subst (λ s. FollowsRoute route (s ∷ stops)) same follows)) in
      let time : time_of g 1 start (first ∷ stops) ≡ time_from g 1 0 start stops = ap (λ (s : Stop). time_from g 1 s.node (1 * start) stops) same ∙ ap (λ l. time_from g 1 0 l stops) (one_time start) in
      omega arith
