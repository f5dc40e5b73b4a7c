-- Soundness of closed labels: what is left of a near route takes, times the weight, no less than it earns.
use Rattle.std.proofs.Common.{◌≡◌, ◌∙◌, ℕ, ◌+◌, ◌*◌, ◌≤◌, refl, sym, ap, subst, List, [], ◌∷◌, ◌++◌, length, arith, inl, inr}
use Rattle.std.specs.Prelude.{ℤ, pos, ◌+ℤ◌, ◌≤ℤ◌}
use Rattle.std.proofs.Math.Nat.{mul-le-mul_left}
use Rattle.std.proofs.lemmas.Bool.{cases_Bool, false≢true}
use Rattle.std.proofs.lemmas.Int.{ints}
use Rattle.ev_model.specs.Fleet.{customers_of}
use Rattle.ev_model.specs.Levels.{KeepsBatteryFrom, leaving_level, level_after}
use Rattle.ev_model.specs.Network.{is_customer, IsNetwork, Network, scaled_limit}
use Rattle.ev_model.specs.Plan.{EndsAtDepot, IsEnd}
use Rattle.ev_model.specs.Route.{route_of}
use Rattle.ev_model.specs.Time.{time_from, time_of}
use Rattle.ev_model.specs.declared.Stop.{Stop}
use Rattle.fleet_model.specs.Places.{customer_count, numbers_of}
use Rattle.fleet_model.specs.Steps.{time_at}
use Rattle.fleet_model.proofs.Sound.{HasNoStray, home_stop}
use Rattle.near_proof.specs.Closed.{AreClosed}
use Rattle.near_proof.specs.Covered.{AreWithinFull, IsNearCovered}
use Rattle.near_proof.specs.Routes.{IsNearRoute}
use Rattle.near_proof.specs.States.{near_start, NearState}
use Rattle.near_proof.specs.Steps.{at_near_customer, at_near_station, IsNearHomeStep}
use Rattle.near_proof.specs.Terms.{earned_by, Terms}
use Rattle.near_proof.specs.Truth.{NearRoutesPay}
use Rattle.near_proof.specs.declared.proof.NearLabel.{NearLabel}
use Rattle.near_proof.proofs.Rests.{IsRest, own_pays, own_rest, own_step, Pays, via_pays, via_rest, via_step}
use Rattle.near_proof.proofs.NearSteps.{customer_step, home_step, station_step}

took : (p : ℤ) (w t u : ℕ) → p ≤ℤ pos (w * t) → t ≤ u → (pos 0 +ℤ p) ≤ℤ pos (w * u)
took p w t u paid le =
    let scaled : w * t ≤ w * u = mul-le-mul_left w le in
    omega (arith, ints, paid, scaled)

module _ (g : Network) (t : Terms) (labels : List NearLabel) (closed : AreClosed g t labels) where
  -- the last stop is the step home
  home_pays : (b : NearState) → IsNearCovered t.weight labels b → IsRest g t b (home_stop ∷ []) → Pays g t b (home_stop ∷ [])
  home_pays b covered rest =
      let later : time_at g b.state 0 ≤ b.state.time + time_from g 1 b.state.node b.state.level (home_stop ∷ []) = omega arith in
      let step : IsNearHomeStep g b = record {
        step = record { known = rest.are_stops.1.known; moves = rest.are_stops.0; reaches = omega (arith, rest.battery.0) };
        home = omega (arith, rest.home, rest.battery.0);
        in_time = omega (arith, later, rest.in_time);
      } in
      took _ _ _ _ (home_step g t labels closed b covered step) later

  last_pays : (b : NearState) (stop : Stop) → IsNearCovered t.weight labels b → IsEnd stop → IsRest g t b (stop ∷ []) → Pays g t b (stop ∷ [])
  last_pays b stop covered end rest = subst (λ (x : Stop). IsRest g t b (x ∷ []) → Pays g t b (x ∷ [])) (sym end) (home_pays b covered) rest

  pays : (b : NearState) (stops : List Stop) → IsNetwork g → AreWithinFull g labels → IsNearCovered t.weight labels b → EndsAtDepot stops → HasNoStray g stops → IsRest g t b stops → Pays g t b stops
  pays b [] network full covered ends fine rest = absurd ends
  pays b (stop ∷ []) network full covered ends fine rest = last_pays b stop covered ends rest
  pays b (stop ∷ next ∷ ss) network full covered ends fine rest = elim (cases_Bool stop.via) [
    | inl via ↦
        let z = leaving_level g 1 b.state.node b.state.level stop in
        let after = station_step g t labels closed b stop.node z network full covered (via_step g t b stop (next ∷ ss) rest via) in
        via_pays g t b stop (next ∷ ss) rest via (pays (at_near_station g b stop.node z) (next ∷ ss) network full after ends fine.1 (via_rest g t b stop (next ∷ ss) rest via))
    | inr own ↦
        let is = fine.0 own in
        let after = customer_step g t labels closed b stop.node covered (own_step g t b stop (next ∷ ss) rest own is) in
        own_pays g t b stop (next ∷ ss) rest own is (pays (at_near_customer g t b stop.node) (next ∷ ss) network full after ends fine.1 (own_rest g t b stop (next ∷ ss) rest own is))
  ]

-- each stop before the last that was not inserted is at a customer, where a route is its customers and the depot
abbrev rest_of : List ℕ → List ℕ
rest_of [] = []
rest_of (x ∷ xs) = xs

length_more : (xs : List ℕ) → length (xs ++ 0 ∷ []) ≡ length xs + 1
length_more [] = refl
length_more (x ∷ xs) = omega (arith, length_more xs)

fewer : (g : Network) (stops : List Stop) → EndsAtDepot stops → length (customers_of g stops) + 1 ≤ length (route_of stops)
fewer g [] ends = absurd ends
fewer g (s ∷ []) ends = subst (λ (x : Stop). length (customers_of g (x ∷ [])) + 1 ≤ length (route_of (x ∷ []))) (sym ends) (omega arith)
fewer g (s ∷ t ∷ ss) ends =
    let rest = fewer g (t ∷ ss) ends in
    elim (cases_Bool s.via) [
      | inl via ↦ rw via rest
      | inr own ↦ elim (cases_Bool (is_customer g s.node)) [
        | inl is ↦ rw (own, is) (omega (arith, rest))
        | inr other ↦ rw (own, other) (omega (arith, rest))
      ]
    ]

no_stray : (g : Network) (stops : List Stop) → EndsAtDepot stops → route_of stops ≡ customers_of g stops ++ 0 ∷ [] → HasNoStray g stops
no_stray g [] ends only = tt
no_stray g (s ∷ []) ends only = tt
no_stray g (s ∷ t ∷ ss) ends only = elim (cases_Bool s.via) [
  | inl via ↦ ((λ own. absurd (false≢true (sym own ∙ via))), no_stray g (t ∷ ss) ends (rw via at only))
  | inr own ↦ elim (cases_Bool (is_customer g s.node)) [
    | inl is ↦ ((λ o. is), no_stray g (t ∷ ss) ends (ap rest_of (rw (own, is) at only)))
    | inr other ↦
        let short : s.node ∷ route_of (t ∷ ss) ≡ customers_of g (t ∷ ss) ++ 0 ∷ [] = rw (own, other) at only in
        absurd (omega (arith, ap length short, length_more (customers_of g (t ∷ ss)), fewer g (t ∷ ss) ends))
  ]
]

module _ (g : Network) (t : Terms) (labels : List NearLabel) (network : IsNetwork g) (full : AreWithinFull g labels) (closed : AreClosed g t labels) where
  from_depot : (stops : List Stop) → IsNearRoute g t.sets (home_stop ∷ stops) → earned_by t.prices (numbers_of g (home_stop ∷ stops)) ≤ t.weight * time_of g 1 g.capacity (home_stop ∷ stops)
  from_depot stops route =
      let one : 1 * g.capacity ≡ g.capacity = omega arith in
      let feasible = route.feasible in
      let kept : KeepsBatteryFrom g 1 0 g.capacity stops = rw one at feasible.battery.0 in
      let home : 1 * g.home_level ≤ level_after g 1 0 g.capacity stops = rw one at feasible.battery.1 in
      let in_time : time_from g 1 0 g.capacity stops ≤ 1 * scaled_limit g = rw one at feasible.in_time in
      let few : length (customers_of g stops) ≤ customer_count g = route.few in
      let rest : IsRest g t (near_start g) stops = record {
        are_stops = feasible.plan.3;
        battery = kept;
        home = home;
        in_time = omega (arith, in_time);
        keeps = route.keeps;
        few = omega (arith, few);
      } in
      let paid = pays g t labels closed (near_start g) stops network full closed.begins feasible.plan.2 (no_stray g stops feasible.plan.2 (ap rest_of route.only)) rest in
      rw one (omega (arith, ints, paid))

  pub routes_pay : NearRoutesPay g t
  routes_pay [] route = absurd route.feasible.plan
  routes_pay (first ∷ stops) route =
      subst (λ (x : Stop). IsNearRoute g t.sets (x ∷ stops) → earned_by t.prices (numbers_of g (x ∷ stops)) ≤ t.weight * time_of g 1 g.capacity (x ∷ stops))
      (sym route.feasible.plan.1) (from_depot stops) route
