-- Soundness of closed labels: each whole route that keeps a leaf's pairs takes, times the weight, no
-- less than it earns there.
use Rattle.std.proofs.Common.{◌≡◌, ◌∙◌, ℕ, ◌+◌, ◌*◌, ◌≤◌, refl, sym, ap, subst, List, [], ◌∷◌, ◌++◌, length, arith, inl, inr}
use Rattle.std.specs.Prelude.{ℤ, pos, ◌+ℤ◌, ◌≤ℤ◌}
use Rattle.std.proofs.Math.Nat.{mul-le-mul_left}
use Rattle.std.proofs.lemmas.Bool.{cases_Bool, false≢true}
use Rattle.std.proofs.lemmas.Int.{ints}
use Rattle.ev_model.specs.Fleet.{customers_of}
use Rattle.ev_model.specs.Levels.{KeepsBatteryFrom, leaving_level, level_after}
use Rattle.ev_model.specs.Network.{is_customer, IsNetwork, Network, scaled_limit}
use Rattle.ev_model.specs.Plan.{EndsAtDepot, IsEnd}
use Rattle.ev_model.specs.Route.{route_of}
use Rattle.ev_model.specs.Time.{time_from, time_of}
use Rattle.ev_model.specs.declared.Stop.{Stop}
use Rattle.fleet_model.specs.Labels.{State}
use Rattle.fleet_model.specs.Pairs.{PlanKeepsPairs}
use Rattle.fleet_model.specs.Places.{place_of}
use Rattle.fleet_model.specs.Steps.{at_station, start, time_at}
use Rattle.fleet_model.proofs.Sound.{HasNoStray, home_stop}
use Rattle.near_proof.specs.Routes.{IsNearRoute}
use Rattle.near_tree.specs.Bounds.{NearRoutesPayAt, route_value}
use Rattle.near_tree.specs.Branches.{Branch}
use Rattle.near_tree.specs.Closed.{AreClosedAt}
use Rattle.near_tree.specs.Covered.{AreWithinFullAt, IsLeafCovered}
use Rattle.near_tree.specs.Sections.{NearSection}
use Rattle.near_tree.specs.Steps.{at_leaf_customer, IsLeafHomeStep}
use Rattle.near_tree.proofs.NearSteps.{customer_step, home_step, station_step}
use Rattle.near_tree.proofs.Rests.{at_place, IsRest, own_pays, own_rest, own_step, Pays, via_pays, via_rest, via_step}
use Rattle.near_tree.proofs.Sums.{earned_value}

took : (p : ℤ) (w t u : ℕ) → p ≤ℤ pos (w * t) → t ≤ u → (pos 0 +ℤ p) ≤ℤ pos (w * u)
took p w t u paid le =
    let scaled : w * t ≤ w * u = mul-le-mul_left w le in
    omega (arith, ints, paid, scaled)

module _ (g : Network) (b : Branch) (s : NearSection) (closed : AreClosedAt g b s) where
  -- the last stop is the step home
  home_pays : (i : ℕ) (a : State) → IsLeafCovered g b s (at_place i a) → IsRest g b s i a (home_stop ∷ []) → Pays g b s i a (home_stop ∷ [])
  home_pays i a covered rest =
      let later : time_at g a 0 ≤ a.time + time_from g 1 a.node a.level (home_stop ∷ []) = omega arith in
      let step : IsLeafHomeStep g b (at_place i a) = record {
        step = record { known = rest.are_stops.1.known; moves = rest.are_stops.0; reaches = omega (arith, rest.battery.0) };
        next = (rest.pairs.0, λ none. absurd (rest.some none refl));
        home = omega (arith, rest.home, rest.battery.0);
        in_time = omega (arith, later, rest.in_time);
      } in
      took _ _ _ _ (home_step g b s closed (at_place i a) covered step) later

  last_pays : (i : ℕ) (a : State) (stop : Stop) → IsLeafCovered g b s (at_place i a) → IsEnd stop → IsRest g b s i a (stop ∷ []) → Pays g b s i a (stop ∷ [])
  last_pays i a stop covered end rest = subst (λ (x : Stop). IsRest g b s i a (x ∷ []) → Pays g b s i a (x ∷ [])) (sym end) (home_pays i a covered) rest

  pays : (i : ℕ) (a : State) (stops : List Stop) → IsNetwork g → AreWithinFullAt g s → IsLeafCovered g b s (at_place i a) → EndsAtDepot stops → HasNoStray g stops → IsRest g b s i a stops → Pays g b s i a stops
  pays i a [] network full covered ends fine rest = absurd ends
  pays i a (stop ∷ []) network full covered ends fine rest = last_pays i a stop covered ends rest
  pays i a (stop ∷ next ∷ ss) network full covered ends fine rest = elim (cases_Bool stop.via) [
    | inl via ↦
        let z = leaving_level g 1 a.node a.level stop in
        let reached = station_step g b s closed (at_place i a) stop.node z network full covered (via_step g b s i a stop (next ∷ ss) rest via) in
        via_pays g b s i a stop (next ∷ ss) rest via (pays i (at_station g a stop.node z) (next ∷ ss) network full reached ends fine.1 (via_rest g b s i a stop (next ∷ ss) rest via))
    | inr own ↦
        let is = fine.0 own in
        let reached = customer_step g b s closed (at_place i a) stop.node covered (own_step g b s i a stop (next ∷ ss) rest own is) in
        own_pays g b s i a stop (next ∷ ss) rest own is (pays (place_of g stop.node) (at_leaf_customer g b s (at_place i a) stop.node).state (next ∷ ss) network full reached ends fine.1 (own_rest g b s i a stop (next ∷ ss) rest own is))
  ]

-- each stop before the last that was not inserted is at a customer, where a route is its customers and the depot
abbrev rest_of : List ℕ → List ℕ
rest_of [] = []
rest_of (x ∷ xs) = xs

length_more : (xs : List ℕ) → length (xs ++ 0 ∷ []) ≡ length xs + 1
length_more [] = refl
length_more (x ∷ xs) = omega (arith, length_more xs)

fewer : (g : Network) (stops : List Stop) → EndsAtDepot stops → length (customers_of g stops) + 1 ≤ length (route_of stops)
fewer g [] ends = absurd ends
fewer g (s ∷ []) ends = subst (λ (x : Stop). length (customers_of g (x ∷ [])) + 1 ≤ length (route_of (x ∷ []))) (sym ends) (omega arith)
fewer g (s ∷ t ∷ ss) ends =
    let rest = fewer g (t ∷ ss) ends in
    elim (cases_Bool s.via) [
      | inl via ↦ rw via rest
      | inr own ↦ elim (cases_Bool (is_customer g s.node)) [
        | inl is ↦ rw (own, is) (omega (arith, rest))
        | inr other ↦ rw (own, other) (omega (arith, rest))
      ]
    ]

no_stray : (g : Network) (stops : List Stop) → EndsAtDepot stops → route_of stops ≡ customers_of g stops ++ 0 ∷ [] → HasNoStray g stops
no_stray g [] ends only = tt
no_stray g (s ∷ []) ends only = tt
no_stray g (s ∷ t ∷ ss) ends only = elim (cases_Bool s.via) [
  | inl via ↦ ((λ own. absurd (false≢true (sym own ∙ via))), no_stray g (t ∷ ss) ends (rw via at only))
  | inr own ↦ elim (cases_Bool (is_customer g s.node)) [
    | inl is ↦ ((λ o. is), no_stray g (t ∷ ss) ends (ap rest_of (rw (own, is) at only)))
    | inr other ↦
        let short : s.node ∷ route_of (t ∷ ss) ≡ customers_of g (t ∷ ss) ++ 0 ∷ [] = rw (own, other) at only in
        absurd (omega (arith, ap length short, length_more (customers_of g (t ∷ ss)), fewer g (t ∷ ss) ends))
  ]
]

module _ (g : Network) (b : Branch) (s : NearSection) (network : IsNetwork g) (full : AreWithinFullAt g s) (closed : AreClosedAt g b s) where
  from_depot : (stops : List Stop) → IsNearRoute g s.sets (home_stop ∷ stops) → PlanKeepsPairs g b.allows (home_stop ∷ stops) → route_value g b s (home_stop ∷ stops) ≤ℤ pos (s.weight * time_of g 1 g.capacity (home_stop ∷ stops))
  from_depot stops is keeps =
      let one : 1 * g.capacity ≡ g.capacity = omega arith in
      let feasible = is.feasible in
      let kept : KeepsBatteryFrom g 1 0 g.capacity stops = rw one at feasible.battery.0 in
      let home : 1 * g.home_level ≤ level_after g 1 0 g.capacity stops = rw one at feasible.battery.1 in
      let in_time : time_from g 1 0 g.capacity stops ≤ 1 * scaled_limit g = rw one at feasible.in_time in
      let rest : IsRest g b s 0 (start g) stops = record {
        are_stops = feasible.plan.3;
        battery = kept;
        home = home;
        in_time = omega (arith, in_time);
        pairs = keeps;
        some = λ none. is.some;
        keeps = is.keeps;
      } in
      let paid = pays g b s closed 0 (start g) stops network full closed.begins feasible.plan.2 (no_stray g stops feasible.plan.2 (ap rest_of is.only)) rest in
      let value = earned_value g b s 0 (customers_of g stops) in
      rw one (omega (arith, ints, paid, value))

  pub routes_pay : NearRoutesPayAt g b s
  routes_pay [] is keeps = absurd is.feasible.plan
  routes_pay (first ∷ stops) is keeps =
      subst (λ (x : Stop). IsNearRoute g s.sets (x ∷ stops) → PlanKeepsPairs g b.allows (x ∷ stops) → route_value g b s (x ∷ stops) ≤ℤ pos (s.weight * time_of g 1 g.capacity (x ∷ stops)))
      (sym is.feasible.plan.1) (from_depot stops) is keeps
