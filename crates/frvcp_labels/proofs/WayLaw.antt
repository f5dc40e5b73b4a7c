-- No plan of a route takes less than the ways between its nodes cost.
use Rattle.std.proofs.Common.{◌≡◌, ◌∙◌, ℕ, ◌+◌, ◌*◌, ◌<◌, ◌≤◌, true, false, inl, inr, List, [], ◌∷◌, ◌++◌, ap, arith, subst}
use Rattle.std.specs.List.{All}
use Rattle.std.proofs.lemmas.Bool.{cases_Bool}
use Rattle.std.proofs.lemmas.List.Elements.{All-append, All-cons, All-head, All-nil, All-tail}
use Rattle.std.proofs.Math.Nat.{mul-le-mul_left}
use Rattle.ev_model.specs.Feasible.{IsFeasible}
use Rattle.ev_model.specs.Levels.{KeepsBatteryFrom, arriving_level, leaving_level, level_after}
use Rattle.ev_model.specs.Network.{Network, curve_at, energy, node_count, process_time, travel_time}
use Rattle.ev_model.specs.Plan.{AreStopsFrom, IsStop}
use Rattle.ev_model.specs.Route.{FollowsRoute, route_of}
use Rattle.ev_model.specs.Time.{charging_time, plugging_time, time_from, time_of}
use Rattle.ev_model.specs.declared.Stop.{Stop}
use Rattle.frvcp_labels.specs.Bounds.{AreWayCosts, way_cost, way_sum}
use Rattle.frvcp_labels.specs.Rest.{IsRate, step_cost}
use Rattle.route_steps.specs.Ways.{depot_stop}
use Rattle.frvcp_labels.proofs.RestLaw.{charged, step_sum}

module _ (g : Network) (rate : ℕ) (layers : List (List ℕ)) (is : IsRate g rate) (are : AreWayCosts g rate layers) where
  -- one stop before others
  one_more : (s : Stop) (ss : List Stop) (from level rest next : ℕ) → IsStop g s → KeepsBatteryFrom g 1 from level (s ∷ ss) → rest ≤ step_cost g rate from s.node + next
      → next ≤ time_from g 1 s.node (leaving_level g 1 from level s) ss + rate * leaving_level g 1 from level s → rest ≤ time_from g 1 from level (s ∷ ss) + rate * level
  one_more s ss from level rest next stop keeps step later =
      let reserve = keeps.0 in
      step_sum g.denominator (travel_time g from s.node) (process_time g s.node) (plugging_time g s) rate (energy g from s.node) level s.added (leaving_level g 1 from level s)
      (charging_time 1 g.denominator (curve_at g s.node) (arriving_level g 1 from level s) (leaving_level g 1 from level s)) rest next (time_from g 1 s.node (leaving_level g 1 from level s) ss)
      step later (charged g rate is from level s stop (omega (arith, keeps.1))) (omega arith)

  -- a way over a station costs no less than the way itself
  goes_over : (from : ℕ) (s : Stop) (nodes : List ℕ) → from < node_count g → All (λ node. node < node_count g) nodes → IsStop g s → s.via ≡ true
      → way_sum layers from nodes ≤ step_cost g rate from s.node + way_sum layers s.node nodes
  goes_over from s [] known all stop via = omega arith
  goes_over from s (to ∷ nodes) known all stop via =
      let there : to < node_count g = All-head (λ node. node < node_count g) to nodes all in
      let over = (are.layers_are to there).steady from known s.node stop.known (stop.station (inl via)) in
      let here : 0 + from ≡ from = omega arith in
      let behind : 0 + s.node ≡ s.node = omega arith in
      omega (arith, over, ap (λ n. way_cost layers n to) here, ap (λ n. way_cost layers n to) behind)

  -- a stop at the next node of the route
  own_stop : (s : Stop) (ss : List Stop) (from level : ℕ) (nodes : List ℕ) → from < node_count g → All (λ node. node < node_count g) nodes → AreStopsFrom g from (s ∷ ss) → KeepsBatteryFrom g 1 from level (s ∷ ss)
      → s.node ∷ route_of ss ≡ nodes
      → ((ns : List ℕ) → All (λ node. node < node_count g) ns → route_of ss ≡ ns → way_sum layers s.node ns + rate * g.home_level ≤ time_from g 1 s.node (leaving_level g 1 from level s) ss + rate * leaving_level g 1 from level s)
      → way_sum layers from nodes + rate * g.home_level ≤ time_from g 1 from level (s ∷ ss) + rate * level
  own_stop s ss from level [] known all stops keeps behind later = absurd (cc)
  own_stop s ss from level (to ∷ nodes) known all stops keeps behind later =
      let same : s.node ≡ to = cc in
      let rest : route_of ss ≡ nodes = cc in
      let after = later nodes (All-tail (λ node. node < node_count g) to nodes all) rest in
      let direct = (are.layers_are s.node stops.1.known).direct from known in
      let here : 0 + from ≡ from = omega arith in
      let there = ap (λ n. way_cost layers n s.node) here in
      let first : way_cost layers from s.node ≡ way_cost layers from to = ap (way_cost layers from) same in
      let others : way_sum layers s.node nodes ≡ way_sum layers to nodes = ap (λ n. way_sum layers n nodes) same in
      one_more s ss from level (way_sum layers from (to ∷ nodes) + rate * g.home_level) (way_sum layers s.node nodes + rate * g.home_level) stops.1 keeps (omega (arith, direct, there, first, others)) after

  -- the stops that follow a node take at least the ways to the nodes of the route that are left, and what is charged
  pub ways_below : (ss : List Stop) (from level : ℕ) (nodes : List ℕ) → from < node_count g → All (λ node. node < node_count g) nodes → AreStopsFrom g from ss → KeepsBatteryFrom g 1 from level ss
      → route_of ss ≡ nodes → g.home_level ≤ level_after g 1 from level ss → way_sum layers from nodes + rate * g.home_level ≤ time_from g 1 from level ss + rate * level
  ways_below [] from level [] known all stops keeps follows home =
      let worth : rate * g.home_level ≤ rate * level = mul-le-mul_left rate home in
      omega (arith, worth)
  ways_below [] from level (to ∷ nodes) known all stops keeps follows home = absurd (cc)
  ways_below (s ∷ ss) from level nodes known all stops keeps follows home = elim (cases_Bool s.via) [
    | inl via ↦
        let behind : route_of ss ≡ nodes = rw via at follows in
        let later = ways_below ss s.node (leaving_level g 1 from level s) nodes stops.1.known all stops.2 keeps.2 behind home in
        let over = goes_over from s nodes known all stops.1 via in
        one_more s ss from level (way_sum layers from nodes + rate * g.home_level) (way_sum layers s.node nodes + rate * g.home_level) stops.1 keeps (omega (arith, over)) later
    | inr own ↦
        let behind : s.node ∷ route_of ss ≡ nodes = rw own at follows in
        own_stop s ss from level nodes known all stops keeps behind (λ ns known_all rest. ways_below ss s.node (leaving_level g 1 from level s) ns stops.1.known known_all stops.2 keeps.2 rest home)
  ]

  -- a plan from full takes at least the ways along its route, with what is charged at the rate
  pub plan_below : (order : List ℕ) (stops : List Stop) → 0 < node_count g → All (λ node. node < node_count g) order → IsFeasible g 1 g.capacity stops → FollowsRoute (0 ∷ order ++ 0 ∷ []) stops
      → way_sum layers 0 (order ++ 0 ∷ []) + rate * g.home_level ≤ time_of g 1 g.capacity stops + rate * g.capacity
  plan_below order [] depot all feasible follows = absurd feasible.plan
  plan_below order (first ∷ ss) depot all feasible follows =
      let begins : first ≡ depot_stop = feasible.plan.1 in
      let node : first.node ≡ 0 = ap (λ (s : Stop). s.node) begins in
      let own : first.via ≡ false = ap (λ (s : Stop). s.via) begins in
      let full : 1 * g.capacity ≡ g.capacity = omega arith in
      let whole : first.node ∷ route_of ss ≡ 0 ∷ order ++ 0 ∷ [] = rw own at follows in
      let rest : route_of ss ≡ order ++ 0 ∷ [] = cc in
      let known : All (λ node. node < node_count g) (order ++ 0 ∷ []) = All-append (λ node. node < node_count g) order (0 ∷ []) all (All-cons (λ node. node < node_count g) 0 [] depot (All-nil (λ node. node < node_count g))) in
      let stops : AreStopsFrom g 0 ss = subst (λ n. AreStopsFrom g n ss) node feasible.plan.3 in
      let keeps : KeepsBatteryFrom g 1 0 g.capacity ss = subst (λ l. KeepsBatteryFrom g 1 0 l ss) full (subst (λ n. KeepsBatteryFrom g 1 n (1 * g.capacity) ss) node feasible.battery.0) in
      let home : 1 * g.home_level ≤ level_after g 1 0 (1 * g.capacity) ss = subst (λ n. 1 * g.home_level ≤ level_after g 1 n (1 * g.capacity) ss) node feasible.battery.1 in
      let high : g.home_level ≤ level_after g 1 0 g.capacity ss = (let at : 1 * g.home_level ≤ level_after g 1 0 g.capacity ss = subst (λ l. 1 * g.home_level ≤ level_after g 1 0 l ss) full home in omega (arith, at)) in
      let below = ways_below ss 0 g.capacity (order ++ 0 ∷ []) depot known stops keeps rest high in
      let time : time_from g 1 first.node (1 * g.capacity) ss ≡ time_from g 1 0 g.capacity ss = ap (λ n. time_from g 1 n (1 * g.capacity) ss) node ∙ ap (λ l. time_from g 1 0 l ss) full in
      omega (arith, below, time)

-- nothing is charged faster than in no time
pub no_rate : (g : Network) → IsRate g 0
no_rate g node known curve a b up fits = omega arith
