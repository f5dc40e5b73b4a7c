-- Each whole fleet plan costs at least a section's bound.
use Rattle.std.proofs.Common.{◌≡◌, ◌∙◌, ℕ, ◌+◌, ◌*◌, ◌≤◌, true, sym, ap, subst, List, [], ◌∷◌, map, arith, inl, inr}
use Rattle.std.specs.List.{All}
use Rattle.std.specs.Prelude.{ℤ, pos, ◌+ℤ◌, ◌≤ℤ◌, ◌<ℤ◌}
use Rattle.std.proofs.Math.Nat.{mul-le-mul_left}
use Rattle.std.proofs.lemmas.Bool.{cases_Bool, cases_lt}
use Rattle.std.proofs.lemmas.Int.{ints}
use Rattle.std.proofs.lemmas.List.Elements.{All-head, All-tail}
use Rattle.ev_model.specs.Feasible.{IsFeasible}
use Rattle.ev_model.specs.Fleet.{all_customers, cost_of, customers_of, IsFleetPlan, ServesOnly, times_in}
use Rattle.ev_model.specs.Network.{Network, IsNetwork, is_customer, node_count}
use Rattle.ev_model.specs.Plan.{AreStopsFrom}
use Rattle.ev_model.specs.Route.{route_of}
use Rattle.ev_model.specs.Time.{time_of}
use Rattle.ev_model.specs.declared.Stop.{Stop}
use Rattle.fleet_model.specs.Pairs.{FleetKeepsPairs, PlanKeepsPairs}
use Rattle.fleet_model.specs.Places.{customer_count, customer_number, numbers_of}
use Rattle.fleet_model.specs.Prices.{price_sum, price_total}
use Rattle.fleet_model.specs.Section.{Section, IsSectionOf, IsAtMostBound, ShowsNoPlan}
use Rattle.fleet_model.specs.ClosedList.{IsClosed}
use Rattle.fleet_model.proofs.Counts.{AreCustomers, times_append}
use Rattle.fleet_model.proofs.Plans.{filtered, plan_pays}
use Rattle.fleet_model.proofs.Sound.{home_stop}
use Rattle.fleet_model.proofs.Weighed.{AreBelow, below_append, customers_append, sum_append, sum_to, sum_to_all, sum_weighed, times_above, weighed_once}

customers_below : (g : Network) (from : ℕ) (stops : List Stop) → AreStopsFrom g from stops → AreBelow (node_count g) (customers_of g stops)
customers_below g from [] stops = tt
customers_below g from (s ∷ ss) stops =
    let rest = customers_below g s.node ss stops.2 in
    elim (cases_Bool s.via) [
      | inl via ↦ rw via rest
      | inr own ↦ elim (cases_Bool (is_customer g s.node)) [
        | inl is ↦ rw (own, is) (stops.1.known, rest)
        | inr other ↦ rw (own, other) rest
      ]
    ]

depot_below : (g : Network) (stops : List Stop) → AreStopsFrom g 0 stops → AreBelow (node_count g) (customers_of g (home_stop ∷ stops))
depot_below g stops are = customers_below g 0 stops are

pub plan_below : (g : Network) (k start : ℕ) (plan : List Stop) → IsFeasible g k start plan → AreBelow (node_count g) (customers_of g plan)
plan_below g k start [] feasible = tt
plan_below g k start (first ∷ stops) feasible =
    subst (λ (x : Stop). AreStopsFrom g x.node stops → AreBelow (node_count g) (customers_of g (x ∷ stops))) (sym feasible.plan.1) (depot_below g stops) feasible.plan.3

pub all_below : (g : Network) (k : ℕ) (plans : List (List Stop)) → All (IsFeasible g k g.capacity) plans → AreBelow (node_count g) (all_customers g plans)
all_below g k [] feasible = tt
all_below g k (p ∷ ps) feasible =
    below_append (customers_of g p) (all_customers g ps) (node_count g)
    (plan_below g k g.capacity p (All-head (IsFeasible g k g.capacity) p ps feasible))
    (all_below g k ps (All-tail (IsFeasible g k g.capacity) p ps feasible))

pub all_filtered : (g : Network) (plans : List (List Stop)) → AreCustomers g (all_customers g plans)
all_filtered g [] = tt
all_filtered g (p ∷ ps) = customers_append g (customers_of g p) (all_customers g ps) (filtered g (route_of p)) (all_filtered g ps)

-- each customer is served at most once
pub served_once : (g : Network) (k : ℕ) (plans : List (List Stop)) → IsFleetPlan g k plans → (node : ℕ) → is_customer g node ≡ true → times_in (all_customers g plans) node ≤ 1
served_once g k plans fleet node is = elim (cases_lt node (node_count g)) [
  | inl less ↦ omega (arith, fleet.once node less is)
  | inr more ↦ omega (arith, times_above (all_customers g plans) (node_count g) node (all_below g k plans fleet.feasible) more)
]

summed : (p q : ℤ) (w t u : ℕ) → p ≤ℤ pos (w * t) → q ≤ℤ pos (w * u) → (p +ℤ q) ≤ℤ pos (w * (t + u))
summed p q w t u first second =
    let parts : w * (t + u) ≡ w * t + w * u = omega arith in
    rw parts (omega (arith, ints, first, second))

routes_pay : (g : Network) (s : Section) (plans : List (List Stop)) → IsNetwork g → IsSectionOf g s → IsClosed g s
    → All (IsFeasible g 1 g.capacity) plans → All (ServesOnly g) plans → FleetKeepsPairs g s.allows plans → ((node : ℕ) → is_customer g node ≡ true → times_in (all_customers g plans) node ≤ 1)
    → price_sum s.prices (map (customer_number g) (all_customers g plans)) ≤ℤ pos (s.weight * cost_of g 1 plans)
routes_pay g s [] network of closed feasible only keeps once = omega (arith, ints)
routes_pay g s (p ∷ ps) network of closed feasible only keeps once =
    let each = λ (x : ℕ). times_append (customers_of g p) (all_customers g ps) x in
    let paid = plan_pays g s p network of closed (All-head (IsFeasible g 1 g.capacity) p ps feasible) (All-head (ServesOnly g) p ps only)
    (All-head (PlanKeepsPairs g s.allows) p ps keeps) (λ x is. omega (arith, each x, once x is)) in
    let later = routes_pay g s ps network of closed (All-tail (IsFeasible g 1 g.capacity) p ps feasible) (All-tail (ServesOnly g) p ps only)
    (All-tail (PlanKeepsPairs g s.allows) p ps keeps) (λ x is. omega (arith, each x, once x is)) in
    rw (sum_append g s.prices (customers_of g p) (all_customers g ps))
    (summed (price_sum s.prices (numbers_of g p)) (price_sum s.prices (map (customer_number g) (all_customers g ps))) s.weight (time_of g 1 g.capacity p) (cost_of g 1 ps) paid later)

pub fleet_pays : (g : Network) (s : Section) (plans : List (List Stop)) → IsNetwork g → IsSectionOf g s → IsClosed g s → IsFleetPlan g 1 plans → FleetKeepsPairs g s.allows plans
    → price_total s.prices ≤ℤ pos (s.weight * cost_of g 1 plans)
fleet_pays g s plans network of closed fleet keeps =
    let below = all_below g 1 plans fleet.feasible in
    let paid = routes_pay g s plans network of closed fleet.feasible fleet.only keeps (served_once g 1 plans fleet) in
    let sum = sum_weighed g s.prices (all_customers g plans) (node_count g) (all_filtered g plans) below ∙ weighed_once g s.prices (all_customers g plans) (node_count g) fleet.once in
    let all : sum_to s.prices (customer_count g) ≡ price_total s.prices = ap (λ n. sum_to s.prices n) (sym of.one_price) ∙ sum_to_all s.prices in
    let whole : price_sum s.prices (map (customer_number g) (all_customers g plans)) ≡ price_total s.prices = sum ∙ all in
    rw whole at paid

bounded : (w cost bound : ℕ) (prices : ℤ) → prices ≤ℤ pos (w * cost) → pos (bound * w) <ℤ (prices +ℤ pos w) → bound ≤ cost
bounded w cost bound prices paid below = elim (cases_lt cost bound) [
  | inl less ↦
      let scaled : w * (cost + 1) ≤ w * bound = mul-le-mul_left w (omega (arith, less)) in
      let parts : w * cost + w ≤ bound * w = omega (arith, scaled) in
      absurd (omega (arith, ints, parts, paid, below))
  | inr fine ↦ fine
]

pub fleet_bound : (g : Network) (s : Section) (plans : List (List Stop)) (bound : ℕ) → IsNetwork g → IsSectionOf g s → IsClosed g s → IsFleetPlan g 1 plans → FleetKeepsPairs g s.allows plans
    → IsAtMostBound s bound → bound ≤ cost_of g 1 plans
fleet_bound g s plans bound network of closed fleet keeps (inl below) =
    bounded s.weight (cost_of g 1 plans) bound (price_total s.prices) (fleet_pays g s plans network of closed fleet keeps) below
fleet_bound g s plans bound network of closed fleet keeps (inr none) = omega (arith, none.1)

nothing : (w cost : ℕ) (prices : ℤ) → prices ≤ℤ pos (w * cost) → w ≡ 0 → pos 0 <ℤ prices → ⊥
nothing w cost prices paid none more =
    let zero_is : w * cost ≡ 0 = rw none (omega arith) in
    let free : prices ≤ℤ pos 0 = rw zero_is at paid in
    omega (arith, ints, free, more)

pub fleet_none : (g : Network) (s : Section) (plans : List (List Stop)) → IsNetwork g → IsSectionOf g s → IsClosed g s → IsFleetPlan g 1 plans → FleetKeepsPairs g s.allows plans → ShowsNoPlan s → ⊥
fleet_none g s plans network of closed fleet keeps shows =
    nothing s.weight (cost_of g 1 plans) (price_total s.prices) (fleet_pays g s plans network of closed fleet keeps) shows.0 shows.1
