-- Each whole fleet plan that keeps what the way down to a leaf says costs at least the leaf's bound.
use Rattle.std.proofs.Common.{◌≡◌, ◌≢◌, ◌∙◌, ℕ, ◌+◌, ◌*◌, ◌≤◌, true, sym, ap, List, [], ◌∷◌, map, Option, None, Some, arith, inl, inr}
use Rattle.std.specs.List.{All}
use Rattle.std.specs.Prelude.{ℤ, pos, ◌+ℤ◌, ◌≤ℤ◌, ◌<ℤ◌}
use Rattle.std.proofs.Math.Nat.{mul-le-mul_left}
use Rattle.std.proofs.lemmas.Bool.{cases_lt}
use Rattle.std.proofs.lemmas.Int.{ints}
use Rattle.std.proofs.lemmas.List.Elements.{All-head, All-tail}
use Rattle.ev_model.specs.Feasible.{IsFeasible}
use Rattle.ev_model.specs.Fleet.{all_customers, cost_of, customers_of, IsFleetPlan, ServesOnly, times_in}
use Rattle.ev_model.specs.Network.{is_customer, IsNetwork, Network, node_count}
use Rattle.ev_model.specs.Time.{time_of}
use Rattle.ev_model.specs.declared.Stop.{Stop}
use Rattle.fleet_model.specs.Pairs.{FleetKeepsPairs, PlanKeepsPairs}
use Rattle.fleet_model.specs.Places.{customer_count, customer_number, places_of}
use Rattle.fleet_model.specs.Prices.{price_sum, price_total}
use Rattle.fleet_model.proofs.Counts.{times_append}
use Rattle.fleet_model.proofs.Fleets.{all_below, all_filtered, served_once}
use Rattle.fleet_model.proofs.Weighed.{sum_append, sum_to, sum_to_all, sum_weighed, weighed_once}
use Rattle.near_proof.proofs.Fleets.{near_route}
use Rattle.near_tree.specs.Bounds.{entries_value, IsAcceptedAt, leaf_sum, NearRoutesPayAt, route_value}
use Rattle.near_tree.specs.Branches.{Branch, Keeps}
use Rattle.near_tree.specs.Pairs.{fleet_pairs, next_pairs}
use Rattle.near_tree.specs.Sections.{NearSection}
use Rattle.near_tree.specs.Trees.{IsSectionAt}
use Rattle.near_tree.proofs.Sound.{routes_pay}
use Rattle.near_tree.proofs.Sums.{total_least, value_append, value_none}

-- what the routes of a fleet plan earn
abbrev fleet_value : Network → Branch → NearSection → List (List Stop) → ℤ
fleet_value g b s plans =
    price_sum s.prices (map (customer_number g) (all_customers g plans)) +ℤ entries_value b.counted s.entry_prices (fleet_pairs g plans)

value_of_parts : (g : Network) (b : Branch) (s : NearSection) (p : List Stop) (ps : List (List Stop)) →
    fleet_value g b s (p ∷ ps) ≡ route_value g b s p +ℤ fleet_value g b s ps
value_of_parts g b s p ps =
    let prices = sum_append g s.prices (customers_of g p) (all_customers g ps) in
    let entries = value_append b.counted s.entry_prices (next_pairs (places_of g p)) (fleet_pairs g ps) in
    omega (arith, ints, prices, entries)

summed : (p q : ℤ) (w t u : ℕ) → p ≤ℤ pos (w * t) → q ≤ℤ pos (w * u) → (p +ℤ q) ≤ℤ pos (w * (t + u))
summed p q w t u first second =
    let parts : w * (t + u) ≡ w * t + w * u = omega arith in
    rw parts (omega (arith, ints, first, second))

abbrev HasCustomer : Network → List Stop → Type 0
HasCustomer g stops = customers_of g stops ≢ []

module _ (g : Network) (b : Branch) (s : NearSection) (network : IsNetwork g) (of : IsSectionAt g b s) where
  fleet_pays : NearRoutesPayAt g b s → (plans : List (List Stop)) → All (IsFeasible g 1 g.capacity) plans → All (HasCustomer g) plans → All (ServesOnly g) plans
      → FleetKeepsPairs g b.allows plans → ((node : ℕ) → is_customer g node ≡ true → times_in (all_customers g plans) node ≤ 1)
      → fleet_value g b s plans ≤ℤ pos (s.weight * cost_of g 1 plans)
  fleet_pays pay [] feasible some only keeps once = omega (arith, ints, value_none b.counted s.entry_prices)
  fleet_pays pay (p ∷ ps) feasible some only keeps once =
      let each = λ (x : ℕ). times_append (customers_of g p) (all_customers g ps) x in
      let once_here : (x : ℕ) → is_customer g x ≡ true → times_in (customers_of g p) x ≤ 1 = λ x is. omega (arith, each x, once x is) in
      let route = near_route g s.sets p (All-head (IsFeasible g 1 g.capacity) p ps feasible) (All-head (ServesOnly g) p ps only) (All-head (HasCustomer g) p ps some) once_here in
      let later = fleet_pays pay ps (All-tail (IsFeasible g 1 g.capacity) p ps feasible) (All-tail (HasCustomer g) p ps some) (All-tail (ServesOnly g) p ps only)
      (All-tail (PlanKeepsPairs g b.allows) p ps keeps) (λ x is. omega (arith, each x, once x is)) in
      let both = summed (route_value g b s p) (fleet_value g b s ps) s.weight (time_of g 1 g.capacity p) (cost_of g 1 ps) (pay p route (All-head (PlanKeepsPairs g b.allows) p ps keeps)) later in
      rw (value_of_parts g b s p ps) both

  -- the prices of customers who are served once each are all prices
  all_once : (plans : List (List Stop)) → IsFleetPlan g 1 plans → price_sum s.prices (map (customer_number g) (all_customers g plans)) ≡ price_total s.prices
  all_once plans fleet =
      let sum = sum_weighed g s.prices (all_customers g plans) (node_count g) (all_filtered g plans) (all_below g 1 plans fleet.feasible) ∙ weighed_once g s.prices (all_customers g plans) (node_count g) fleet.once in
      let all : sum_to s.prices (customer_count g) ≡ price_total s.prices = ap (λ n. sum_to s.prices n) (sym of.one_price) ∙ sum_to_all s.prices in
      sum ∙ all

  sum_pays : (bound : Option ℕ) (plans : List (List Stop)) → IsAcceptedAt g bound b s → IsFleetPlan g 1 plans → Keeps g b plans → leaf_sum b s ≤ℤ pos (s.weight * cost_of g 1 plans)
  sum_pays bound plans accepted fleet keeps =
      let paid = fleet_pays (routes_pay g b s network of.full accepted.closed) plans fleet.feasible fleet.some fleet.only keeps.pairs (served_once g 1 plans fleet) in
      let prices = all_once plans fleet in
      let least = total_least g plans b.counted s.entry_prices keeps.entries in
      omega (arith, ints, paid, prices, least)

  bounded : (w cost bound : ℕ) (sum : ℤ) → sum ≤ℤ pos (w * cost) → pos (bound * w) <ℤ (sum +ℤ pos w) → bound ≤ cost
  bounded w cost bound sum paid below = elim (cases_lt cost bound) [
    | inl less ↦
        let scaled : w * (cost + 1) ≤ w * bound = mul-le-mul_left w (omega (arith, less)) in
        let parts : w * cost + w ≤ bound * w = omega (arith, scaled) in
        absurd (omega (arith, ints, parts, paid, below))
    | inr fine ↦ fine
  ]

  nothing : (w cost : ℕ) (sum : ℤ) → sum ≤ℤ pos (w * cost) → w ≡ 0 → pos 0 <ℤ sum → ⊥
  nothing w cost sum paid none more =
      let zero_is : w * cost ≡ 0 = rw none (omega arith) in
      let free : sum ≤ℤ pos 0 = rw zero_is at paid in
      omega (arith, ints, free, more)

  pub whole_bound : (bound : ℕ) (plans : List (List Stop)) → IsAcceptedAt g (Some bound) b s → IsFleetPlan g 1 plans → Keeps g b plans → bound ≤ cost_of g 1 plans
  whole_bound bound plans accepted fleet keeps =
      bounded s.weight (cost_of g 1 plans) bound (leaf_sum b s) (sum_pays (Some bound) plans accepted fleet keeps) accepted.bounded

  pub whole_none : (plans : List (List Stop)) → IsAcceptedAt g None b s → IsFleetPlan g 1 plans → Keeps g b plans → ⊥
  whole_none plans accepted fleet keeps =
      nothing s.weight (cost_of g 1 plans) (leaf_sum b s) (sum_pays None plans accepted fleet keeps) accepted.bounded.0 accepted.bounded.1
