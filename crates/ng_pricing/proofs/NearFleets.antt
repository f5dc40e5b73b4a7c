-- Each route of a fleet plan is a near route.
use Rattle.std.proofs.Common.{◌≡◌, ◌≢◌, ℕ, ◌≤◌, true, List, [], ◌∷◌, arith}
use Rattle.std.specs.List.{All}
use Rattle.std.proofs.lemmas.List.Elements.{All-cons, All-head, All-nil, All-tail}
use Rattle.ev_model.specs.Feasible.{IsFeasible}
use Rattle.ev_model.specs.Fleet.{all_customers, customers_of, IsFleetPlan, ServesOnly, times_in}
use Rattle.ev_model.specs.Network.{is_customer, Network}
use Rattle.ev_model.specs.declared.Stop.{Stop}
use Rattle.fleet_model.proofs.Counts.{times_append}
use Rattle.fleet_model.proofs.Fleets.{served_once}
use Rattle.near_proof.proofs.Fleets.{near_route}
use Rattle.near_proof.specs.Routes.{IsNearRoute}

abbrev HasSome : Network → List Stop → Type 0
HasSome g stops = customers_of g stops ≢ []

each_near : (g : Network) (sets : List (List ℕ)) (plans : List (List Stop)) → All (IsFeasible g 1 g.capacity) plans → All (HasSome g) plans → All (ServesOnly g) plans
    → ((x : ℕ) → is_customer g x ≡ true → times_in (all_customers g plans) x ≤ 1) → All (IsNearRoute g sets) plans
each_near g sets [] feasible some only once = All-nil (IsNearRoute g sets)
each_near g sets (p ∷ ps) feasible some only once =
    let each = λ (x : ℕ). times_append (customers_of g p) (all_customers g ps) x in
    let here =
    near_route g sets p (All-head (IsFeasible g 1 g.capacity) p ps feasible) (All-head (ServesOnly g) p ps only) (All-head (HasSome g) p ps some)
    (λ x is. omega (arith, each x, once x is)) in
    let later =
    each_near g sets ps (All-tail (IsFeasible g 1 g.capacity) p ps feasible) (All-tail (HasSome g) p ps some) (All-tail (ServesOnly g) p ps only)
    (λ x is. omega (arith, each x, once x is)) in
    All-cons (IsNearRoute g sets) p ps here later

pub are_near : (g : Network) (sets : List (List ℕ)) (plans : List (List Stop)) → IsFleetPlan g 1 plans → All (IsNearRoute g sets) plans
are_near g sets plans fleet = each_near g sets plans fleet.feasible fleet.some fleet.only (served_once g 1 plans fleet)
