-- Where the plans of an exact root are a fleet plan, each has all of its customers' shares, and together they cost the price sum
-- over the weight.
use Rattle.std.proofs.Common.{◌≡◌, ◌≢◌, ◌∙◌, ℕ, ◌+◌, ◌*◌, ◌<◌, ◌≤◌, true, List, [], ◌∷◌, map, refl, sym, ap, arith}
use Rattle.std.specs.Prelude.{pos}
use Rattle.std.specs.List.{All}
use Rattle.std.proofs.lemmas.Bool.{eq-eqb}
use Rattle.std.proofs.lemmas.List.Elements.{All-head, All-tail}
use Rattle.ev_model.specs.Fleet.{all_customers, cost_of, customers_of, IsFleetPlan, times_in}
use Rattle.ev_model.specs.Network.{is_customer, Network, node_count}
use Rattle.ev_model.specs.Feasible.{IsFeasible}
use Rattle.ev_model.specs.Route.{route_of}
use Rattle.ev_model.specs.declared.Stop.{Stop}
use Rattle.fleet_model.specs.Cover.{cost_of_shares, IsExactRoot, Share, shares_of}
use Rattle.fleet_model.specs.Prices.{price_total}
use Rattle.fleet_model.specs.Section.{Section}
use Rattle.fleet_model.proofs.Counts.{AreCustomers, times_append}
use Rattle.fleet_model.proofs.Fleets.{plan_below}
use Rattle.fleet_model.proofs.Plans.{filtered}
use Rattle.fleet_model.proofs.Weighed.{AreBelow}
use Rattle.certificate_check.proofs.RoundedSums.{cancelled}

abbrev pub plans_in : List Share → List (List Stop)
plans_in shares = map (λ x. x.plan) shares

one_served : (g : Network) (xs : List ℕ) → AreCustomers g xs → AreBelow (node_count g) xs → xs ≢ [] → (c : ℕ) × (1 ≤ times_in xs c) × (is_customer g c ≡ true) × (c < node_count g)
one_served g [] are below some = absurd (some refl)
one_served g (x ∷ xs) are below some = (x, rw (eq-eqb x x refl) (omega arith), are.0, below.0)

none_shared : (g : Network) (node : ℕ) (shares : List Share) → times_in (all_customers g (plans_in shares)) node ≡ 0 → shares_of g shares node ≡ 0
none_shared g node [] none = refl
none_shared g node (x ∷ shares) none =
    let both = times_append (customers_of g x.plan) (all_customers g (plans_in shares)) node in
    let here : times_in (customers_of g x.plan) node ≡ 0 = omega (arith, both, none) in
    let rest = none_shared g node shares (omega (arith, both, none)) in
    rw here (omega (arith, rest))

-- shares of plans that serve no customer twice
shares_cost : (g : Network) (over : ℕ) (shares : List Share) → All (IsFeasible g 1 g.capacity) (plans_in shares) → All (λ stops. customers_of g stops ≢ []) (plans_in shares)
    → ((node : ℕ) → node < node_count g → is_customer g node ≡ true → times_in (all_customers g (plans_in shares)) node ≤ 1)
    → ((node : ℕ) → node < node_count g → is_customer g node ≡ true → 1 ≤ times_in (all_customers g (plans_in shares)) node → shares_of g shares node ≡ over)
    → cost_of_shares g 1 shares ≡ over * cost_of g 1 (plans_in shares)
shares_cost g over [] feasible some once covers = omega arith
shares_cost g over (x ∷ shares) feasible some once covers =
    let customers = customers_of g x.plan in
    let others = all_customers g (plans_in shares) in
    let below = plan_below g 1 g.capacity x.plan (All-head (IsFeasible g 1 g.capacity) x.plan (plans_in shares) feasible) in
    let found = one_served g customers (filtered g (route_of x.plan)) below (All-head (λ stops. customers_of g stops ≢ []) x.plan (plans_in shares) some) in
    let node = found.0 in
    let served = found.1 in
    let both = times_append customers others node in
    let most = once node found.3 found.2 in
    let here : times_in customers node ≡ 1 = omega (arith, both, most, served) in
    let none = none_shared g node shares (omega (arith, both, most, served)) in
    let total : x.share * times_in customers node + shares_of g shares node ≡ over = covers node found.3 found.2 (omega (arith, both, served)) in
    let alone : x.share * 1 + 0 ≡ over = rw (here, none) at total in
    let whole : x.share ≡ over = omega (arith, alone) in
    let rest = shares_cost g over shares (All-tail (IsFeasible g 1 g.capacity) x.plan (plans_in shares) feasible) (All-tail (λ stops. customers_of g stops ≢ []) x.plan (plans_in shares) some)
    (λ n known is.
    let sum = times_append customers others n in
    let few = once n known is in
    omega (arith, sum, few))
    (λ n known is there.
    let sum = times_append customers others n in
    let few = once n known is in
    let zero_here : times_in customers n ≡ 0 = omega (arith, sum, few, there) in
    let all : x.share * times_in customers n + shares_of g shares n ≡ over = covers n known is (omega (arith, sum, there)) in
    let left : x.share * 0 + shares_of g shares n ≡ over = rw zero_here at all in
    omega (arith, left)) in
    rw whole (omega (arith, rest))

pub costs_bound : (g : Network) (s : Section) (over : ℕ) (shares : List Share) → IsExactRoot g s over shares → IsFleetPlan g 1 (plans_in shares) → price_total s.prices ≡ pos (s.weight * cost_of g 1 (plans_in shares))
costs_bound g s over shares exact fleet =
    let cost = cost_of g 1 (plans_in shares) in
    let sums = shares_cost g over shares fleet.feasible fleet.some (λ node known is. (let one = fleet.once node known is in omega (arith, one))) (λ node known is there. exact.cover.covers node known is) in
    let same : cost_of_shares g 1 shares * s.weight ≡ over * (s.weight * cost) = ap (λ n. n * s.weight) sums ∙ omega arith in
    cancelled over (s.weight * cost) (price_total s.prices) exact.cover.some_weight (sym (ap pos same) ∙ exact.cost)
