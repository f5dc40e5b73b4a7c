-- The customers of a route, by number.
use Rattle.std.proofs.Common.{◌≡◌, ℕ, ◌<◌, List, [], ◌∷◌, map, length, sym, ap, subst, arith}
use Rattle.std.specs.List.{All}
use Rattle.std.proofs.lemmas.List.Elements.{All-cons, All-get_or, All-nil, All-weaker}
use Rattle.ev_model.specs.Fleet.{customers_of}
use Rattle.ev_model.specs.Network.{Network, node_count}
use Rattle.ev_model.specs.Route.{route_of}
use Rattle.fleet_model.specs.Places.{customer_count, customer_number}
use Rattle.fleet_model.proofs.Counts.{AreCustomers, number_less}
use Rattle.fleet_model.proofs.Fleets.{plan_below}
use Rattle.fleet_model.proofs.Numbers.{counted}
use Rattle.fleet_model.proofs.Plans.{filtered}
use Rattle.fleet_model.proofs.Weighed.{AreBelow}
use Rattle.instance_reader.specs.Instance.{customer_nodes}
use Rattle.mixed_model.specs.Kinds.{Agrees, first_of, network_of, no_network}
use Rattle.mixed_fleet.specs.Fleets.{AreFleetKinds}
use Rattle.mixed_fleet.specs.Searched.{IsSearched}
use Rattle.mixed_fleet.specs.declared.searched.Searched.{Searched}

all_less : (g : Network) (xs : List ℕ) → AreCustomers g xs → AreBelow (node_count g) xs → All (λ c. c < customer_count g) (map (customer_number g) xs)
all_less g [] are below = All-nil (λ c. c < customer_count g)
all_less g (x ∷ xs) are below =
    All-cons (λ c. c < customer_count g) (customer_number g x) (map (customer_number g) xs) (number_less g x (node_count g) are.0 below.0) (all_less g xs are.1 below.1)

pub agrees_at : (kinds : List Network) → AreFleetKinds kinds → (kind : ℕ) → kind < length kinds → Agrees (first_of kinds) (network_of kinds kind)
agrees_at kinds fleet kind known = All-get_or (Agrees (first_of kinds)) kinds kind no_network known fleet.are.agree

-- all kinds have as many customers
pub same_count : (kinds : List Network) → AreFleetKinds kinds → (kind : ℕ) → kind < length kinds → length (customer_nodes (network_of kinds kind)) ≡ length (customer_nodes (first_of kinds))
same_count kinds fleet kind known = ap (λ (nodes : List ℕ). length nodes) (agrees_at kinds fleet kind known).customers

pub numbers_below : (kinds : List Network) → AreFleetKinds kinds → (r : Searched) → IsSearched kinds r → All (λ c. c < length (customer_nodes (first_of kinds))) r.numbers
numbers_below kinds fleet r is =
    let g = network_of kinds r.route.kind in
    let stops = r.route.plan.stops in
    let all = all_less g (customers_of g stops) (filtered g (route_of stops)) (plan_below g 1 g.capacity stops is.route.route.feasible) in
    let same = same_count kinds fleet r.route.kind is.route.known in
    let count = counted g in
    subst (λ (ns : List ℕ). All (λ c. c < length (customer_nodes (first_of kinds))) ns) (sym is.numbers)
    (All-weaker (λ (c : ℕ). c < customer_count g) (λ c. c < length (customer_nodes (first_of kinds))) (λ c less. omega (arith, less, same, count)) (map (customer_number g) (customers_of g stops)) all)

pub numbers_small : (kinds : List Network) → AreFleetKinds kinds → (r : Searched) → IsSearched kinds r → All (λ c. c < 128) r.numbers
numbers_small kinds fleet r is =
    let few = fleet.few in
    All-weaker (λ (c : ℕ). c < length (customer_nodes (first_of kinds))) (λ c. c < 128) (λ c less. omega (arith, less, few)) r.numbers (numbers_below kinds fleet r is)
