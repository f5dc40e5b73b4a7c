-- The customers of a route in the pool.
use Rattle.std.proofs.Common.{◌≡◌, ℕ, ◌<◌, true, subst, List, [], ◌∷◌}
use Rattle.std.specs.List.{All}
use Rattle.std.proofs.lemmas.List.Elements.{All-cons, All-nil}
use Rattle.ev_model.specs.Network.{is_customer, Network, node_count}
use Rattle.ev_model.specs.Route.{route_of}
use Rattle.ev_model.specs.declared.Stop.{Stop}
use Rattle.fleet_model.proofs.Counts.{AreCustomers}
use Rattle.fleet_model.proofs.Fleets.{plan_below}
use Rattle.fleet_model.proofs.Plans.{filtered}
use Rattle.fleet_model.proofs.Weighed.{AreBelow}
use Rattle.route_pool.specs.Pool.{IsColumn}

all_below : (n : ℕ) (xs : List ℕ) → AreBelow n xs → All (λ x. x < n) xs
all_below n [] below = All-nil (λ x. x < n)
all_below n (x ∷ xs) below = All-cons (λ x. x < n) x xs below.0 (all_below n xs below.1)

all_customers : (g : Network) (xs : List ℕ) → AreCustomers g xs → All (λ x. is_customer g x ≡ true) xs
all_customers g [] are = All-nil (λ x. is_customer g x ≡ true)
all_customers g (x ∷ xs) are = All-cons (λ x. is_customer g x ≡ true) x xs are.0 (all_customers g xs are.1)

module _ (g : Network) (order : List ℕ) (stops : List Stop) (is : IsColumn g order stops) where
  pub column_known : All (λ node. node < node_count g) order
  column_known = subst (λ xs. All (λ node. node < node_count g) xs) is.serves (all_below (node_count g) _ (plan_below g 1 g.capacity stops is.route.feasible))

  pub column_customers : All (λ node. is_customer g node ≡ true) order
  column_customers = subst (λ xs. All (λ node. is_customer g node ≡ true) xs) is.serves (all_customers g _ (filtered g (route_of stops)))
