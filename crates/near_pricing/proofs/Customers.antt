-- Customers in order, none of whom is remembered when served.
use Rattle.std.proofs.Common.{◌≡◌, ◌≢◌, ◌∙◌, ℕ, ◌<◌, ◌≤◌, true, refl, sym, ap, List, [], ◌∷◌, ◌++◌, map, nat_eq}
use Rattle.std.specs.Prelude.{filter}
use Rattle.std.specs.List.{All}
use Rattle.std.proofs.lemmas.Bool.{eq-eqb, false≢true, or_left}
use Rattle.customer_sets.specs.CustSet.{has}
use Rattle.ev_model.specs.Network.{is_customer, Network, node_count}
use Rattle.ev_model.specs.Route.{IsRoute, Moves}
use Rattle.fleet_model.specs.Places.{customer_number}
use Rattle.label_search.proofs.Orders.{customer_moves, makes_route}
use Rattle.fleet_model.proofs.Counts.{AreCustomers}
use Rattle.near_proof.specs.Routes.{KeepsMemory}
use Rattle.near_proof.specs.Terms.{near_set, remembered}

-- who is served is remembered
own_remembered : (sets : List (List ℕ)) (memory : List ℕ) (c : ℕ) → has (remembered sets memory c) c ≡ true
own_remembered sets memory c = or_left (nat_eq c c) (has (filter (has (near_set sets c)) memory) c) (eq-eqb c c refl)

module _ (g : Network) where
  -- none follows itself
  moves_on : (sets : List (List ℕ)) (memory : List ℕ) (x : ℕ) (order : List ℕ) → is_customer g x ≡ true → AreCustomers g order → has memory (customer_number g x) ≡ true → KeepsMemory sets memory (map (customer_number g) order) → Moves (x ∷ order ++ 0 ∷ [])
  moves_on sets memory x [] is are there keeps = ((λ e. customer_moves g x is (sym e)), tt)
  moves_on sets memory x (y ∷ ys) is are there keeps = (
    (λ e. false≢true (sym keeps.0 ∙ ap (λ z. has memory (customer_number g z)) e ∙ there)),
    moves_on sets (remembered sets memory (customer_number g y)) y ys are.0 are.1 (own_remembered sets memory (customer_number g y)) keeps.1,
  )

  all_move : (sets : List (List ℕ)) (memory order : List ℕ) → order ≢ [] → AreCustomers g order → KeepsMemory sets memory (map (customer_number g) order) → Moves (0 ∷ order ++ 0 ∷ [])
  all_move sets memory [] some are keeps = absurd (some refl)
  all_move sets memory (x ∷ xs) some are keeps = (
    customer_moves g x are.0,
    moves_on sets (remembered sets memory (customer_number g x)) x xs are.0 are.1 (own_remembered sets memory (customer_number g x)) keeps.1,
  )

  -- a route of customers none of whom is remembered
  pub near_route : (sets : List (List ℕ)) (memory order : List ℕ) → 1 ≤ node_count g → order ≢ [] → AreCustomers g order → All (λ x. x < node_count g) order → KeepsMemory sets memory (map (customer_number g) order) → IsRoute g (0 ∷ order ++ 0 ∷ [])
  near_route sets memory order depot some are known keeps = makes_route g order depot are known (all_move sets memory order some are keeps)
