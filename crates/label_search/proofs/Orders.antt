-- Orders of customers, and the routes that they make.
use Rattle.std.proofs.Common.{◌≢◌, ℕ, ◌<◌, ◌≤◌, true, ◌≡◌, refl, List, [], ◌∷◌, ◌++◌, arith}
use Rattle.std.specs.Prelude.{filter}
use Rattle.std.specs.List.{All}
use Rattle.std.proofs.lemmas.List.Elements.{All-append, All-cons, All-nil}
use Rattle.ev_model.specs.Network.{is_customer, Network, node_count}
use Rattle.ev_model.specs.Route.{IsRoute, Moves}
use Rattle.fleet_model.proofs.Counts.{AreCustomers}

module _ (g : Network) where
  -- all of them are customers
  pub all_served : (order : List ℕ) → AreCustomers g order → filter (is_customer g) (order ++ 0 ∷ []) ≡ order
  all_served [] are = refl
  all_served (x ∷ xs) are = rw (are.0, all_served xs are.1) refl

  pub customer_moves : (x : ℕ) → is_customer g x ≡ true → x ≢ 0
  customer_moves x is zero_is = grind (arith, is, zero_is)

  none_depot : (order : List ℕ) → AreCustomers g order → All (λ node. node ≢ 0) order
  none_depot [] are = All-nil (λ (node : ℕ). node ≢ 0)
  none_depot (x ∷ xs) are = All-cons (λ (node : ℕ). node ≢ 0) x xs (customer_moves x are.0) (none_depot xs are.1)

  -- known customers, none of whom follows himself
  pub makes_route : (order : List ℕ) → 1 ≤ node_count g → AreCustomers g order → All (λ x. x < node_count g) order → Moves (0 ∷ order ++ 0 ∷ []) → IsRoute g (0 ∷ order ++ 0 ∷ [])
  makes_route order depot are known moves =
      let P = λ (node : ℕ). node < node_count g in
      let end : All P (0 ∷ []) = All-cons P 0 [] (omega (arith, depot)) (All-nil P) in (
        order,
        record {
          ends = refl;
          known = All-cons P 0 (order ++ 0 ∷ []) (omega (arith, depot)) (All-append P order (0 ∷ []) known end);
          no_depot = none_depot order are;
          moves = moves;
        },
      )
