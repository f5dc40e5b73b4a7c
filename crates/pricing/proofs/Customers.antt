-- Customers in order, each of whom is new.
use Rattle.std.proofs.Common.{◌≡◌, ◌≢◌, ◌∙◌, ℕ, ◌<◌, ◌≤◌, true, false, refl, sym, ap, subst, List, [], ◌∷◌, ◌++◌, map, arith, inl, inr, nat_eq, nat_lt, ◌||◌}
use Rattle.std.specs.Prelude.{ℤ, ◌+ℤ◌}
use Rattle.std.specs.List.{All}
use Rattle.std.proofs.lemmas.Bool.{cases_Bool, cases_eq, eq-eqb, ne_eqb, false≢true}
use Rattle.std.proofs.lemmas.Int.{ints}
use Rattle.customer_sets.specs.CustSet.{has, with_customer}
use Rattle.ev_model.specs.Fleet.{times_in}
use Rattle.ev_model.specs.Network.{is_customer, Network, node_count}
use Rattle.ev_model.specs.Route.{IsRoute, Moves}
use Rattle.fleet_model.specs.Places.{customer_number}
use Rattle.fleet_model.specs.Prices.{price_of, price_sum}
use Rattle.label_search.proofs.Orders.{customer_moves, makes_route}
use Rattle.fleet_model.proofs.Counts.{AreCustomers, AreNew, count_numbers}

-- which numbers are new depends on the members before alone
pub new_same : (a b xs : List ℕ) → ((c : ℕ) → has a c ≡ has b c) → AreNew a xs → AreNew b xs
new_same a b [] same new = tt
new_same a b (x ∷ xs) same new =
    (sym (same x) ∙ new.0, new_same (x ∷ a) (x ∷ b) xs (λ c. ap (λ t. nat_eq x c || t) (same c)) new.1)

-- what is new stands at most once, and not at all where it was there before
pub record StandsOnce (before xs : List ℕ) (c : ℕ) : Type 0 where
  pub once : times_in xs c ≤ 1
  pub not_again : has before c ≡ true → times_in xs c ≡ 0

pub new_once : (before xs : List ℕ) (c : ℕ) → AreNew before xs → StandsOnce before xs c
new_once before [] c new = record { once = omega arith; not_again = λ h. refl }
new_once before (x ∷ xs) c new =
    let rest = new_once (x ∷ before) xs c new.1 in
    elim (cases_eq x c) [
      | inl same ↦
          let here : nat_eq x c ≡ true = eq-eqb x c same in
          let there : has (x ∷ before) c ≡ true = ap (λ t. t || has before c) here in
          let none : times_in xs c ≡ 0 = rest.not_again there in
          record {
            once = rw here (omega (arith, none));
            not_again = λ h. absurd (false≢true (sym new.0 ∙ subst (λ n. has before n ≡ true) (sym same) h));
          }
      | inr other ↦
          let apart : nat_eq x c ≡ false = ne_eqb x c other in
          record {
            once = rw apart (omega (arith, rest.once));
            not_again = λ h.
                let there : has (x ∷ before) c ≡ true = ap (λ t. t || has before c) apart ∙ h in
                let none : times_in xs c ≡ 0 = rest.not_again there in
                rw apart (omega (arith, none));
          }
    ]

module _ (g : Network) where
  pub nodes_once : (before order : List ℕ) (node : ℕ) → AreCustomers g order → AreNew before (map (customer_number g) order) → is_customer g node ≡ true → times_in order node ≤ 1
  nodes_once before order node are new is =
      let numbers = (new_once before (map (customer_number g) order) (customer_number g node) new).once in
      omega (arith, numbers, count_numbers g order node are is)

  -- none follows itself
  moves_on : (x : ℕ) (before order : List ℕ) → is_customer g x ≡ true → AreCustomers g order → AreNew (customer_number g x ∷ before) (map (customer_number g) order) → Moves (x ∷ order ++ 0 ∷ [])
  moves_on x before [] is are new = ((λ e. customer_moves g x is (sym e)), tt)
  moves_on x before (y ∷ ys) is are new = (
    (λ e.
        let there : has (customer_number g x ∷ before) (customer_number g y) ≡ true = ap (λ t. t || has before (customer_number g y)) (eq-eqb (customer_number g x) (customer_number g y) (ap (customer_number g) (sym e))) in
        false≢true (sym new.0 ∙ there)),
    moves_on y (customer_number g x ∷ before) ys are.0 are.1 new.1,
  )

  all_move : (before order : List ℕ) → order ≢ [] → AreCustomers g order → AreNew before (map (customer_number g) order) → Moves (0 ∷ order ++ 0 ∷ [])
  all_move before [] some are new = absurd (some refl)
  all_move before (x ∷ xs) some are new = (customer_moves g x are.0, moves_on x before xs are.0 are.1 new.1)

  -- a route of new customers
  pub new_route : (before order : List ℕ) → 1 ≤ node_count g → order ≢ [] → AreCustomers g order → All (λ x. x < node_count g) order → AreNew before (map (customer_number g) order) → IsRoute g (0 ∷ order ++ 0 ∷ [])
  new_route before order depot some are known new = makes_route g order depot are known (all_move before order some are new)

-- the prices of a set with a new customer
pub with_sum : (prices : List ℤ) (c : ℕ) (set : List ℕ) → has set c ≡ false → price_sum prices (with_customer c set) ≡ price_of prices c +ℤ price_sum prices set
with_sum prices c [] new = refl
with_sum prices c (x ∷ xs) new = elim (cases_eq x c) [
  | inl same ↦
      let there : has (x ∷ xs) c ≡ true = ap (λ t. t || has xs c) (eq-eqb x c same) in
      absurd (false≢true (sym new ∙ there))
  | inr other ↦
      let apart : nat_eq x c ≡ false = ne_eqb x c other in
      let turned : nat_eq c x ≡ false = ne_eqb c x (λ e. other (sym e)) in
      let later : has xs c ≡ false = sym (ap (λ t. t || has xs c) apart) ∙ new in
      elim (cases_Bool (nat_lt c x)) [
        | inl less ↦ rw less refl
        | inr more ↦
            let rest = with_sum prices c xs later in
            rw (more, turned) (omega (arith, ints, rest))
      ]
]
