-- The chain through a customer.
use Rattle.std.proofs.Common.{◌≡◌, ◌≢◌, ◌∙◌, ℕ, ◌*◌, ◌<◌, ◌≤◌, Bool, true, refl, sym, ap, subst, arith, List, [], ◌∷◌, ◌++◌, map, inl, inr, pos, ◌<ℤ◌}
use Rattle.std.specs.List.{All}
use Rattle.std.specs.Prelude.{filter}
use Rattle.std.proofs.lemmas.Bool.{cases_lt}
use Rattle.std.proofs.lemmas.Int.{ints}
use Rattle.std.proofs.lemmas.List.Elements.{All-append, All-cons, All-nil}
use Rattle.customer_sets.specs.Pairs.{allows_of, ForbiddenPairs}
use Rattle.ev_model.specs.Fastest.{IsFastest, HasNoPlan}
use Rattle.ev_model.specs.Fleet.{customers_of, times_in}
use Rattle.ev_model.specs.Network.{is_customer, Network, node_count}
use Rattle.ev_model.specs.Route.{IsRoute, Moves, route_of}
use Rattle.ev_model.specs.Time.{time_of}
use Rattle.ev_model.specs.declared.Stop.{Stop}
use Rattle.fleet_model.specs.Pairs.{KeepsPairs}
use Rattle.fleet_model.specs.Places.{customer_number, place_of}
use Rattle.fleet_model.proofs.Counts.{AreCustomers, count_numbers}
use Rattle.fleet_model.proofs.Plans.{filtered}
use Rattle.pricing.specs.Better.{IsBetter}
use Rattle.column_pool.specs.Chains.{IsChain, lone_price}
use Rattle.column_pool.specs.Columns.{IsNodeRoute}
use Rattle.column_pool.proofs.OneOrder.{IsKnown, next_of, way_of}
use Rattle.column_pool.proofs.OneWay.{IsWay}
use Rattle.column_pool.proofs.MorePrices.{lone_pays}

-- ---- customers in order as a route
some_node : (g : Network) (x : ℕ) → is_customer g x ≡ true → x ≢ 0
some_node g x is none = grind (arith, is, none)

module _ (g : Network) (next : ℕ → ℕ → Bool) where
  moves_on : (a : ℕ) (xs : List ℕ) → is_customer g a ≡ true → IsWay (IsKnown g) next a xs → Moves (a ∷ xs ++ 0 ∷ [])
  moves_on a [] is way = ((λ e. some_node g a is (sym e)), tt)
  moves_on a (x ∷ xs) is way = ((λ e. way.0 (sym e)), moves_on x xs way.1.0 way.3)

  moves : (xs : List ℕ) → xs ≢ [] → IsWay (IsKnown g) next 0 xs → Moves (0 ∷ xs ++ 0 ∷ [])
  moves [] some way = absurd (some refl)
  moves (x ∷ xs) some way = ((λ e. way.0 (sym e)), moves_on x xs way.1.0 way.3)

  are_known : (a : ℕ) (xs : List ℕ) → IsWay (IsKnown g) next a xs → All (λ node. node < node_count g) xs × All (λ node. node ≢ 0) xs
  are_known a [] way = (All-nil (λ (node : ℕ). node < node_count g), All-nil (λ (node : ℕ). node ≢ 0))
  are_known a (x ∷ xs) way =
      let rest = are_known x xs way.3 in
      (All-cons (λ (node : ℕ). node < node_count g) x xs way.1.1 rest.0, All-cons (λ (node : ℕ). node ≢ 0) x xs (some_node g x way.1.0) rest.1)

all_kept : (g : Network) (xs : List ℕ) → AreCustomers g xs → filter (is_customer g) (xs ++ 0 ∷ []) ≡ xs
all_kept g [] are = refl
all_kept g (x ∷ xs) are = rw (are.0, all_kept g xs are.1) refl

module _ (g : Network) (p : ForbiddenPairs) (stops : List Stop) (is : IsNodeRoute g p stops) (order : List ℕ) (serves : customers_of g stops ≡ order) where
  way : IsWay (IsKnown g) (next_of g p) 0 order
  way = subst (λ xs. IsWay (IsKnown g) (next_of g p) 0 xs) serves (way_of g p stops is)

  some : order ≢ []
  some none = is.route.some (serves ∙ none)

  are : AreCustomers g order
  are = subst (AreCustomers g) serves (filtered g (route_of stops))

  pub route_over : 0 < node_count g → (route : List ℕ) → route ≡ 0 ∷ order ++ 0 ∷ [] → IsRoute g route
  route_over depot route made =
      let below = λ (node : ℕ). node < node_count g in
      let both = are_known g (next_of g p) 0 order way in
      let known : All below (0 ∷ order ++ 0 ∷ []) = All-cons below 0 (order ++ 0 ∷ []) depot (All-append below order (0 ∷ []) both.0 (All-cons below 0 [] depot (All-nil below))) in (
        order,
        record {
          ends = made;
          known = subst (All below) (sym made) known;
          no_depot = both.1;
          moves = subst Moves (sym made) (moves g (next_of g p) order some way);
        },
      )

  -- there is a plan of this route
  pub is_driven : (route : List ℕ) → route ≡ 0 ∷ order ++ 0 ∷ [] → HasNoPlan g route g.capacity → ⊥
  is_driven route made none =
      none 1 stops is.route.feasible (is.route.only ∙ ap (λ xs. 0 ∷ xs ++ 0 ∷ []) serves ∙ sym made)

  -- a fastest one is a chain
  pub chain_of : (route : List ℕ) → route ≡ 0 ∷ order ++ 0 ∷ [] → (plan : List Stop) → IsFastest g route g.capacity plan → IsChain g p plan × (customers_of g plan ≡ order)
  chain_of route made plan fastest =
      let same : customers_of g plan ≡ order = ap (filter (is_customer g)) (fastest.follows ∙ made) ∙ all_kept g order are in
      let orders : customers_of g stops ≡ customers_of g plan = serves ∙ sym same in (
        record {
          route = record {
            route = record {
              feasible = fastest.feasible;
              some = λ none. some (sym same ∙ none);
              only = fastest.follows ∙ made ∙ ap (λ xs. 0 ∷ xs ++ 0 ∷ []) (sym same);
              once = λ node customer. subst (λ xs. times_in xs node ≤ 1) orders (is.route.once node customer);
            };
            keeps = subst (λ xs. KeepsPairs (allows_of p) (0 ∷ map (place_of g) xs ++ 0 ∷ [])) orders is.keeps;
          };
          fastest = subst (λ xs. IsFastest g xs g.capacity plan) (made ∙ ap (λ xs. 0 ∷ xs ++ 0 ∷ []) (sym same)) fastest;
        },
        same,
      )

-- a route that earns at the price of one customer alone serves him
pub serves_lone : (g : Network) (p : ForbiddenPairs) (n number node : ℕ) (stops : List Stop) (order : List ℕ) → number ≡ customer_number g node → is_customer g node ≡ true
    → IsBetter (record { network = g; pairs = p; weight = 0; prices = lone_price n number; labels = [] }) stops order → 1 ≤ times_in order node
serves_lone g p n number node stops order is_number is better = elim (cases_lt 0 (times_in order node)) [
  | inl some ↦ omega (arith, some)
  | inr none ↦
      let are = subst (AreCustomers g) better.serves (filtered g (route_of stops)) in
      let times : times_in (map (customer_number g) order) number ≡ 0 = ap (times_in (map (customer_number g) order)) is_number ∙ (let c = count_numbers g order node are is in omega (arith, c, none)) in
      let pays = lone_pays n number (map (customer_number g) order) times in
      let earns : pos (0 * time_of g 1 g.capacity stops) <ℤ pos 0 = subst (λ z. pos (0 * time_of g 1 g.capacity stops) <ℤ z) pays better.earns in
      let free : 0 * time_of g 1 g.capacity stops ≡ 0 = omega arith in
      let less : pos 0 <ℤ pos 0 = rw free at earns in
      absurd (omega (arith, ints, less))
]
