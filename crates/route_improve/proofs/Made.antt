-- The orders that the code makes for a move are those that the move gives.
use Rattle.std.proofs.Common.{◌≡◌, ◌∙◌, ℕ, zero, suc, ◌<◌, List, [], ◌∷◌, ◌++◌, Result, Ok, Err, length, get_or, set, sym, ap, subst, arith}
use Rattle.std.specs.Prelude.{IfOk, insert, remove, slice_index}
use Rattle.std.specs.List.{All}
use Rattle.std.proofs.lemmas.List.{length-map}
use Rattle.std.proofs.lemmas.List.Elements.{All-append, All-get_or, All-nil, All-set}
use Rattle.ev_model.specs.Network.{Network}
use Rattle.index_links.specs.Lists.{list_at}
use Rattle.plan_check.specs.FleetRules.{IsCustomer}
use Rattle.route_improve.specs.Moves.{HasPlace}
use Rattle.route_improve.specs.Routes.{AreRoutes, lists_of}
use Rattle.route_improve.specs.Taking.{AreOfPair, AreOfRoute}
use Rattle.route_improve.specs.declared.route.Route.{Route}
use Rattle.route_improve.proofs.Changed.{list_is}
use Rattle.route_improve.proofs.MovedOrders.{All-insert, All-remove, moved_between, moved_within, swapped_between, swapped_within, times_append}

-- what holds of an answer holds of it by another name
pub kept_by : {T E : Type 0} (r : Result T E) (P Q : T → Type 0) → ((made : T) → P made → Q made) → IfOk r P → IfOk r Q
kept_by (Ok made) P Q step is = step made is
kept_by (Err e) P Q step is = is

read_is : (xs : List ℕ) (i x : ℕ) → i < length xs → x ≡ get_or xs i x → x ≡ slice_index xs i
read_is [] i x within is = absurd (omega (arith, within))
read_is (y ∷ ys) zero x within is = is
read_is (y ∷ ys) (suc i) x within is = read_is ys i x (omega (arith, within)) is

-- the order that was read of a route
pub copied : (routes : List Route) (a : ℕ) (d : Route) (list copy : List ℕ) → a < length (lists_of routes) → d ≡ get_or routes a d → list ≡ d.order.items → copy ≡ list → copy ≡ list_at (lists_of routes) a
copied routes a d list copy within at is same =
    same ∙ is ∙ ap (λ (r : Route). r.order.items) at ∙ sym (list_is routes a d (subst (λ n. a < n) (length-map routes (λ (r : Route). r.order.items)) within))

-- the customer that was read of an order
pub read_at : (lists : List (List ℕ)) (a i : ℕ) (list : List ℕ) (x : ℕ) → HasPlace lists a i → list ≡ list_at lists a → x ≡ get_or list i x → x ≡ slice_index (list_at lists a) i
read_at lists a i list x place is at = read_is (list_at lists a) i x place.place (subst (λ l. x ≡ get_or l i x) is at)

of_route : (g : Network) (rs : List Route) → All (λ (r : Route). All (IsCustomer g) r.order.items) rs → (a : ℕ) → a < length rs → All (IsCustomer g) (list_at (lists_of rs) a)
of_route g [] all a one = absurd (omega (arith, one))
of_route g (r ∷ rs) all zero one = all 0 r (omega arith)
of_route g (r ∷ rs) all (suc a) one = of_route g rs (λ k d within. all (suc k) d (omega (arith, within))) a (omega (arith, one))

module _ (g : Network) (routes : List Route) (are : AreRoutes g routes) where
  pub customers_on : (a : ℕ) → a < length (lists_of routes) → All (IsCustomer g) (list_at (lists_of routes) a)
  customers_on a within = of_route g routes are.customers a (subst (λ n. a < n) (length-map routes (λ (r : Route). r.order.items)) within)

  customers_at : (a i : ℕ) → HasPlace (lists_of routes) a i → All (IsCustomer g) (list_at (lists_of routes) a)
  customers_at a i place = customers_on a place.list

  customer_is : (a i : ℕ) → HasPlace (lists_of routes) a i → IsCustomer g (slice_index (list_at (lists_of routes) a) i)
  customer_is a i place = All-get_or (IsCustomer g) (list_at (lists_of routes) a) i 0 place.place (customers_at a i place)

  pub one_relocated : (a i j : ℕ) → HasPlace (lists_of routes) a i → AreOfRoute g routes a (insert (remove (list_at (lists_of routes) a) i) j (slice_index (list_at (lists_of routes) a) i))
  one_relocated a i j place = record {
    customers = All-insert (IsCustomer g) (remove (list_at (lists_of routes) a) i) j (slice_index (list_at (lists_of routes) a) i) (customer_is a i place) (All-remove (IsCustomer g) (list_at (lists_of routes) a) i (customers_at a i place));
    same = λ node. moved_within (list_at (lists_of routes) a) i j node place.place;
  }

  pub one_exchanged : (a i j : ℕ) → HasPlace (lists_of routes) a i → HasPlace (lists_of routes) a j
      → AreOfRoute g routes a (set (set (list_at (lists_of routes) a) i (slice_index (list_at (lists_of routes) a) j)) j (slice_index (list_at (lists_of routes) a) i))
  one_exchanged a i j one other = record {
    customers = All-set (IsCustomer g) (set (list_at (lists_of routes) a) i (slice_index (list_at (lists_of routes) a) j)) j (slice_index (list_at (lists_of routes) a) i) (customer_is a i one)
        (All-set (IsCustomer g) (list_at (lists_of routes) a) i (slice_index (list_at (lists_of routes) a) j) (customer_is a j other) (customers_at a i one));
    same = λ node. swapped_within (list_at (lists_of routes) a) i j node one.place other.place;
  }

  pub two_relocated : (a i b j : ℕ) → HasPlace (lists_of routes) a i → b < length routes
      → AreOfPair g routes a b (remove (list_at (lists_of routes) a) i) (insert (list_at (lists_of routes) b) j (slice_index (list_at (lists_of routes) a) i))
  two_relocated a i b j place other = record {
    first_customers = All-remove (IsCustomer g) (list_at (lists_of routes) a) i (customers_at a i place);
    second_customers = All-insert (IsCustomer g) (list_at (lists_of routes) b) j (slice_index (list_at (lists_of routes) a) i) (customer_is a i place) (of_route g routes are.customers b other);
    same = λ node. moved_between (list_at (lists_of routes) a) (list_at (lists_of routes) b) i j node place.place;
  }

  pub two_exchanged : (a i b j : ℕ) → HasPlace (lists_of routes) a i → HasPlace (lists_of routes) b j
      → AreOfPair g routes a b (set (list_at (lists_of routes) a) i (slice_index (list_at (lists_of routes) b) j)) (set (list_at (lists_of routes) b) j (slice_index (list_at (lists_of routes) a) i))
  two_exchanged a i b j one other = record {
    first_customers = All-set (IsCustomer g) (list_at (lists_of routes) a) i (slice_index (list_at (lists_of routes) b) j) (customer_is b j other) (customers_at a i one);
    second_customers = All-set (IsCustomer g) (list_at (lists_of routes) b) j (slice_index (list_at (lists_of routes) a) i) (customer_is a i one) (customers_at b j other);
    same = λ node. swapped_between (list_at (lists_of routes) a) (list_at (lists_of routes) b) i j node one.place other.place;
  }

  pub two_joined : (a b : ℕ) → a < length routes → b < length routes → AreOfPair g routes a b (list_at (lists_of routes) a ++ list_at (lists_of routes) b) []
  two_joined a b one other = record {
    first_customers = All-append (IsCustomer g) (list_at (lists_of routes) a) (list_at (lists_of routes) b) (of_route g routes are.customers a one) (of_route g routes are.customers b other);
    second_customers = All-nil (IsCustomer g);
    same = λ node. omega (arith, times_append (list_at (lists_of routes) a) (list_at (lists_of routes) b) node);
  }
