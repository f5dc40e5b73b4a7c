-- Routes in order are routes, at the same cost.
use Rattle.std.proofs.Common.{◌≡◌, ◌∙◌, ℕ, ◌+◌, List, [], ◌∷◌, get_or, refl, sym, ap, subst, arith, sum_by, if◌then◌else◌}
use Rattle.std.specs.List.{All}
use Rattle.std.proofs.lemmas.List.Elements.{All-append, All-cons, All-filter, All-head, All-nil, All-tail}
use Rattle.std.proofs.lemmas.List.Sorted.{All-permutation, sum_by-IsPermutation}
use Rattle.std.proofs.lemmas.List.Sums.{sum_by-append, sum_by-cons}
use Rattle.ev_model.specs.Fleet.{times_in}
use Rattle.ev_model.specs.Network.{Network}
use Rattle.plan_check.specs.FleetRules.{IsCustomer}
use Rattle.order_pricing.specs.Orders.{IsLeastTime}
use Rattle.route_improve.specs.Arranged.{AreArranged, are_served}
use Rattle.route_improve.specs.Moves.{has_customer}
use Rattle.route_improve.specs.Routes.{AreRoutes, cost_of_routes}
use Rattle.route_improve.specs.declared.route.Route.{Route}
use Rattle.route_improve.proofs.Prices.{TakesLeast}

-- a number of a route that is 0 where there are no customers
abbrev IsOfCustomers : (Route → ℕ) → Route → Type 0
IsOfCustomers f r = r.order.items ≡ [] → f r ≡ 0

skipped : (f : Route → ℕ) (r : Route) (rs : List Route) (items : List ℕ) → r.order.items ≡ items → (items ≡ [] → f r ≡ 0) → sum_by f (are_served rs) ≡ sum_by f rs
    → sum_by f (if has_customer items then r ∷ are_served rs else are_served rs) ≡ f r + sum_by f rs
skipped f r rs [] is none rest = omega (arith, rest, none refl)
skipped f r rs (x ∷ xs) is none rest = omega (arith, rest, sum_by-cons f r (are_served rs))

served_sum : (f : Route → ℕ) (routes : List Route) → All (IsOfCustomers f) routes → sum_by f (are_served routes) ≡ sum_by f routes
served_sum f [] are = refl
served_sum f (r ∷ rs) are =
    let rest = served_sum f rs (All-tail (IsOfCustomers f) r rs are) in
    skipped f r rs r.order.items refl (All-head (IsOfCustomers f) r rs are) rest ∙ sym (sum_by-cons f r rs)

module _ (g : Network) (routes arranged : List Route) (is : AreArranged routes arranged) where
  sum_arranged : (f : Route → ℕ) → All (IsOfCustomers f) routes → f is.empty ≡ 0 → sum_by f arranged ≡ sum_by f routes
  sum_arranged f are none =
      let parts = sum_by-append f is.front (is.empty ∷ []) in
      let last = sum_by-cons f is.empty [] in
      let same = sum_by-IsPermutation f (are_served routes) is.front is.same in
      let served = served_sum f routes are in
      let whole = ap (sum_by f) is.is in
      omega (arith, parts, last, same, served, whole, none)

  no_time : AreRoutes g routes → All (IsOfCustomers (λ r. r.time)) routes
  no_time are = λ k d within none. subst (λ l. IsLeastTime g l (get_or routes k d).time) none (are.least k d within)

  all_arranged : (P : Route → Type 0) → P is.empty → All P routes → All P arranged
  all_arranged P last all =
      subst (All P) (sym is.is)
      (All-append P is.front (is.empty ∷ []) (All-permutation P (are_served routes) is.front is.same (All-filter (λ r. has_customer r.order.items) P routes all)) (All-cons P is.empty [] last (All-nil P)))

  pub arranged_cost : AreRoutes g routes → cost_of_routes arranged ≡ cost_of_routes routes
  arranged_cost are = sum_arranged (λ r. r.time) (no_time are) is.no_time

  pub arranged_routes : AreRoutes g routes → AreRoutes g arranged
  arranged_routes are =
      let empty_least : TakesLeast g is.empty = subst (λ l. IsLeastTime g l is.empty.time) (sym is.none) is.no_time in
      let nobody : All (IsCustomer g) is.empty.order.items = subst (All (IsCustomer g)) (sym is.none) (All-nil (IsCustomer g)) in
      record {
        least = all_arranged (TakesLeast g) empty_least are.least;
        customers = all_arranged (λ r. All (IsCustomer g) r.order.items) nobody are.customers;
        once = λ node customer.
            sum_arranged (λ r. times_in r.order.items node) (λ k d within none. ap (λ l. times_in l node) none) (ap (λ l. times_in l node) is.none) ∙ are.once node customer;
      }
