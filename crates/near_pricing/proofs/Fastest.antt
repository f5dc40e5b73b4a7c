-- The fastest plan in an order.
use Rattle.std.proofs.Common.{◌≡◌, ◌∙◌, ℕ, ◌≤◌, sym, ap, subst, List, [], ◌∷◌, ◌++◌, length, map, arith}
use Rattle.std.specs.Prelude.{filter}
use Rattle.std.proofs.Math.Nat.{mul-le-mul_left}
use Rattle.ev_model.specs.Fastest.{IsFastest}
use Rattle.ev_model.specs.Fleet.{customers_of}
use Rattle.ev_model.specs.Network.{is_customer}
use Rattle.ev_model.specs.Route.{FollowsRoute, route_of}
use Rattle.ev_model.specs.Time.{time_of}
use Rattle.ev_model.specs.declared.Stop.{Stop}
use Rattle.fleet_model.specs.Places.{customer_number, numbers_of}
use Rattle.fleet_model.proofs.Counts.{AreCustomers}
use Rattle.fleet_model.proofs.Plans.{filtered}
use Rattle.near_proof.specs.Routes.{KeepsMemory}
use Rattle.near_proof.specs.Terms.{earned_by}
use Rattle.near_pricing.specs.Better.{HasBetter, IsBetterNear}
use Rattle.near_pricing.specs.Questions.{Question}
use Rattle.label_search.proofs.Orders.{all_served}

module _ (q : Question) (order : List ℕ) (has_better : HasBetter q order) (plan : List Stop) (fastest : IsFastest q.network (0 ∷ order ++ 0 ∷ []) q.network.capacity plan) where
  are : AreCustomers q.network order
  are = subst (AreCustomers q.network) has_better.serves (filtered q.network (route_of has_better.stops))

  same_customers : customers_of q.network plan ≡ order
  same_customers = ap (filter (is_customer q.network)) fastest.follows ∙ all_served q.network order are

  follows : FollowsRoute (0 ∷ order ++ 0 ∷ []) has_better.stops
  follows = has_better.better.route.only ∙ ap (λ ns. 0 ∷ ns ++ 0 ∷ []) has_better.serves

  both : customers_of q.network has_better.stops ≡ customers_of q.network plan
  both = has_better.serves ∙ sym same_customers

  numbers : numbers_of q.network has_better.stops ≡ numbers_of q.network plan
  numbers = ap (map (customer_number q.network)) both

  pub fastest_better : IsBetterNear q plan
  fastest_better =
      let b = has_better.better in
      let no_slower = fastest.fastest 1 has_better.stops b.route.feasible follows in
      let less : time_of q.network 1 q.network.capacity plan ≤ time_of q.network 1 q.network.capacity has_better.stops = omega (arith, no_slower) in
      let scaled = mul-le-mul_left q.terms.weight less in
      let much : earned_by q.terms.prices (numbers_of q.network has_better.stops) ≡ earned_by q.terms.prices (numbers_of q.network plan) = ap (earned_by q.terms.prices) numbers in
      let count : length (customers_of q.network has_better.stops) ≡ length (customers_of q.network plan) = ap length both in
      record {
        route = record {
          feasible = fastest.feasible;
          only = fastest.follows ∙ ap (λ ns. 0 ∷ ns ++ 0 ∷ []) (sym same_customers);
          some = λ none. has_better.better.route.some (both ∙ none);
          few = (let few = has_better.better.route.few in omega (arith, count, few));
          keeps = subst (λ ns. KeepsMemory q.terms.sets [] ns) numbers has_better.better.route.keeps;
        };
        earns = (let earns = has_better.better.earns in omega (arith, scaled, much, earns));
      }
