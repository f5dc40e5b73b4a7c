-- The fastest plan in an order.
use Rattle.std.proofs.Common.{◌≡◌, ◌∙◌, ℕ, ◌≤◌, sym, ap, subst, List, [], ◌∷◌, ◌++◌, map, arith}
use Rattle.std.specs.Prelude.{filter}
use Rattle.std.proofs.Math.Nat.{mul-le-mul_left}
use Rattle.std.proofs.lemmas.Int.{ints}
use Rattle.customer_sets.specs.Pairs.{allows_of}
use Rattle.ev_model.specs.Fastest.{IsFastest}
use Rattle.ev_model.specs.Fleet.{customers_of, times_in}
use Rattle.ev_model.specs.Network.{is_customer}
use Rattle.ev_model.specs.Route.{FollowsRoute, route_of}
use Rattle.ev_model.specs.Time.{time_of}
use Rattle.ev_model.specs.declared.Stop.{Stop}
use Rattle.fleet_model.specs.Pairs.{KeepsPairs}
use Rattle.fleet_model.specs.Places.{place_of}
use Rattle.fleet_model.proofs.Counts.{AreCustomers}
use Rattle.fleet_model.proofs.Plans.{filtered}
use Rattle.closed_lists.specs.Questions.{Question}
use Rattle.pricing.specs.Better.{HasBetter, IsBetter}
use Rattle.label_search.proofs.Orders.{all_served}

module _ (q : Question) (order : List ℕ) (has_better : HasBetter q order) (plan : List Stop) (fastest : IsFastest q.network (0 ∷ order ++ 0 ∷ []) q.network.capacity plan) where
  are : AreCustomers q.network order
  are = subst (AreCustomers q.network) has_better.better.serves (filtered q.network (route_of has_better.stops))

  same_customers : customers_of q.network plan ≡ order
  same_customers = ap (filter (is_customer q.network)) fastest.follows ∙ all_served q.network order are

  follows : FollowsRoute (0 ∷ order ++ 0 ∷ []) has_better.stops
  follows = has_better.better.route.only ∙ ap (λ ns. 0 ∷ ns ++ 0 ∷ []) has_better.better.serves

  both : customers_of q.network has_better.stops ≡ customers_of q.network plan
  both = has_better.better.serves ∙ sym same_customers

  pub fastest_better : IsBetter q plan order
  fastest_better =
      let b = has_better.better in
      let no_slower = fastest.fastest 1 has_better.stops has_better.better.route.feasible follows in
      let less : time_of q.network 1 q.network.capacity plan ≤ time_of q.network 1 q.network.capacity has_better.stops = omega (arith, no_slower) in
      let scaled = mul-le-mul_left q.weight less in
      record {
        route = record {
          feasible = fastest.feasible;
          some = λ none. has_better.better.route.some (both ∙ none);
          only = fastest.follows ∙ ap (λ ns. 0 ∷ ns ++ 0 ∷ []) (sym same_customers);
          once = λ node is. subst (λ ns. times_in ns node ≤ 1) both (has_better.better.route.once node is);
        };
        serves = same_customers;
        keeps = subst (λ ns. KeepsPairs (allows_of q.pairs) (0 ∷ map (place_of q.network) ns ++ 0 ∷ [])) both has_better.better.keeps;
        earns = (let earns = has_better.better.earns in omega (arith, ints, scaled, earns));
      }
