-- The chains of one customer more.
use Rattle.std.proofs.Common.{◌≡◌, ◌∙◌, ℕ, ◌+◌, ◌<◌, ◌≤◌, ◌^◌, true, refl, sym, ap, subst, arith, List, [], ◌∷◌, ◌++◌, get_or, length, map, inl, inr, ℤ, pos, ◌≤ℤ◌}
use Rattle.std.specs.List.{All}
use Rattle.std.proofs.lemmas.Bool.{cases_eq, cases_lt}
use Rattle.std.proofs.lemmas.Int.{ints}
use Rattle.std.proofs.lemmas.List.{length-append}
use Rattle.std.proofs.lemmas.List.Elements.{All-nil, All-push}
use Rattle.customer_sets.specs.Pairs.{ForbiddenPairs, IsDecided}
use Rattle.ev_model.specs.Fleet.{all_customers, cost_of, customers_of, times_in}
use Rattle.ev_model.specs.Network.{is_customer, Network, node_count}
use Rattle.ev_model.specs.Route.{route_of}
use Rattle.ev_model.specs.Time.{time_of}
use Rattle.ev_model.specs.declared.Stop.{Stop}
use Rattle.fleet_model.specs.Places.{customer_number, numbers_of}
use Rattle.fleet_model.specs.Prices.{price_sum}
use Rattle.fleet_model.proofs.Counts.{AreCustomers, count_numbers, number_apart, times_append}
use Rattle.fleet_model.proofs.Fleets.{plan_below}
use Rattle.fleet_model.proofs.Plans.{filtered}
use Rattle.fleet_model.proofs.Weighed.{AreBelow}
use Rattle.instance_reader.specs.Instance.{customer_nodes}
use Rattle.bound_certificate.specs.Ranges.{IsPrice}
use Rattle.bound_certificate.specs.declared.certificate.Share.{Share}
use Rattle.column_pool.specs.Bounds.{plans_of}
use Rattle.column_pool.specs.Chains.{AreChains, IsChain, PaysNoMore}
use Rattle.column_pool.proofs.OneOrder.{one_order}
use Rattle.column_pool.proofs.OneWay.{Stands}
use Rattle.column_pool.proofs.MorePrices.{AreFrom, pays_once, sum_free, sum_more, sum_other}
use Rattle.column_pool.proofs.ServedTests.{counted_stands, none_serves, served_at}

-- ---- one plan more
times_more : (g : Network) (x : Share) (shares : List Share) (node : ℕ)
    → times_in (all_customers g (plans_of (shares ++ x ∷ []))) node ≡ times_in (all_customers g (plans_of shares)) node + times_in (customers_of g x.plan.stops) node
times_more g x [] node = let one = times_append (customers_of g x.plan.stops) [] node in omega (arith, one)
times_more g x (y ∷ shares) node =
    let rest = times_more g x shares node in
    let before = times_append (customers_of g y.plan.stops) (all_customers g (plans_of shares)) node in
    let after = times_append (customers_of g y.plan.stops) (all_customers g (plans_of (shares ++ x ∷ []))) node in
    omega (arith, rest, before, after)

cost_more : (g : Network) (x : Share) (shares : List Share) → cost_of g 1 (plans_of (shares ++ x ∷ [])) ≡ cost_of g 1 (plans_of shares) + time_of g 1 g.capacity x.plan.stops
cost_more g x [] = omega arith
cost_more g x (y ∷ shares) = let rest = cost_more g x shares in omega (arith, rest)

-- ---- no chain yet
pub no_chains : (g : Network) (p : ForbiddenPairs) → AreChains g p 0 [] []
no_chains g p = record {
  chains = All-nil (λ (x : Share). IsChain g p x.plan.stops);
  whole = All-nil (λ (x : Share). x.share ≡ 1);
  once = λ node is. omega arith;
  served = λ node known is less. absurd (omega (arith, less));
  count = refl;
  sum = refl;
  pays = All-nil (λ (x : Share). PaysNoMore g [] x.plan.stops);
  small = All-nil IsPrice;
}

module _ (g : Network) (p : ForbiddenPairs) (n node : ℕ) (shares : List Share) (prices : List ℤ) (number : n ≡ customer_number g node) (is : is_customer g node ≡ true) (old : AreChains g p n shares prices) where
  -- the customer of a number
  same_node : (other : ℕ) → is_customer g other ≡ true → customer_number g other < n + 1 → (customer_number g other < n → ⊥) → other ≡ node
  same_node other is_other small large = elim (cases_eq other node) [
    | inl same ↦ same
    | inr apart ↦ absurd (elim (cases_lt (customer_number g other) n) [
      | inl less ↦ large less
      | inr more ↦ number_apart g other node is_other is apart (omega (arith, number, small, more))
    ])
  ]

  -- ---- a customer whom a chain serves already
  pub chains_stay : 1 ≤ times_in (all_customers g (plans_of shares)) node → AreChains g p (n + 1) shares (prices ++ pos 0 ∷ [])
  chains_stay here = record {
    chains = old.chains;
    whole = old.whole;
    once = old.once;
    served = λ other known is_other less. elim (cases_lt (customer_number g other) n) [
      | inl before ↦ old.served other known is_other before
      | inr more ↦
          let same = same_node other is_other less (λ l. omega (arith, l, more)) in
          subst (λ x. 1 ≤ times_in (all_customers g (plans_of shares)) x) (sym same) here
    ];
    count = (let l = length-append prices (pos 0 ∷ []) in let c = old.count in omega (arith, l, c));
    sum = (let m = sum_more prices (pos 0) in let s = old.sum in omega (arith, ints, m, s));
    pays = λ i d less. subst (λ z. z ≤ℤ pos (time_of g 1 g.capacity (get_or shares i d).plan.stops)) (sym (sum_free prices (numbers_of g (get_or shares i d).plan.stops))) (old.pays i d less);
    small = All-push IsPrice prices (pos 0) old.small (omega arith);
  }

  -- ---- a further chain
  module _ (decided : IsDecided p) (count : p.customers ≡ length (customer_nodes g)) (x : Share) (none : times_in (all_customers g (plans_of shares)) node ≡ 0) (here : 1 ≤ times_in (customers_of g x.plan.stops) node) (chain : IsChain g p x.plan.stops) where
    abbrev stops : List Stop
    stops = x.plan.stops

    -- nobody is served by a chain before and by this one
    apart : (other : ℕ) → 1 ≤ times_in (all_customers g (plans_of shares)) other → Stands other (customers_of g stops) → ⊥
    apart other before now =
        let at = served_at g other x shares before in
        let first : IsChain g p (get_or shares at.place x).plan.stops = old.chains at.place x at.within in
        let same = one_order g p decided count other (get_or shares at.place x).plan.stops stops first.route chain.route at.stands now in
        let without = none_serves g node at.place x shares none at.within in
        let with_node : 1 ≤ times_in (customers_of g (get_or shares at.place x).plan.stops) node = subst (λ ns. 1 ≤ times_in ns node) (sym same) here in
        omega (arith, without, with_node)

    -- its customers are no earlier ones
    from_here : (xs : List ℕ) → AreCustomers g xs → AreBelow (node_count g) xs → ((other : ℕ) → Stands other xs → Stands other (customers_of g stops)) → AreFrom n (map (customer_number g) xs)
    from_here [] are below within = tt
    from_here (y ∷ ys) are below within = (
      elim (cases_lt (customer_number g y) n) [
        | inl less ↦ absurd (apart y (old.served y below.0 are.0 less) (within y (inl refl)))
        | inr more ↦ more
      ],
      from_here ys are.1 below.1 (λ other stands. within other (inr stands)),
    )

    are_from : AreFrom (length prices) (numbers_of g stops)
    are_from =
        subst (λ k. AreFrom k (numbers_of g stops)) (sym old.count)
        (from_here (customers_of g stops) (filtered g (route_of stops)) (plan_below g 1 g.capacity stops chain.route.route.feasible) (λ other stands. stands))

    number_times : (xs : List ℕ) → AreCustomers g xs → times_in (map (customer_number g) xs) (length prices) ≡ times_in xs node
    number_times xs are = ap (times_in (map (customer_number g) xs)) (old.count ∙ number) ∙ count_numbers g xs node are is

    pub chains_grow : (t : ℕ) → t ≡ time_of g 1 g.capacity stops → t < 2 ^ 64 → x.share ≡ 1 → AreChains g p (n + 1) (shares ++ x ∷ []) (prices ++ pos t ∷ [])
    chains_grow t time small whole = record {
      chains = All-push (λ (y : Share). IsChain g p y.plan.stops) shares x old.chains chain;
      whole = All-push (λ (y : Share). y.share ≡ 1) shares x old.whole whole;
      once = λ other is_other.
          let all = times_more g x shares other in
          let few = old.once other is_other in
          let few_now = chain.route.route.once other is_other in
          elim (cases_lt 0 (times_in (all_customers g (plans_of shares)) other)) [
            | inl before ↦ elim (cases_lt 0 (times_in (customers_of g stops) other)) [
              | inl now ↦ absurd (apart other (omega (arith, before)) (counted_stands other (customers_of g stops) (omega (arith, now))))
              | inr not_now ↦ omega (arith, all, few, not_now)
            ]
            | inr not_before ↦ omega (arith, all, few_now, not_before)
          ];
      served = λ other known is_other less.
          let all = times_more g x shares other in
          elim (cases_lt (customer_number g other) n) [
            | inl before ↦ (let b = old.served other known is_other before in omega (arith, all, b))
            | inr more ↦
                let same = same_node other is_other less (λ l. omega (arith, l, more)) in
                let now : 1 ≤ times_in (customers_of g stops) other = subst (λ y. 1 ≤ times_in (customers_of g stops) y) (sym same) here in
                omega (arith, all, now)
          ];
      count = (let l = length-append prices (pos t ∷ []) in let c = old.count in omega (arith, l, c));
      sum = (let m = sum_more prices (pos t) in let s = old.sum in let c = cost_more g x shares in omega (arith, ints, m, s, c, time));
      pays =
          let pays_more = λ (y : Share). PaysNoMore g (prices ++ pos t ∷ []) y.plan.stops in
          let before : All pays_more shares = λ i d less.
          let theirs = (get_or shares i d).plan.stops in
          let without : times_in (numbers_of g theirs) (length prices) ≡ 0 = number_times (customers_of g theirs) (filtered g (route_of theirs)) ∙ none_serves g node i d shares none less in
          subst (λ z. z ≤ℤ pos (time_of g 1 g.capacity theirs)) (sym (sum_other prices (pos t) (numbers_of g theirs) without)) (old.pays i d less) in
          let few : times_in (numbers_of g stops) (length prices) ≤ 1 = (let k = number_times (customers_of g stops) (filtered g (route_of stops)) in let o = chain.route.route.once node is in omega (arith, k, o)) in
          let paid = pays_once prices t (numbers_of g stops) are_from few in
          let now : PaysNoMore g (prices ++ pos t ∷ []) stops = subst (λ k. price_sum (prices ++ pos t ∷ []) (numbers_of g stops) ≤ℤ pos k) time paid in
          All-push pays_more shares x before now;
      small = All-push IsPrice prices (pos t) old.small (omega (arith, small));
    }
