-- The rising prices of a node, and a customer who stands on none of its routes.
use Rattle.std.proofs.Common.{◌≡◌, ◌∙◌, ℕ, zero, suc, ◌+◌, ◌<◌, arith, refl, sym, ap, subst, List, [], ◌∷◌, ◌++◌, length, set, map, take, replicate, ℤ, pos, negsuc, ◌≤ℤ◌, ◌<ℤ◌}
use Rattle.std.proofs.lemmas.Int.{ints}
use Rattle.std.proofs.lemmas.List.{length-map, map-append}
use Rattle.customer_sets.specs.Pairs.{allows_of, ForbiddenPairs}
use Rattle.ev_model.specs.Network.{Network, scaled_limit}
use Rattle.fleet_model.specs.Places.{numbers_of}
use Rattle.fleet_model.specs.Prices.{price_of, price_total}
use Rattle.fleet_model.specs.Strong.{AreRisingPrices, ArePayable, IsRisingPrice}
use Rattle.fleet_model.proofs.Numbers.{counted}
use Rattle.instance_reader.specs.Instance.{customer_nodes}
use Rattle.price_loop.specs.Rising.{AreFixed, ArePayable as IsPaid, CostLess, IsFixed}
use Rattle.price_loop.proofs.Final.{price_of_whole, price_sum_whole}
use Rattle.column_pool.specs.Chains.{lone_price}
use Rattle.column_pool.specs.Nodes.{node_problem}
use Rattle.column_pool.proofs.MorePrices.{lone_sum}
use Rattle.column_pool.proofs.Routes.{is_route_by, node_route, route_by}

take_whole : (k : ℕ) (xs : List ℕ) → take k (map pos xs) ≡ map pos (take k xs)
take_whole zero xs = refl
take_whole (suc k) [] = refl
take_whole (suc k) (x ∷ xs) = ap (λ (ys : List ℤ). pos x ∷ ys) (take_whole k xs)

module _ (g : Network) (p : ForbiddenPairs) where
  -- each route takes less than what is past the limit
  pub cost_less : CostLess (node_problem g p) (scaled_limit g + 1)
  cost_less r is = let in_time = is.column.route.feasible.in_time in let time = is.time in omega (arith, in_time, time)

  payable : (xs : List ℕ) → IsPaid (node_problem g p) 1 xs → ArePayable g (allows_of p) (map pos xs)
  payable xs none stops route keeps =
      let paid = none (route_by g p stops) (is_route_by g p stops (record { route = route; keeps = keeps })) in
      let sum = price_sum_whole xs (numbers_of g stops) in
      omega (arith, ints, paid, sum)

  paid_whole : (xs : List ℕ) → ArePayable g (allows_of p) (map pos xs) → IsPaid (node_problem g p) 1 xs
  paid_whole xs paid r is =
      let node = node_route g p r is in
      let there = paid r.plan.stops node.route node.keeps in
      let sum = price_sum_whole xs (numbers_of g r.plan.stops) in
      let time = is.time in
      omega (arith, ints, there, sum, time)

  most : (of : List ℕ) (c : ℕ) → IsFixed (node_problem g p) of c → (price : ℤ) → ArePayable g (allows_of p) (take c (map pos of) ++ price ∷ []) → price ≤ℤ price_of (map pos of) c
  most of c is (negsuc k) paid = let e = price_of_whole of c in omega (arith, ints, e)
  most of c is (pos k) paid =
      let same : take c (map pos of) ++ pos k ∷ [] ≡ map pos (take c of ++ k ∷ []) = ap (λ ys. ys ++ pos k ∷ []) (take_whole c of) ∙ sym (map-append pos (take c of) (k ∷ [])) in
      let less = is.greatest k (paid_whole (take c of ++ k ∷ []) (subst (λ ps. ArePayable g (allows_of p) ps) same paid)) in
      let e = price_of_whole of c in
      omega (arith, ints, e, less)

  rising_at : (of : List ℕ) (c : ℕ) → IsFixed (node_problem g p) of c → IsRisingPrice g (allows_of p) (map pos of) c
  rising_at of c is = record {
    some = (let e = price_of_whole of c in omega (arith, ints, e));
    payable = subst (λ ps. ArePayable g (allows_of p) ps) (sym (take_whole (suc c) of)) (payable (take (suc c) of) is.payable);
    greatest = most of c is;
  }

  pub are_rising : (of : List ℕ) (prices : List ℤ) → AreFixed (node_problem g p) of (length (customer_nodes g)) → prices ≡ map pos of → AreRisingPrices g (allows_of p) prices
  are_rising of prices are same = subst (λ ps. AreRisingPrices g (allows_of p) ps) (sym same) (record {
    one_price = length-map of pos ∙ are.count ∙ counted g;
    rising = λ c less. rising_at of c (are.fixed c (let e = counted g in omega (arith, e, less)));
  })

-- ---- a price for one customer alone
replicate_whole : (n : ℕ) → map pos (replicate n 0) ≡ replicate n (pos 0)
replicate_whole zero = refl
replicate_whole (suc n) = ap (λ (ys : List ℤ). pos 0 ∷ ys) (replicate_whole n)

lone_whole : (n c : ℕ) → map pos (set (replicate n 0) c 1) ≡ lone_price n c
lone_whole zero c = refl
lone_whole (suc n) zero = ap (λ (ys : List ℤ). pos 1 ∷ ys) (replicate_whole n)
lone_whole (suc n) (suc c) = ap (λ (ys : List ℤ). pos 0 ∷ ys) (lone_whole n c)

pub lone_above : (n c : ℕ) (prices : List ℤ) → c < n → prices ≡ map pos (set (replicate n 0) c 1) → pos 0 <ℤ price_total prices
lone_above n c prices less same =
    let sum : price_total prices ≡ pos 1 = ap price_total (same ∙ lone_whole n c) ∙ lone_sum n c less in
    omega (arith, ints, sum)
