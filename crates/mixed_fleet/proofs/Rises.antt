-- The prices that the price loop raises are the rising prices over the routes of all kinds.
use Rattle.std.proofs.Common.{◌≡◌, ◌∙◌, ℕ, suc, ◌<◌, ◌^◌, List, [], ◌∷◌, ◌++◌, length, map, take, sym, ap, subst, arith, ℤ, pos, negsuc, ◌≤ℤ◌}
use Rattle.std.proofs.lemmas.Int.{ints}
use Rattle.std.proofs.lemmas.List.{length-map, map-append}
use Rattle.ev_model.specs.Network.{Network}
use Rattle.fleet_model.specs.Places.{numbers_of}
use Rattle.fleet_model.specs.Prices.{price_of}
use Rattle.fleet_model.proofs.Numbers.{counted}
use Rattle.instance_reader.specs.Instance.{customer_nodes}
use Rattle.price_loop.specs.Problems.{worth}
use Rattle.price_loop.specs.Rising.{AreFixed, ArePayable as ArePaid, CostLess, IsFixed}
use Rattle.price_loop.proofs.Final.{price_sum_whole}
use Rattle.price_loop.proofs.WholePrices.{price_whole, take_whole}
use Rattle.mixed_model.specs.Kinds.{first_of, network_of}
use Rattle.mixed_model.specs.Meaning.{kind_plan}
use Rattle.mixed_model.proofs.Whole.{network_at}
use Rattle.mixed_fleet.specs.Fleets.{AreFleetKinds}
use Rattle.mixed_fleet.specs.Problem.{problem_of}
use Rattle.mixed_fleet.specs.Rising.{ArePayable, AreRisingPrices, IsRisingPrice}
use Rattle.mixed_fleet.proofs.Routes.{as_searched, first_numbers, is_searched, searched_numbers}

module _ (kinds : List Network) (fleet : AreFleetKinds kinds) where
  payable : (xs : List ℕ) → ArePaid (problem_of kinds) 1 xs → ArePayable kinds (map pos xs)
  payable xs paid p route =
      let ns = numbers_of (first_of kinds) p.stops in
      let less = paid (as_searched kinds p) (is_searched kinds p route) in
      let same : worth xs (numbers_of (network_of kinds p.kind) p.stops) ≡ worth xs ns = ap (worth xs) (first_numbers kinds fleet p route) in
      let sum = price_sum_whole xs ns in
      omega (arith, ints, less, same, sum)

  paid_by : (xs : List ℕ) → ArePayable kinds (map pos xs) → ArePaid (problem_of kinds) 1 xs
  paid_by xs all r is =
      let ns = numbers_of (first_of kinds) r.route.plan.stops in
      let there = all (kind_plan r.route) is.route in
      let same : worth xs r.numbers ≡ worth xs ns = ap (worth xs) (searched_numbers kinds fleet r is) in
      let sum = price_sum_whole xs ns in
      let time = is.time in
      omega (arith, ints, there, same, sum, time)

  most : (of : List ℕ) (c : ℕ) → IsFixed (problem_of kinds) of c → (price : ℤ) → ArePayable kinds (take c (map pos of) ++ price ∷ []) → price ≤ℤ price_of (map pos of) c
  most of c is (negsuc k) paid = let e = price_whole of c in omega (arith, ints, e)
  most of c is (pos k) paid =
      let same : take c (map pos of) ++ pos k ∷ [] ≡ map pos (take c of ++ k ∷ []) = ap (λ ys. ys ++ pos k ∷ []) (take_whole c of) ∙ sym (map-append pos (take c of) (k ∷ [])) in
      let less = is.greatest k (paid_by (take c of ++ k ∷ []) (subst (λ ps. ArePayable kinds ps) same paid)) in
      let e = price_whole of c in
      omega (arith, ints, e, less)

  rising_at : (of : List ℕ) (c : ℕ) → IsFixed (problem_of kinds) of c → IsRisingPrice kinds (map pos of) c
  rising_at of c is = record {
    some = (let e = price_whole of c in omega (arith, ints, e));
    payable = subst (λ ps. ArePayable kinds ps) (sym (take_whole (suc c) of)) (payable (take (suc c) of) is.payable);
    greatest = most of c is;
  }

  pub are_rising : (of : List ℕ) → AreFixed (problem_of kinds) of (length (customer_nodes (first_of kinds))) → AreRisingPrices kinds (map pos of)
  are_rising of are = record {
    one_price = length-map of pos ∙ are.count ∙ counted (first_of kinds);
    rising = λ c less. rising_at of c (are.fixed c (let e = counted (first_of kinds) in omega (arith, e, less)));
  }

  -- no route of any kind takes so long
  pub cost_less : (top : ℕ) → 10 ^ 18 < top → CostLess (problem_of kinds) top
  cost_less top high r is =
      let kind = r.route.kind in
      let network = network_at kinds fleet.networks kind is.route.known in
      let small = network.small_limit in
      let in_time = is.route.route.feasible.in_time in
      let time = is.time in
      omega (arith, time, in_time, small, high)
