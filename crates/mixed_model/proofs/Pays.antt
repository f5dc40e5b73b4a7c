-- No cover costs less than the price sum over the weight, where each kind's labels are closed.
use Rattle.std.proofs.Common.{◌≡◌, ◌∙◌, ℕ, suc, ◌*◌, ◌<◌, ◌≤◌, List, [], ◌∷◌, map, length, refl, sym, ap, subst, arith}
use Rattle.std.specs.List.{All}
use Rattle.std.specs.Prelude.{ℤ, pos, negsuc, neg_ℤ, ◌*ℤ◌, ◌≤ℤ◌}
use Rattle.std.proofs.Math.IntN.{negsuc-*ℤ-pos, pos-*ℤ-pos}
use Rattle.std.proofs.Math.Nat.{mul-le-mul_left}
use Rattle.std.proofs.lemmas.Int.{ints}
use Rattle.std.proofs.lemmas.List.Elements.{All-get_or, All-head, All-tail}
use Rattle.customer_sets.specs.Pairs.{any_pair}
use Rattle.ev_model.specs.Fleet.{customers_of}
use Rattle.ev_model.specs.Network.{IsNetwork, Network, node_count}
use Rattle.ev_model.specs.declared.Stop.{Stop}
use Rattle.fleet_model.specs.Pairs.{PlanKeepsPairs}
use Rattle.fleet_model.specs.Places.{customer_count, customer_number, numbers_of, places_of}
use Rattle.fleet_model.specs.Prices.{price_sum, price_total}
use Rattle.fleet_model.specs.Section.{IsSectionOf}
use Rattle.fleet_model.proofs.Fleets.{plan_below}
use Rattle.fleet_model.proofs.Plans.{plan_pays}
use Rattle.fleet_model.proofs.Splits.{keep_all}
use Rattle.fleet_model.proofs.Weighed.{AreBelow, below_append, repeated, sum_to, sum_to_all, sum_weighed}
use Rattle.mixed_model.specs.Accepted.{AreClosed}
use Rattle.mixed_model.specs.Covers.{IsKindRoute, IsMixedCover, KindShare, mixed_cost_of_shares, plain_shares}
use Rattle.mixed_model.specs.Kinds.{Agrees, AreKinds, first_of, network_of, no_network}
use Rattle.mixed_model.specs.Meaning.{section_of}
use Rattle.mixed_model.specs.Plans.{KindPlan, time_in}
use Rattle.mixed_model.specs.Truth.{IsLeastCost}
use Rattle.mixed_model.specs.declared.proof.MixedProof.{MixedProof}
use Rattle.mixed_model.proofs.AgreeingNetworks.{same_customers, same_numbers}
use Rattle.mixed_model.proofs.Copies.{all_copies, below_copies, both_pay, copies, copies_pay, customers_all, repeated_is, times_all, weighed_evenly}
use Rattle.mixed_model.proofs.Known.{plan_known}
use Rattle.mixed_model.proofs.Whole.{network_at, whole_cover}

keeps_any : (g : Network) (plan : List Stop) → PlanKeepsPairs g any_pair plan
keeps_any g plan = keep_all any_pair (places_of g plan) (λ a b h. refl)

-- what whole covers pay, they pay in kths
in_kths : (k over w c cost : ℕ) (sum : ℤ) → (pos over *ℤ sum) ≤ℤ pos (w * c) → k * c ≤ cost → (pos (k * over) *ℤ sum) ≤ℤ pos (w * cost)
in_kths k over w c cost (pos m) pays slower =
    let one : pos over *ℤ pos m ≡ pos (over * m) = pos-*ℤ-pos over m in
    let all : pos (k * over) *ℤ pos m ≡ pos (k * over * m) = pos-*ℤ-pos (k * over) m in
    let whole : over * m ≤ w * c = omega (arith, ints, one, pays) in
    let first : k * (over * m) ≤ k * (w * c) = mul-le-mul_left k whole in
    let second : w * (k * c) ≤ w * cost = mul-le-mul_left w slower in
    let both : k * over * m ≤ w * cost = omega (arith, first, second) in
    rw all (omega (arith, ints, both))
in_kths k over w c cost (negsuc m) pays slower =
    let product : negsuc m *ℤ pos (k * over) ≡ neg_ℤ (pos (suc m * (k * over))) = negsuc-*ℤ-pos m (k * over) in
    omega (arith, ints, product)

module _ (kinds : List Network) (p : MixedProof) (networks : All IsNetwork kinds) (are : AreKinds kinds)
    (sections : (kind : ℕ) → kind < length kinds → IsSectionOf (network_of kinds kind) (section_of p kind)) (closed : AreClosed kinds p) where
  agrees_at : (kind : ℕ) → kind < length kinds → Agrees (first_of kinds) (network_of kinds kind)
  agrees_at kind known = All-get_or (Agrees (first_of kinds)) kinds kind no_network known are.agree

  -- a route of a kind takes as long as its prices ask
  route_pays : (r : KindPlan) → IsKindRoute kinds 1 r → price_sum p.prices (numbers_of (first_of kinds) r.stops) ≤ℤ pos (p.weight * time_in kinds 1 r)
  route_pays r route =
      let g = network_of kinds r.kind in
      let own = route.route in
      let paid = plan_pays g (section_of p r.kind) r.stops (network_at kinds networks r.kind route.known) (sections r.kind route.known) (closed r.kind route.known)
      own.feasible own.only (keeps_any g r.stops) own.once in
      let same = same_numbers (first_of kinds) g (agrees_at r.kind route.known) r.stops (plan_known g 1 g.capacity r.stops own.feasible) (plan_below g 1 g.capacity r.stops own.feasible) in
      subst (λ (ns : List ℕ). price_sum p.prices ns ≤ℤ pos (p.weight * time_in kinds 1 r)) same paid

  -- its customers are nodes of the first kind
  route_below : (r : KindPlan) → IsKindRoute kinds 1 r → AreBelow (node_count (first_of kinds)) (customers_of (first_of kinds) r.stops)
  route_below r route =
      let g = network_of kinds r.kind in
      let agrees = agrees_at r.kind route.known in
      let own = route.route.feasible in
      subst (λ (n : ℕ). AreBelow n (customers_of (first_of kinds) r.stops)) agrees.nodes
      (subst (λ (cs : List ℕ). AreBelow (node_count g) cs) (same_customers (first_of kinds) g agrees r.stops (plan_known g 1 g.capacity r.stops own)) (plan_below g 1 g.capacity r.stops own))

  all_below : (xs : List KindShare) → All (λ x. IsKindRoute kinds 1 x.plan) xs → AreBelow (node_count (first_of kinds)) (all_copies (first_of kinds) (plain_shares xs))
  all_below [] routes = tt
  all_below (x ∷ xs) routes =
      let P = λ (x : KindShare). IsKindRoute kinds 1 x.plan in
      let g = first_of kinds in
      below_append (copies x.share (customers_of g x.plan.stops)) (all_copies g (plain_shares xs)) (node_count g)
      (below_copies x.share (customers_of g x.plan.stops) (node_count g) (route_below x.plan (All-head P x xs routes))) (all_below xs (All-tail P x xs routes))

  all_pay : (xs : List KindShare) → All (λ x. IsKindRoute kinds 1 x.plan) xs →
      price_sum p.prices (map (customer_number (first_of kinds)) (all_copies (first_of kinds) (plain_shares xs))) ≤ℤ pos (p.weight * mixed_cost_of_shares kinds 1 xs)
  all_pay [] routes = omega (arith, ints)
  all_pay (x ∷ xs) routes =
      let P = λ (x : KindShare). IsKindRoute kinds 1 x.plan in
      let g = first_of kinds in
      both_pay g p.prices p.weight (x.share * time_in kinds 1 x.plan) (mixed_cost_of_shares kinds 1 xs) (copies x.share (customers_of g x.plan.stops)) (all_copies g (plain_shares xs))
      (copies_pay g p.prices p.weight (time_in kinds 1 x.plan) x.share (customers_of g x.plan.stops) (route_pays x.plan (All-head P x xs routes)))
      (all_pay xs (All-tail P x xs routes))

  pub whole_pays : (over : ℕ) (xs : List KindShare) → IsMixedCover kinds 1 over xs → (pos over *ℤ price_total p.prices) ≤ℤ pos (p.weight * mixed_cost_of_shares kinds 1 xs)
  whole_pays over xs cover =
      let g = first_of kinds in
      let all = all_copies g (plain_shares xs) in
      let paid = all_pay xs cover.routes in
      let first = sections 0 are.some in
      let sum : sum_to p.prices (customer_count g) ≡ price_total p.prices = ap (λ (n : ℕ). sum_to p.prices n) (sym first.one_price) ∙ sum_to_all p.prices in
      let even = weighed_evenly g p.prices all over (node_count g) (λ x known is. times_all g (plain_shares xs) x ∙ cover.covers x known is) in
      let whole : price_sum p.prices (map (customer_number g) all) ≡ pos over *ℤ price_total p.prices =
      sum_weighed g p.prices all (node_count g) (customers_all g (plain_shares xs)) (all_below xs cover.routes) ∙ even ∙ ap (λ (z : ℤ). repeated over z) sum ∙ repeated_is over (price_total p.prices) in
      rw whole at paid

  pub least_cost : IsLeastCost kinds p.weight p.prices
  least_cost k over others cover =
      let has = whole_cover kinds networks k over others cover in
      in_kths k over p.weight (mixed_cost_of_shares kinds 1 has.whole) (mixed_cost_of_shares kinds k others) (price_total p.prices) (whole_pays over has.whole has.cover) has.no_dearer
