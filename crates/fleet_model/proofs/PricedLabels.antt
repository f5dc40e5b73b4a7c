-- Where paid sums are the price sums of sets, it is the same by which of them coverage and closed lists are told.
use Rattle.std.proofs.Common.{◌≡◌, ℕ, zero, suc, ◌*◌, ◌<◌, List, [], ◌∷◌, length, map, ap, sym, subst, refl, arith, ◌↔◌}
use Rattle.std.specs.List.{Contains}
use Rattle.std.specs.Prelude.{slice_index_or, ℤ, pos, ◌+ℤ◌, ◌≤ℤ◌}
use Rattle.ev_model.specs.Network.{Network}
use Rattle.fleet_model.specs.Labels.{Label, State, state_at}
use Rattle.fleet_model.specs.Places.{customer_number}
use Rattle.fleet_model.specs.Prices.{price_of, price_sum, priced}
use Rattle.fleet_model.specs.Section.{Section}
use Rattle.fleet_model.specs.Coverage.{IsAsGood, IsCovered}
use Rattle.fleet_model.specs.Steps.{start, time_at, at_customer, at_station}
use Rattle.fleet_model.specs.ClosedList.{IsClosed}
use Rattle.fleet_model.specs.PricedLabels.{ArePriced, IsAsGoodByPrices, IsClosedByPrices, IsCoveredByPrices}

by_prices : (s : Section) (a b : State) → a.paid ≡ price_sum s.prices a.served → b.paid ≡ price_sum s.prices b.served → IsAsGood s.weight a b → IsAsGoodByPrices s a b
by_prices s a b one two good = record {
  last = good.last;
  node = good.node;
  served = good.served;
  level = good.level;
  time = good.time;
  cost = rw (← one, ← two) good.cost;
}

by_paid : (s : Section) (a b : State) → a.paid ≡ price_sum s.prices a.served → b.paid ≡ price_sum s.prices b.served → IsAsGoodByPrices s a b → IsAsGood s.weight a b
by_paid s a b one two good = record {
  last = good.last;
  node = good.node;
  served = good.served;
  level = good.level;
  time = good.time;
  cost = rw (one, two) good.cost;
}

pub covered_by_prices : (s : Section) (b : State) → ArePriced s → b.paid ≡ price_sum s.prices b.served → IsCovered s b ↔ IsCoveredByPrices s b
covered_by_prices s b priced is = (
  λ h. (h.0, h.1, (h.2.0, h.2.1, by_prices s (state_at h.0 h.2.0) b (priced h.0 h.1) is h.2.2)),
  λ h. (h.0, h.1, (h.2.0, h.2.1, by_paid s (state_at h.0 h.2.0) b (priced h.0 h.1) is h.2.2)),
)

-- a customer's step keeps that the paid sum is that of the set
more_paid : (g : Network) (s : Section) (a : State) (x : ℕ) → a.paid ≡ price_sum s.prices a.served → (at_customer g s a x).paid ≡ price_sum s.prices (at_customer g s a x).served
more_paid g s a x is = ap (λ p. price_of s.prices (customer_number g x) +ℤ p) is

closed_prices : (g : Network) (s : Section) → ArePriced s → IsClosed g s → IsClosedByPrices g s
closed_prices g s priced closed = record {
  begins = (covered_by_prices s (start g) priced refl).0 closed.begins;
  customer = λ l y x inside level step. (covered_by_prices s (at_customer g s (state_at l y) x) priced (more_paid g s (state_at l y) x (priced l inside))).0 (closed.customer l y x inside level step);
  station = λ l y x z inside level step. (covered_by_prices s (at_station g (state_at l y) x z) priced (priced l inside)).0 (closed.station l y x z inside level step);
  home = λ l y inside level step. subst (λ p. p ≤ℤ pos (s.weight * time_at g (state_at l y) 0)) (priced l inside) (closed.home l y inside level step);
}

closed_paid : (g : Network) (s : Section) → ArePriced s → IsClosedByPrices g s → IsClosed g s
closed_paid g s priced closed = record {
  begins = (covered_by_prices s (start g) priced refl).1 closed.begins;
  customer = λ l y x inside level step. (covered_by_prices s (at_customer g s (state_at l y) x) priced (more_paid g s (state_at l y) x (priced l inside))).1 (closed.customer l y x inside level step);
  station = λ l y x z inside level step. (covered_by_prices s (at_station g (state_at l y) x z) priced (priced l inside)).1 (closed.station l y x z inside level step);
  home = λ l y inside level step. subst (λ p. p ≤ℤ pos (s.weight * time_at g (state_at l y) 0)) (sym (priced l inside)) (closed.home l y inside level step);
}

pub closed_by_prices : (g : Network) (s : Section) → ArePriced s → IsClosed g s ↔ IsClosedByPrices g s
closed_by_prices g s priced = (closed_prices g s priced, closed_paid g s priced)

-- labels that were given their price sums
sums_given : (prices : List ℤ) (labels : List Label) (l : Label) (k : ℕ) → k < length (map (priced prices) labels) → slice_index_or (map (priced prices) labels) k l ≡ l → l.paid ≡ price_sum prices l.served
sums_given prices [] l k lt at = absurd (omega (arith, lt))
sums_given prices (x ∷ xs) l zero lt at = subst (λ (y : Label). y.paid ≡ price_sum prices y.served) at refl
sums_given prices (x ∷ xs) l (suc k) lt at = sums_given prices xs l k (omega (arith, lt)) at

pub are_priced : (s : Section) (labels : List Label) → s.labels ≡ map (priced s.prices) labels → ArePriced s
are_priced s labels is l inside =
    let there : Contains (map (priced s.prices) labels) l = subst (λ xs. Contains xs l) is inside in
    sums_given s.prices labels l there.0 there.1 there.2
