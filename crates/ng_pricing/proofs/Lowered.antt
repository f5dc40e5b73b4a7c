-- How prices are lowered until no near route earns.
use Rattle.std.proofs.Common.{◌≡◌, ◌∙◌, ℕ, zero, suc, ◌+◌, ◌<◌, ◌≤◌, refl, sym, ap, subst, List, [], ◌∷◌, ◌++◌, drop, get_or, length, length-set, set, take, arith, inl, inr}
use Rattle.std.proofs.Math.ListN.{get_or-eq_default}
use Rattle.std.proofs.lemmas.Bool.{cases_eq, cases_lt, eq-eqb}
use Rattle.std.proofs.lemmas.Grind.{take_at_read}
use Rattle.std.proofs.lemmas.List.{get_or-set_other, get_or-set_same, set-get_or, set-set, take_at}
use Rattle.std.proofs.lemmas.List.Sums.{sum_by-append, sum_by-cons, sum_by-set}
use Rattle.ev_model.specs.Fleet.{times_in}
use Rattle.ev_model.specs.Network.{Network}
use Rattle.fleet_model.specs.Places.{numbers_of}
use Rattle.near_proof.specs.Terms.{earned_by, price_of, price_total}
use Rattle.near_proof.specs.Truth.{NearRoutesPay}
use Rattle.ng_pricing.specs.Met.{IsLowered, IsMet}
use Rattle.ng_pricing.specs.Rising.{AreLowered, SomeEarns, terms_at}
use Rattle.ng_pricing.specs.declared.met.MetRoute.{MetRoute}
use Rattle.ng_pricing.proofs.Earnings.{earned_less, set_below, set_within}

-- ---- one with the greatest price
times_at : (numbers : List ℕ) (n : ℕ) → n < length numbers → 1 ≤ times_in numbers (get_or numbers n 0)
times_at [] n inside = absurd (omega (arith, inside))
times_at (i ∷ is) zero inside = rw (eq-eqb i i refl) (omega arith)
times_at (i ∷ is) (suc n) inside = omega (arith, times_at is n (omega (arith, inside)))

-- whose price is above 0 if that of some before is
pub record IsDearest (prices numbers : List ℕ) (n d : ℕ) : Type 0 where
  pub known : d < length prices
  pub serves : 1 ≤ times_in numbers d
  pub some : 0 < earned_by prices (take n numbers) → 0 < get_or prices d 0

module _ (prices numbers : List ℕ) (n d : ℕ) (inside : n < length numbers) (is : IsDearest prices numbers n d) where
  further : earned_by prices (take (n + 1) numbers) ≡ earned_by prices (take n numbers) + get_or prices (get_or numbers n 0) 0
  further =
      let whole = ap (earned_by prices) (take_at_read numbers n 0 inside).1 in
      let parts = sum_by-append (price_of prices) (take n numbers) (get_or numbers n 0 ∷ []) in
      let last = sum_by-cons (price_of prices) (get_or numbers n 0) [] in
      omega (arith, whole, parts, last)

  pub dearer : get_or numbers n 0 < length prices → get_or prices d 0 < get_or prices (get_or numbers n 0) 0 → IsDearest prices numbers (n + 1) (get_or numbers n 0)
  dearer known more = record { known = known; serves = times_at numbers n inside; some = λ earns. omega (arith, more) }

  pub no_dearer : get_or prices (get_or numbers n 0) 0 ≤ get_or prices d 0 → IsDearest prices numbers (n + 1) d
  no_dearer within = record {
    known = is.known;
    serves = is.serves;
    some = λ earns. elim (cases_lt 0 (earned_by prices (take n numbers))) [
      | inl before ↦ is.some before
      | inr none ↦ omega (arith, earns, none, within, further)
    ];
  }

-- ---- prices that were lowered no further than needed
pub record AreSpared (g : Network) (sets : List (List ℕ)) (start prices : List ℕ) : Type 0 where
  pub one_price : length prices ≡ length start
  pub within : (c : ℕ) → get_or prices c 0 ≤ get_or start c 0
  pub needed : (c : ℕ) → get_or prices c 0 < get_or start c 0 → SomeEarns g sets (set start c (get_or prices c 0 + 1))

pub spared_first : (g : Network) (sets : List (List ℕ)) (start : List ℕ) → AreSpared g sets start start
spared_first g sets start = record {
  one_price = refl;
  within = λ c. omega arith;
  needed = λ c less. absurd (omega (arith, less));
}

pub spared_last : (g : Network) (sets : List (List ℕ)) (start prices : List ℕ) → AreSpared g sets start prices → NearRoutesPay g (terms_at sets prices) → AreLowered g sets start prices
spared_last g sets start prices are pays = record {
  one_price = are.one_price;
  within = are.within;
  needed = are.needed;
  pays = pays;
}

-- the price of one customer whom a route serves
pub lowered_by : (r : MetRoute) (prices : List ℕ) (c price : ℕ) → r.time < earned_by prices r.numbers → c < length prices → 0 < get_or prices c 0
    → ((p : ℕ) → 0 < p → r.time < earned_by (set (set prices c 0) c p) r.numbers → price < p) → r.time < earned_by (set (set prices c 0) c (price + 1)) r.numbers → IsLowered r prices (set (set prices c 0) c price)
lowered_by r prices c price earns inside some least most =
    let same : set (set prices c 0) c (get_or prices c 0) ≡ prices = set-set prices c 0 (get_or prices c 0) ∙ set-get_or prices c 0 in
    record {
      c = c;
      price = price;
      customer = inside;
      less = least (get_or prices c 0) some (subst (λ (ps : List ℕ). r.time < earned_by ps r.numbers) (sym same) earns);
      needed = subst (λ (ps : List ℕ). r.time < earned_by ps r.numbers) (set-set prices c 0 (price + 1)) most;
      is = set-set prices c 0 price;
    }

-- the price that is lowered
module _ (r : MetRoute) (old lowered : List ℕ) (is : IsLowered r old lowered) where
  pub total_falls : price_total lowered < price_total old
  total_falls =
      let total = sum_by-set (λ (price : ℕ). price) old is.c is.price 0 is.customer in
      let same = ap price_total is.is in
      omega (arith, total, same, is.less)

  pub long_next : length lowered ≡ length old
  long_next = ap length is.is ∙ length-set old is.c is.price

  -- what is written back into a vector
  pub written : (len : ℕ) → len ≡ length old → take len (lowered ++ drop (length lowered) old) ≡ lowered
  written len whole = take_at lowered (drop (length lowered) old) len (long_next ∙ sym whole)

  no_higher : (c : ℕ) → get_or lowered c 0 ≤ get_or old c 0
  no_higher c =
      let low = set_within old is.c is.price c is.customer (omega (arith, is.less)) in
      let same = ap (λ (ps : List ℕ). get_or ps c 0) is.is in
      omega (arith, low, same)

  module _ (g : Network) (sets : List (List ℕ)) (start : List ℕ) (met : IsMet g sets r) (are : AreSpared g sets start old) where
    earns : SomeEarns g sets (set start is.c (is.price + 1))
    earns =
        let room : is.c < length start = omega (arith, is.customer, are.one_price) in
        let more = earned_less (set old is.c (is.price + 1)) (set start is.c (is.price + 1)) r.numbers (λ i. set_below old start is.c (is.price + 1) i is.customer room are.within) in
        let same = ap (earned_by (set start is.c (is.price + 1))) met.measured.numbers in
        (r.plan.stops, met.route, omega (arith, more, same, is.needed, met.measured.time))

    needed_next : (c : ℕ) → get_or lowered c 0 < get_or start c 0 → SomeEarns g sets (set start c (get_or lowered c 0 + 1))
    needed_next c less = elim (cases_eq c is.c) [
      | inl same ↦
          let now : get_or lowered c 0 ≡ is.price = ap (λ (ps : List ℕ). get_or ps c 0) is.is ∙ ap (λ k. get_or (set old is.c is.price) k 0) same ∙ get_or-set_same old is.c is.price 0 is.customer in
          subst (λ (ps : List ℕ). SomeEarns g sets ps) (sym (ap (λ k. set start k (get_or lowered c 0 + 1)) same ∙ ap (λ p. set start is.c (p + 1)) now)) earns
      | inr apart ↦
          let now : get_or lowered c 0 ≡ get_or old c 0 = ap (λ (ps : List ℕ). get_or ps c 0) is.is ∙ get_or-set_other old is.c c is.price 0 apart in
          subst (λ p. SomeEarns g sets (set start c (p + 1))) (sym now) (are.needed c (omega (arith, less, now)))
    ]

    pub spared_next : AreSpared g sets start lowered
    spared_next = record {
      one_price = long_next ∙ are.one_price;
      within = λ c. omega (arith, no_higher c, are.within c);
      needed = needed_next;
    }

-- where no near route earns by the start prices, none is lowered
pub none_is_lowered : (g : Network) (sets : List (List ℕ)) (start base : List ℕ) → AreLowered g sets start base → NearRoutesPay g (terms_at sets start) → (c : ℕ) → get_or start c 0 ≤ get_or base c 0
none_is_lowered g sets start base are pays c = elim (cases_lt (get_or base c 0) (get_or start c 0)) [
  | inr within ↦ omega (arith, within)
  | inl less ↦
      let some = are.needed c less in
      let low : get_or base c 0 + 1 ≤ get_or start c 0 = omega (arith, less) in
      let paid = pays some.0 some.1 in
      let fewer = earned_less (set start c (get_or base c 0 + 1)) start (numbers_of g some.0) (λ i. set_within start c (get_or base c 0 + 1) i (inside less) low) in
      absurd (omega (arith, some.2, paid, fewer))
]
  where
    inside : get_or base c 0 < get_or start c 0 → c < length start
    inside less = elim (cases_lt c (length start)) [
      | inl there ↦ there
      | inr past ↦ (let none = get_or-eq_default start 0 {n = c} (omega (arith, past)) in absurd (omega (arith, none, less)))
    ]
