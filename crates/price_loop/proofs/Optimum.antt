-- What an answer says of the routes: an optimum is a cover by them that costs the price sum over the weight, and a ray has a
-- price sum above 0.
use Rattle.std.proofs.Common.{◌≡◌, ◌≢◌, ◌∙◌, ℕ, suc, ◌+◌, ◌-◌, ◌*◌, ◌<◌, ◌≤◌, Bool, true, false, ◌||◌, cond, refl, sym, ap, subst, arith, inl, inr, List, [], ◌∷◌, map, length, get_or, nat_eq, ℤ, pos, ◌+ℤ◌, ◌*ℤ◌, ◌<ℤ◌, unsigned_abs}
use Rattle.std.specs.List.{All}
use Rattle.std.proofs.lemmas.Bool.{cases_eq, eq-eqb, ne_eqb}
use Rattle.std.proofs.lemmas.Int.{ints}
use Rattle.std.proofs.lemmas.List.{get_or-append_right, get_or-map, length-append, length-map}
use Rattle.std.proofs.lemmas.List.Elements.{All-get_or, All-head, All-tail, All-weaker}
use Rattle.std.proofs.lemmas.List.FromFn.{length-map-range_with_len}
use Rattle.customer_sets.specs.CustSet.{has, with_customer}
use Rattle.customer_sets.proofs.Ranges.{has-with_customer}
use Rattle.ev_model.specs.Fleet.{times_in}
use Rattle.fleet_model.specs.Equations.{column_at, cost_of, helper, helpers, right_side, route, serves, total_from}
use Rattle.fleet_model.specs.Prices.{price_total}
use Rattle.master_simplex.specs.Answer.{cost_of_shares, covered, IsAdded, IsOptimum}
use Rattle.master_simplex.specs.declared.prices.Lp.{Lp}
use Rattle.master_table.specs.Tableau.{Limits, Tableau}
use Rattle.price_loop.specs.Columns.{HasRoute, set_of}
use Rattle.price_loop.specs.Endings.{IsOver}
use Rattle.price_loop.specs.Masters.{columns_of}
use Rattle.price_loop.specs.Problems.{column_of, Problem}
use Rattle.price_loop.proofs.PriceRises.{AreOnce}

-- ---- the set of some customers
swapped : (a b c : Bool) → ((a || b) || c) ≡ (b || (a || c))
swapped true true c = refl
swapped true false c = refl
swapped false true c = refl
swapped false false c = refl

has_also : (set cs : List ℕ) (x : ℕ) → has (set_of set cs) x ≡ (has set x || has cs x)
has_also set [] x = elim (has set x) as (λ b. b ≡ (b || false)) [ true ↦ refl | false ↦ refl ]
has_also set (c ∷ cs) x =
    has_also (with_customer c set) cs x
    ∙ ap (λ b. b || has cs x) (has-with_customer c set x)
    ∙ swapped (nat_eq c x) (has set x) (has cs x)

pub has_of : (cs : List ℕ) (x : ℕ) → has (set_of [] cs) x ≡ has cs x
has_of cs x = has_also [] cs x

-- what stands at most once in a list counts where it is there
counted_once : (xs : List ℕ) (c k : ℕ) → times_in xs c ≤ 1 → cond (has xs c) k 0 ≡ k * times_in xs c
counted_once [] c k few = omega arith
counted_once (x ∷ xs) c k few = elim (cases_eq x c) [
  | inl same ↦
      let here : nat_eq x c ≡ true = eq-eqb x c same in
      let none : 1 + times_in xs c ≤ 1 = rw here at few in
      let all : times_in xs c ≡ 0 = omega (arith, none) in
      let one : k ≡ k * (1 + times_in xs c) = rw all (omega arith) in
      rw here one
  | inr apart ↦
      let other : nat_eq x c ≡ false = ne_eqb x c apart in
      let fewer : 0 + times_in xs c ≤ 1 = rw other at few in
      let rest = counted_once xs c k (omega (arith, fewer)) in
      let more : k * times_in xs c ≡ k * (0 + times_in xs c) = ap (λ n. k * n) (omega arith) in
      rw other (rest ∙ more)
]

-- ---- the sum of all prices
all_of : (c : ℕ) (prices : List ℤ) → total_from (λ x. true) c prices ≡ price_total prices
all_of c [] = refl
all_of c (p ∷ prices) = let rest = all_of (suc c) prices in ap (λ z. p +ℤ z) rest

pub sum_is_right : (prices : List ℤ) → right_side prices ≡ price_total prices
sum_is_right prices = all_of 0 prices

-- ---- shares of columns as shares of routes
module _ {R C : Type 0} (q : Problem R C) (routes : List R) (none : R) where
  abbrev n : ℕ
  n = q.customers

  abbrev route_at : ℕ → R
  route_at j = get_or routes (j - n) none

  -- the sum of the shares of the routes, each as often as its route serves the customer
  abbrev pub times_shared : List (ℕ × ℕ) → ℕ → ℕ
  times_shared [] c = 0
  times_shared (x ∷ xs) c = x.1 * times_in (q.served (route_at x.0)) c + times_shared xs c

  -- the sum of share times cost
  abbrev pub cost_shared : List (ℕ × ℕ) → ℕ
  cost_shared [] = 0
  cost_shared (x ∷ xs) = x.1 * q.cost (route_at x.0) + cost_shared xs

  column_is : (j : ℕ) → n ≤ j → j < n + length routes → column_at (columns_of q routes) j ≡ column_of q (route_at j)
  column_is j low high =
      get_or-append_right (helpers n) (map (column_of q) routes) n j (route [] 0) (length-map-range_with_len helper 0 n) low
      ∙ get_or-map (column_of q) routes (j - n) none (route [] 0) (omega (arith, low, high))

  pub many_columns : length (columns_of q routes) ≡ n + length routes
  many_columns = length-append (helpers n) (map (column_of q) routes) ∙ (let a = length-map-range_with_len helper 0 n in let b = length-map routes (column_of q) in omega (arith, a, b))

  times_are : AreOnce q → All q.is_route routes → (xs : List (ℕ × ℕ)) (c : ℕ) → All (HasRoute n routes) xs → covered (columns_of q routes) xs c ≡ times_shared xs c
  times_are once are [] c have = refl
  times_are once are (x ∷ xs) c have =
      let here = All-head (HasRoute n routes) x xs have in
      let rest = times_are once are xs c (All-tail (HasRoute n routes) x xs have) in
      let r = route_at x.0 in
      let is : q.is_route r = All-get_or q.is_route routes (x.0 - n) none (omega (arith, here.0, here.1)) are in
      let first : cond (serves (column_at (columns_of q routes) x.0) c) x.1 0 ≡ x.1 * times_in (q.served r) c =
      ap (λ b. cond (serves b c) x.1 0) (column_is x.0 here.0 here.1) ∙ ap (λ b. cond b x.1 0) (has_of (q.served r) c) ∙ counted_once (q.served r) c x.1 (once r is c) in
      omega (arith, first, rest)

  cost_is : (xs : List (ℕ × ℕ)) → All (HasRoute n routes) xs → cost_of_shares (columns_of q routes) xs ≡ cost_shared xs
  cost_is [] have = refl
  cost_is (x ∷ xs) have =
      let here = All-head (HasRoute n routes) x xs have in
      let rest = cost_is xs (All-tail (HasRoute n routes) x xs have) in
      let first : x.1 * cost_of (column_at (columns_of q routes) x.0) ≡ x.1 * q.cost (route_at x.0) = ap (λ b. x.1 * cost_of b) (column_is x.0 here.0 here.1) in
      omega (arith, first, rest)

  -- shares of routes cover each customer exactly, at the price sum over the weight
  pub record AreShares (caps : Limits) (weight : ℕ) (prices : List ℤ) (over : ℕ) (xs : List (ℕ × ℕ)) : Type 0 where
    pub some : 1 ≤ over
    pub some_weight : 1 ≤ weight
    pub placed : All (HasRoute n routes) xs
    pub exact : (c : ℕ) → c < n → times_shared xs c ≡ over
    pub cost : pos (cost_shared xs * weight) ≡ price_total prices *ℤ pos over
    pub small : over ≤ caps.body
    pub parts : All (λ x. (0 < x.1) × (x.1 ≤ over)) xs

  module _ (caps : Limits) (lp : Lp) (basis : List ℕ) (closing : C) (is : IsOver q caps lp routes basis closing) where
    abbrev t : Tableau
    t = is.solved.table

    added : (x : ℕ × ℕ) → IsAdded t x.0 → HasRoute n routes x
    added x in_table =
        let count = is.solved.count in
        let many = ap length is.solved.columns_are ∙ many_columns in
        (omega (arith, in_table.0, count), omega (arith, in_table.1, many))

    shares_of : AreOnce q → IsOptimum t lp.weight lp.prices.items lp.over lp.shares.items → AreShares caps lp.weight lp.prices.items lp.over lp.shares.items
    shares_of once optimum =
        let xs = lp.shares.items in
        let have = All-weaker (λ (x : ℕ × ℕ). IsAdded t x.0) (HasRoute n routes) added xs optimum.cover.added in
        let count = is.solved.count in
        let cost : cost_of_shares t.columns xs ≡ cost_shared xs = ap (λ bs. cost_of_shares bs xs) is.solved.columns_are ∙ cost_is xs have in
        let turned : cost_shared xs * lp.weight ≡ lp.weight * cost_of_shares t.columns xs = ap (λ k. k * lp.weight) (sym cost) ∙ omega arith in
        let body = is.solved.within.over in
        record {
          some = (let e = optimum.cover.some in omega (arith, e));
          some_weight = (let e = optimum.weighty in omega (arith, e));
          placed = have;
          exact = λ c less.
              let there = optimum.cover.exact c (omega (arith, less, count)) in
              sym (times_are once is.routes_are xs c have) ∙ sym (ap (λ bs. covered bs xs c) is.solved.columns_are) ∙ there;
          cost = ap pos turned ∙ optimum.cost ∙ ap (λ z. pos lp.over *ℤ z) (sum_is_right lp.prices.items) ∙ omega (arith, ints);
          small = subst (λ (l : Limits). lp.over ≤ l.body) is.solved.caps_are body;
          parts = is.solved.within.shares;
        }

    pub optimum_shares : AreOnce q → lp.weight ≢ 0 → AreShares caps lp.weight lp.prices.items lp.over lp.shares.items
    optimum_shares once some = elim is.solved.answer [
      | inl optimum ↦ shares_of once optimum
      | inr ray ↦ absurd (some ray.weightless)
    ]

    pub ray_above : lp.weight ≡ 0 → pos 0 <ℤ price_total lp.prices.items
    ray_above none = elim is.solved.answer [
      | inl optimum ↦ (let e = optimum.weighty in absurd (omega (arith, none, e)))
      | inr ray ↦ subst (λ z. pos 0 <ℤ z) (sum_is_right lp.prices.items) ray.above
    ]

    pub weight_small : lp.weight ≤ caps.body
    weight_small = subst (λ (l : Limits). lp.weight ≤ l.body) is.solved.caps_are is.solved.within.weight

    pub prices_small : All (λ (z : ℤ). unsigned_abs z ≤ caps.cost) lp.prices.items
    prices_small = subst (λ (l : Limits). All (λ (z : ℤ). unsigned_abs z ≤ l.cost) lp.prices.items) is.solved.caps_are is.solved.within.prices
