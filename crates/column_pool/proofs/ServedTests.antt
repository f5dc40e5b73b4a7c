-- Whether a customer is served, as a test of stops and as a count.
use Rattle.std.proofs.Common.{◌≡◌, ◌∙◌, ℕ, zero, suc, ◌+◌, ◌<◌, ◌≤◌, Bool, true, false, ◌||◌, refl, sym, ap, subst, arith, List, [], ◌∷◌, get_or, length, inl, inr}
use Rattle.std.proofs.lemmas.Bool.{cases_Bool, cases_eq, cases_lt, eq-eqb, false≢true, ne_eqb}
use Rattle.ev_model.specs.Fleet.{all_customers, customers_of, times_in}
use Rattle.ev_model.specs.Network.{is_customer, Network}
use Rattle.ev_model.specs.declared.Stop.{Stop}
use Rattle.fleet_model.proofs.Counts.{times_append}
use Rattle.bound_certificate.specs.declared.certificate.Share.{Share}
use Rattle.column_pool.specs.Bounds.{plans_of}
use Rattle.column_pool.specs.Chains.{is_served, serves}
use Rattle.column_pool.proofs.OneWay.{Stands}

-- a test tells whether a count is above 0
pub record Tells (test : Bool) (count : ℕ) : Type 0 where
  pub some : test ≡ true → 1 ≤ count
  pub none : test ≡ false → count ≡ 0

tells_either : (a b : Bool) (m n : ℕ) → Tells a m → Tells b n → Tells (a || b) (m + n)
tells_either true b m n first second = record {
  some = λ t. (let s = first.some refl in omega (arith, s));
  none = λ f. absurd (false≢true (sym f));
}
tells_either false b m n first second = record {
  some = λ t. (let s = second.some t in omega (arith, s));
  none = λ f. (let s = second.none f in let z = first.none refl in omega (arith, s, z));
}

module _ (g : Network) (node : ℕ) (is : is_customer g node ≡ true) where
  pub serves_tells : (stops : List Stop) → Tells (serves node stops) (times_in (customers_of g stops) node)
  serves_tells [] = record { some = λ t. absurd (false≢true t); none = λ f. refl }
  serves_tells (s ∷ ss) =
      let rest = serves_tells ss in
      elim (cases_Bool s.via) [
        | inl via ↦ rw via rest
        | inr own ↦ elim (cases_eq s.node node) [
          | inl same ↦
              let customer : is_customer g s.node ≡ true = ap (is_customer g) same ∙ is in
              rw (own, customer, eq-eqb s.node node same) (record { some = λ t. omega arith; none = λ f. absurd (false≢true (sym f)) })
          | inr apart ↦ elim (cases_Bool (is_customer g s.node)) [
            | inl customer ↦ rw (own, customer, ne_eqb s.node node apart) (record { some = λ t. (let r = rest.some t in omega (arith, r)); none = λ f. (let r = rest.none f in omega (arith, r)) })
            | inr other ↦ rw (own, other, ne_eqb s.node node apart) rest
          ]
        ]
      ]

  pub served_tells : (shares : List Share) → Tells (is_served node shares) (times_in (all_customers g (plans_of shares)) node)
  served_tells [] = record { some = λ t. absurd (false≢true t); none = λ f. refl }
  served_tells (x ∷ shares) =
      let stops = x.plan.stops in
      let both = tells_either (serves node stops) (is_served node shares) (times_in (customers_of g stops) node) (times_in (all_customers g (plans_of shares)) node) (serves_tells stops) (served_tells shares) in
      subst (λ n. Tells (serves node stops || is_served node shares) n) (sym (times_append (customers_of g stops) (all_customers g (plans_of shares)) node)) both

-- what stands in a list is counted
pub stands_counted : (x : ℕ) (xs : List ℕ) → Stands x xs → 1 ≤ times_in xs x
stands_counted x [] stands = absurd stands
stands_counted x (y ∷ ys) (inl same) = rw (eq-eqb y x (sym same)) (omega arith)
stands_counted x (y ∷ ys) (inr later) = let rest = stands_counted x ys later in omega (arith, rest)

pub counted_stands : (x : ℕ) (xs : List ℕ) → 1 ≤ times_in xs x → Stands x xs
counted_stands x [] some = absurd (omega (arith, some))
counted_stands x (y ∷ ys) some = elim (cases_eq y x) [
  | inl same ↦ inl (sym same)
  | inr apart ↦
      let later : 1 ≤ 0 + times_in ys x = rw (ne_eqb y x apart) at some in
      inr (counted_stands x ys (omega (arith, later)))
]

-- who is served, is served by one of the plans
pub record IsServedAt (g : Network) (node : ℕ) (shares : List Share) (d : Share) : Type 0 where
  pub place : ℕ
  pub within : place < length shares
  pub stands : Stands node (customers_of g (get_or shares place d).plan.stops)

pub served_at : (g : Network) (node : ℕ) (d : Share) (shares : List Share) → 1 ≤ times_in (all_customers g (plans_of shares)) node → IsServedAt g node shares d
served_at g node d [] some = absurd (omega (arith, some))
served_at g node d (x ∷ shares) some = elim (cases_lt 0 (times_in (customers_of g x.plan.stops) node)) [
  | inl here ↦ record { place = 0; within = omega arith; stands = counted_stands node (customers_of g x.plan.stops) (omega (arith, here)) }
  | inr none ↦
      let both = times_append (customers_of g x.plan.stops) (all_customers g (plans_of shares)) node in
      let rest = served_at g node d shares (omega (arith, some, both, none)) in
      record { place = suc rest.place; within = (let w = rest.within in omega (arith, w)); stands = rest.stands }
]

-- whom no plan serves, none of them does
pub none_serves : (g : Network) (node at : ℕ) (d : Share) (shares : List Share) → times_in (all_customers g (plans_of shares)) node ≡ 0 → at < length shares → times_in (customers_of g (get_or shares at d).plan.stops) node ≡ 0
none_serves g node at d [] none less = absurd (omega (arith, less))
none_serves g node zero d (x ∷ shares) none less =
    let both = times_append (customers_of g x.plan.stops) (all_customers g (plans_of shares)) node in
    omega (arith, both, none)
none_serves g node (suc at) d (x ∷ shares) none less =
    let both = times_append (customers_of g x.plan.stops) (all_customers g (plans_of shares)) node in
    none_serves g node at d shares (omega (arith, both, none)) (omega (arith, less))
