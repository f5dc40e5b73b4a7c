-- Routes of a fleet, and the test stop by stop.
use Rattle.std.proofs.Common.{◌≡◌, ◌≢◌, ◌∙◌, ℕ, zero, suc, ◌+◌, ◌^◌, ◌<◌, ◌≤◌, Bool, true, false, ◌||◌, List, [], ◌∷◌, Option, Some, None, map, refl, sym, ap, subst, arith, ◌⊎◌, inl, inr}
use Rattle.std.specs.Prelude.{nat_eq, if◌then◌else◌}
use Rattle.std.proofs.lemmas.Bool.{cases_Bool, cases_eq, cases_lt, eq-eqb, false≢true, ne_eqb, or_left, or_right}
use Rattle.std.proofs.lemmas.Option.{same_Some}
use Rattle.customer_sets.specs.CustSet.{has, with_customer}
use Rattle.customer_sets.proofs.Ranges.{has-with_customer}
use Rattle.ev_model.specs.Fleet.{customers_of, times_in}
use Rattle.ev_model.specs.Network.{is_customer, Network, node_count, scaled_limit}
use Rattle.ev_model.specs.Route.{route_of}
use Rattle.ev_model.specs.Time.{time_of}
use Rattle.ev_model.specs.declared.Stop.{Stop}
use Rattle.fleet_model.specs.Cover.{IsFleetRoute}
use Rattle.fleet_model.specs.Places.{customer_count, customer_number, numbers_of}
use Rattle.fleet_model.proofs.Counts.{AreCustomers, count_numbers, number_apart, number_less}
use Rattle.fleet_model.proofs.Fleets.{plan_below}
use Rattle.fleet_model.proofs.Plans.{filtered}
use Rattle.fleet_model.proofs.Weighed.{AreBelow}
use Rattle.fleet_model.proofs.Numbers.{numbered}
use Rattle.instance_reader.specs.Instance.{IsCustomerNumber}
use Rattle.plan_check.proofs.Strays.{customers_of-inserted, customers_of-served, customers_of-stray, inserted, kind_of, served, stray}
use Rattle.master_table.specs.declared.listed.ListedRoute.{ListedRoute}
use Rattle.certificate_check.specs.Routes.{IsRouteAmong, IsServedBy, served_once}

-- the customer whom a stop serves
pub served_told : (g : Network) (s : Stop) (o : Option ℕ) → s.via ≡ false → IsCustomerNumber g s.node o → IsServedBy g s o
served_told g s None own other = rw (own, other) refl
served_told g s (Some n) own is = (rw (own, is.0) refl, numbered g n s.node is.1)

-- ---- each customer once

pub record OnceFrom (g : Network) (set : List ℕ) (stops : List Stop) (found : List ℕ) : Type 0 where
  pub members : (c : ℕ) → has found c ≡ (has set c || has (numbers_of g stops) c)
  pub once : (node : ℕ) → is_customer g node ≡ true → times_in (customers_of g stops) node ≤ 1
  pub apart : (node : ℕ) → is_customer g node ≡ true → has set (customer_number g node) ≡ true → times_in (customers_of g stops) node ≡ 0

moved : (a b c : Bool) → ((a || b) || c) ≡ (b || (a || c))
moved true true c = refl
moved true false c = refl
moved false true c = refl
moved false false c = refl

or_none : (b : Bool) → b ≡ (b || false)
or_none true = refl
or_none false = refl

module _ (g : Network) (set : List ℕ) (s : Stop) (ss : List Stop) where
  one_more : (found : List ℕ) → is_customer g s.node ≡ true → customers_of g (s ∷ ss) ≡ s.node ∷ customers_of g ss → has set (customer_number g s.node) ≡ false
      → OnceFrom g (with_customer (customer_number g s.node) set) ss found → OnceFrom g set (s ∷ ss) found
  one_more found customer more new rest = record {
    members = λ c.
        rest.members c
        ∙ ap (λ b. b || has (numbers_of g ss) c) (has-with_customer (customer_number g s.node) set c)
        ∙ moved (nat_eq (customer_number g s.node) c) (has set c) (has (numbers_of g ss) c)
        ∙ ap (λ cs. has set c || has (map (customer_number g) cs) c) (sym more);
    once = λ node is. subst (λ cs. times_in cs node ≤ 1) (sym more) (once_at node is);
    apart = λ node is stands. subst (λ cs. times_in cs node ≡ 0) (sym more) (apart_at node is stands);
  }
    where
      stands_with : (node : ℕ) → has set (customer_number g node) ≡ true → has (with_customer (customer_number g s.node) set) (customer_number g node) ≡ true
      stands_with node stands = has-with_customer (customer_number g s.node) set (customer_number g node) ∙ or_right (nat_eq (customer_number g s.node) (customer_number g node)) (has set (customer_number g node)) stands

      once_at : (node : ℕ) → is_customer g node ≡ true → times_in (s.node ∷ customers_of g ss) node ≤ 1
      once_at node is = elim (cases_eq s.node node) [
        | inl same ↦
            let number : nat_eq (customer_number g s.node) (customer_number g node) ≡ true = eq-eqb (customer_number g s.node) (customer_number g node) (ap (customer_number g) same) in
            let stands : has (with_customer (customer_number g s.node) set) (customer_number g node) ≡ true =
            has-with_customer (customer_number g s.node) set (customer_number g node) ∙ or_left (nat_eq (customer_number g s.node) (customer_number g node)) (has set (customer_number g node)) number in
            rw (eq-eqb s.node node same) (omega (arith, rest.apart node is stands))
        | inr other ↦ rw (ne_eqb s.node node other) (omega (arith, rest.once node is))
      ]

      apart_at : (node : ℕ) → is_customer g node ≡ true → has set (customer_number g node) ≡ true → times_in (s.node ∷ customers_of g ss) node ≡ 0
      apart_at node is stands = elim (cases_eq s.node node) [
        | inl same ↦ absurd (false≢true (sym new ∙ ap (λ x. has set (customer_number g x)) same ∙ stands))
        | inr other ↦ rw (ne_eqb s.node node other) (omega (arith, rest.apart node is (stands_with node stands)))
      ]

  passed : (found : List ℕ) → customers_of g (s ∷ ss) ≡ customers_of g ss → OnceFrom g set ss found → OnceFrom g set (s ∷ ss) found
  passed found same rest = record {
    members = λ c. rest.members c ∙ ap (λ cs. has set c || has (map (customer_number g) cs) c) (sym same);
    once = λ node is. subst (λ cs. times_in cs node ≤ 1) (sym same) (rest.once node is);
    apart = λ node is stands. subst (λ cs. times_in cs node ≡ 0) (sym same) (rest.apart node is stands);
  }

pub once_from : (g : Network) (set : List ℕ) (stops : List Stop) (found : List ℕ) → served_once g set stops ≡ Some found → OnceFrom g set stops found
once_from g set [] found is = record {
  members = λ c. ap (λ xs. has xs c) (sym (same_Some set found is)) ∙ or_none (has set c);
  once = λ node customer. omega arith;
  apart = λ node customer stands. refl;
}
once_from g set (s ∷ ss) found is = elim (kind_of g s) [
  | inserted via _ skip ↦ passed g set s ss found (customers_of-inserted g s ss via) (once_from g set ss found (rw skip at is))
  | served own customer _ here ↦ elim (cases_Bool (has set (customer_number g s.node))) [
    | inl stands ↦ let none : None ≡ Some found = rw (here, stands) at is in absurd (cc)
    | inr new ↦ one_more g set s ss found customer (customers_of-served g s ss own customer) new (once_from g (with_customer (customer_number g s.node) set) ss found (rw (here, new) at is))
  ]
  | stray own other _ skip ↦ passed g set s ss found (customers_of-stray g s ss own other) (once_from g set ss found (rw skip at is))
]

pub record TwiceFrom (g : Network) (set : List ℕ) (stops : List Stop) : Type 0 where
  pub node : ℕ
  pub customer : is_customer g node ≡ true
  pub twice : ((has set (customer_number g node) ≡ true) × (1 ≤ times_in (customers_of g stops) node)) ⊎ (2 ≤ times_in (customers_of g stops) node)

module _ (g : Network) (set : List ℕ) (s : Stop) (ss : List Stop) where
  stands_again : is_customer g s.node ≡ true → customers_of g (s ∷ ss) ≡ s.node ∷ customers_of g ss → has set (customer_number g s.node) ≡ true → TwiceFrom g set (s ∷ ss)
  stands_again customer more stands = record {
    node = s.node;
    customer = customer;
    twice = inl (stands, subst (λ cs. 1 ≤ times_in cs s.node) (sym more) (rw (eq-eqb s.node s.node refl) (omega arith)));
  }

  later : is_customer g s.node ≡ true → customers_of g (s ∷ ss) ≡ s.node ∷ customers_of g ss → TwiceFrom g (with_customer (customer_number g s.node) set) ss → TwiceFrom g set (s ∷ ss)
  later customer more rest = record {
    node = rest.node;
    customer = rest.customer;
    twice = by rest.twice;
  }
    where
      more_times : (k : ℕ) → k ≤ times_in (customers_of g ss) rest.node → k ≤ times_in (customers_of g (s ∷ ss)) rest.node
      more_times k le = subst (λ cs. k ≤ times_in cs rest.node) (sym more) (omega (arith, le))

      by : ((has (with_customer (customer_number g s.node) set) (customer_number g rest.node) ≡ true) × (1 ≤ times_in (customers_of g ss) rest.node)) ⊎ (2 ≤ times_in (customers_of g ss) rest.node)
          → ((has set (customer_number g rest.node) ≡ true) × (1 ≤ times_in (customers_of g (s ∷ ss)) rest.node)) ⊎ (2 ≤ times_in (customers_of g (s ∷ ss)) rest.node)
      by (inr two) = inr (more_times 2 two)
      by (inl one) = elim (cases_eq s.node rest.node) [
        | inl same ↦ inr (subst (λ cs. 2 ≤ times_in cs rest.node) (sym more) (rw (eq-eqb s.node rest.node same) (omega (arith, one.1))))
        | inr other ↦
            let apart = ne_eqb (customer_number g s.node) (customer_number g rest.node) (number_apart g s.node rest.node customer rest.customer other) in
            let stands : has set (customer_number g rest.node) ≡ true = rw apart at (sym (has-with_customer (customer_number g s.node) set (customer_number g rest.node)) ∙ one.0) in
            inl (stands, more_times 1 one.1)
      ]

  passed_twice : customers_of g (s ∷ ss) ≡ customers_of g ss → TwiceFrom g set ss → TwiceFrom g set (s ∷ ss)
  passed_twice same rest = record {
    node = rest.node;
    customer = rest.customer;
    twice = subst (λ cs. ((has set (customer_number g rest.node) ≡ true) × (1 ≤ times_in cs rest.node)) ⊎ (2 ≤ times_in cs rest.node)) (sym same) rest.twice;
  }

pub twice_from : (g : Network) (set : List ℕ) (stops : List Stop) → served_once g set stops ≡ None → TwiceFrom g set stops
twice_from g set [] is = absurd (cc)
twice_from g set (s ∷ ss) is = elim (kind_of g s) [
  | inserted via _ skip ↦ passed_twice g set s ss (customers_of-inserted g s ss via) (twice_from g set ss (rw skip at is))
  | served own customer _ here ↦ elim (cases_Bool (has set (customer_number g s.node))) [
    | inl stands ↦ stands_again g set s ss customer (customers_of-served g s ss own customer) stands
    | inr new ↦ later g set s ss customer (customers_of-served g s ss own customer) (twice_from g (with_customer (customer_number g s.node) set) ss (rw (here, new) at is))
  ]
  | stray own other _ skip ↦ passed_twice g set s ss (customers_of-stray g s ss own other) (twice_from g set ss (rw skip at is))
]

-- a route that serves a customer twice is none of a fleet
pub twice_is_none : (g : Network) (stops : List Stop) → served_once g [] stops ≡ None → IsFleetRoute g 1 stops → ⊥
twice_is_none g stops is route = by (twice_from g [] stops is)
  where
    by : TwiceFrom g [] stops → ⊥
    by twice = elim twice.twice [
      | inl stands ↦ let no = stands.0 in cc
      | inr two ↦ omega (arith, two, route.once twice.node twice.customer)
    ]

-- ---- some customer

none_has : (xs : List ℕ) → ((c : ℕ) → has xs c ≡ false) → xs ≡ []
none_has [] none = refl
none_has (x ∷ xs) none = absurd (false≢true (sym (none x) ∙ or_left (nat_eq x x) (has xs x) (eq-eqb x x refl)))

no_numbers : (g : Network) (cs : List ℕ) → map (customer_number g) cs ≡ [] → cs ≡ []
no_numbers g [] is = refl
no_numbers g (c ∷ cs) is = absurd (cc)

pub some_where_found : (g : Network) (stops : List Stop) (found : List ℕ) → served_once g [] stops ≡ Some found → found ≢ [] → customers_of g stops ≢ []
some_where_found g stops found is some none =
    let from = once_from g [] stops found is in
    some (none_has found (λ c. from.members c ∙ ap (λ cs. has (map (customer_number g) cs) c) none))

pub none_where_none_found : (g : Network) (stops : List Stop) (found : List ℕ) → served_once g [] stops ≡ Some found → found ≡ [] → customers_of g stops ≡ []
none_where_none_found g stops found is empty =
    let from = once_from g [] stops found is in
    no_numbers g (customers_of g stops) (none_has (numbers_of g stops) (λ c. sym (from.members c) ∙ ap (λ xs. has xs c) empty))

-- ---- how often a customer is served

has_none : (ns : List ℕ) (c : ℕ) → has ns c ≡ false → times_in ns c ≡ 0
has_none [] c none = refl
has_none (n ∷ ns) c none = elim (cases_Bool (nat_eq n c)) [
  | inl same ↦ let yes : true ≡ false = rw same at none in absurd (cc)
  | inr other ↦ rw other (omega (arith, has_none ns c (rw other at none)))
]

has_some : (ns : List ℕ) (c : ℕ) → has ns c ≡ true → 1 ≤ times_in ns c
has_some [] c some = absurd (cc)
has_some (n ∷ ns) c some = elim (cases_Bool (nat_eq n c)) [
  | inl same ↦ rw same (omega arith)
  | inr other ↦ rw other (omega (arith, has_some ns c (rw other at some)))
]

-- a route of a fleet serves a customer once where it has the customer's number, and else not at all
pub serves_once : (g : Network) (stops : List Stop) → IsFleetRoute g 1 stops → (node : ℕ) → is_customer g node ≡ true → (set : List ℕ) → ((c : ℕ) → has set c ≡ has (numbers_of g stops) c) →
    times_in (customers_of g stops) node ≡ (if has set (customer_number g node) then 1 else 0)
serves_once g stops route node is set members =
    let counted = count_numbers g (customers_of g stops) node (filtered g (route_of stops)) is in
    elim (cases_Bool (has set (customer_number g node))) [
      | inl some ↦ rw some (omega (arith, counted, route.once node is, has_some (numbers_of g stops) (customer_number g node) (sym (members (customer_number g node)) ∙ some)))
      | inr none ↦ rw none (omega (arith, counted, has_none (numbers_of g stops) (customer_number g node) (sym (members (customer_number g node)) ∙ none)))
    ]

-- ---- some customer of so many

some_of : (g : Network) (n : ℕ) (cs : List ℕ) → cs ≢ [] → AreCustomers g cs → AreBelow n cs → (c : ℕ) × (c < customer_number g n) × (has (map (customer_number g) cs) c ≡ true)
some_of g n [] some are below = absurd (some refl)
some_of g n (y ∷ ys) some are below = (
  customer_number g y,
  number_less g y n are.0 below.0,
  or_left (nat_eq (customer_number g y) (customer_number g y)) (has (map (customer_number g) ys) (customer_number g y)) (eq-eqb (customer_number g y) (customer_number g y) refl),
)

pub among_of : (g : Network) (stops : List Stop) (r : ListedRoute) → IsFleetRoute g 1 stops → ((c : ℕ) → has r.set c ≡ has (numbers_of g stops) c) → r.time ≡ time_of g 1 g.capacity stops → scaled_limit g ≤ 10 ^ 18 → IsRouteAmong (customer_count g) r
among_of g stops r route members time limit =
    let some = some_of g (node_count g) (customers_of g stops) route.some (filtered g (route_of stops)) (plan_below g 1 g.capacity stops route.feasible) in
    let in_time = route.feasible.in_time in
    record { customer = some.0; known = some.1; served = members some.0 ∙ some.2; time = omega (arith, time, in_time, limit) }

-- ---- the customer with a number

pub node_of : (g : Network) (n c : ℕ) → c < customer_number g n → (node : ℕ) × (node < n) × (is_customer g node ≡ true) × (customer_number g node ≡ c)
node_of g zero c less = absurd (omega (arith, less))
node_of g (suc n) c less = elim (cases_lt c (customer_number g n)) [
  | inl below ↦
      let found = node_of g n c below in
      (found.0, let known = found.1 in omega (arith, known), found.2, found.3)
  | inr above ↦ elim (cases_Bool (is_customer g n)) [
    | inl is ↦
        let few : c < customer_number g n + 1 = rw is at less in
        (n, omega arith, is, omega (arith, few, above))
    | inr other ↦
        let few : c < customer_number g n + 0 = rw other at less in
        absurd (omega (arith, few, above))
  ]
]
