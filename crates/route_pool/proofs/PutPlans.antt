-- What putting a plan into a pool leaves.
use Rattle.std.proofs.Common.{◌≡◌, ◌≢◌, ◌∙◌, ℕ, zero, suc, Bool, true, false, ◌⊎◌, inl, inr, refl, sym, ap, subst, true≢false, List, [], ◌∷◌, ◌++◌, map, slice_get, bytes_eq, nat_lt, Bor, IfSome, is_some, Option, Some, None, Vec}
use Rattle.std.proofs.lemmas.Bool.{cases_Bool}
use Rattle.std.proofs.lemmas.Bool.Decides.{not_from_Decides}
use Rattle.std.proofs.lemmas.List.Elements.{All-cons, All-head, All-tail}
use Rattle.std.proofs.lemmas.Map.{keys-set_value}
use Rattle.std.proofs.lemmas.Option.{none-some}
use Rattle.std.proofs.lemmas.Slice.Eq.{bytes_eq-Decides}
use Rattle.std.specs.Global.{Global}
use Rattle.std.specs.List.{AllByRecursion, IsDistinct}
use Rattle.std.specs.Map.{keys_of, lookup, set_value}
use Rattle.std.specs.Map.Iter.{deref_pair}
use Rattle.std.specs.Option.{option_map}
use Rattle.indexmap.specs.IndexMap.{IndexMap, insert_entry}
use Rattle.ev_model.specs.Network.{Network}
use Rattle.ev_model.specs.declared.Stop.{Stop}
use Rattle.pricing.specs.declared.priced.PricedRoute.{PricedRoute}
use Rattle.route_pool.specs.Pool.{AreApart, full_time, held, IsColumn, IsPool, IsPut, kept, orders_after, orders_of, route_of_entry}
use Rattle.route_pool.specs.declared.pooled.Pooled.{Pooled}

-- two orders are the same or not
pub same_or_other : (xs ys : List ℕ) → ((bytes_eq xs ys ≡ true) × (xs ≡ ys)) ⊎ ((bytes_eq xs ys ≡ false) × (xs ≢ ys))
same_or_other xs ys = by (bytes_eq xs ys) refl
  where
    by : (t : Bool) → bytes_eq xs ys ≡ t → ((bytes_eq xs ys ≡ true) × (xs ≡ ys)) ⊎ ((bytes_eq xs ys ≡ false) × (xs ≢ ys))
    by true e = inl (e, (bytes_eq-Decides xs ys).0 e)
    by false e = inr (e, not_from_Decides (bytes_eq xs ys) (bytes_eq-Decides xs ys) e)

pub is_same : (xs ys : List ℕ) → xs ≡ ys → bytes_eq xs ys ≡ true
is_same xs ys e = (bytes_eq-Decides xs ys).1 e

pub is_other : (xs ys : List ℕ) → xs ≢ ys → bytes_eq xs ys ≡ false
is_other xs ys ne = elim (same_or_other xs ys) [ inl same ↦ absurd (ne same.1) | inr other ↦ other.0 ]

-- the entries of a map from orders to what there is for them
abbrev pub Entries : Type 0
Entries = List (Vec ℕ Global × Pooled)

abbrev pub routes_of : Entries → List PricedRoute
routes_of es = map route_of_entry es

-- the test by which the map finds an order
abbrev pub at_order : List ℕ → Vec ℕ Global → Bool
at_order order k = bytes_eq order k.items

abbrev pub same_order : Vec ℕ Global → Vec ℕ Global → Bool
same_order x y = bytes_eq x.items y.items

pub same_entries : {S : Type 0} (m n : IndexMap (Vec ℕ Global) Pooled S) → m ≡ n → m.entries ≡ n.entries
same_entries {S} m n same = ap (λ (x : IndexMap (Vec ℕ Global) Pooled S). x.entries) same

-- ---- what the map finds is what the pool holds
pub held_found : (es : Entries) (order : List ℕ) (pooled : Pooled) → lookup (at_order order) es ≡ Some pooled → held (routes_of es) order ≡ Some pooled.plan.stops
held_found [] order pooled found = absurd (none-some pooled found)
held_found (e ∷ es) order pooled found = elim (same_or_other order e.0.items) [
  | inl same ↦
      let here : Some e.1 ≡ Some pooled = rw same.0 at found in
      let is : e.1 ≡ pooled = cc in
      rw (is_same e.0.items order (sym same.1)) (ap (λ (p : Pooled). Some p.plan.stops) is)
  | inr other ↦ rw (is_other e.0.items order (λ q. other.1 (sym q))) (held_found es order pooled (rw other.0 at found))
]

pub held_missed : (es : Entries) (order : List ℕ) → lookup (at_order order) es ≡ None → held (routes_of es) order ≡ None
held_missed [] order none = refl
held_missed (e ∷ es) order none = elim (same_or_other order e.0.items) [
  | inl same ↦ let at : Some e.1 ≡ None = rw same.0 at none in absurd (none-some e.1 (sym at))
  | inr other ↦ rw (is_other e.0.items order (λ q. other.1 (sym q))) (held_missed es order (rw other.0 at none))
]

pub held_where_found : (es : Entries) (order : List ℕ) → is_some (lookup (at_order order) es) ≡ is_some (held (routes_of es) order)
held_where_found es order = by (lookup (at_order order) es) refl
  where
    by : (found : Option Pooled) → lookup (at_order order) es ≡ found → is_some (lookup (at_order order) es) ≡ is_some (held (routes_of es) order)
    by None is = ap is_some is ∙ sym (ap is_some (held_missed es order is))
    by (Some pooled) is = ap is_some is ∙ sym (ap is_some (held_found es order pooled is))

-- no two keys of a map are the same order
apart_from : (k : Vec ℕ Global) (es : Entries) → AllByRecursion (λ y. same_order k y ≡ false) (keys_of es) → held (routes_of es) k.items ≡ None
apart_from k [] all = refl
apart_from k (e ∷ es) all =
    let differs : e.0.items ≢ k.items = λ same. true≢false (sym (is_same k.items e.0.items (sym same)) ∙ all.0) in
    rw (is_other e.0.items k.items differs) (apart_from k es all.1)

pub apart_keys : (es : Entries) → IsDistinct same_order (keys_of es) → AreApart (routes_of es)
unfolding IsDistinct
apart_keys [] distinct = tt
apart_keys (e ∷ es) distinct = (apart_from e.0 es distinct.0, apart_keys es distinct.1)

-- ---- an order that the pool hasn't
pub entry_new : (es : Entries) (k : Vec ℕ Global) (pooled : Pooled) → lookup (same_order k) es ≡ None → insert_entry same_order es k pooled ≡ es ++ (k, pooled) ∷ []
entry_new [] k pooled none = refl
entry_new (e ∷ es) k pooled none = elim (same_or_other k.items e.0.items) [
  | inl same ↦ let at : Some e.1 ≡ None = rw same.0 at none in absurd (none-some e.1 (sym at))
  | inr other ↦ rw other.0 (ap (λ (rest : Entries). e ∷ rest) (entry_new es k pooled (rw other.0 at none)))
]

held_pushed : (es : Entries) (k : Vec ℕ Global) (pooled : Pooled) → held (routes_of es) k.items ≡ None → held (routes_of (es ++ (k, pooled) ∷ [])) k.items ≡ Some pooled.plan.stops
held_pushed [] k pooled none = rw (is_same k.items k.items refl) refl
held_pushed (e ∷ es) k pooled none = elim (same_or_other e.0.items k.items) [
  | inl same ↦ let at : Some e.1.plan.stops ≡ None = rw same.0 at none in absurd (none-some e.1.plan.stops (sym at))
  | inr other ↦ rw other.0 (held_pushed es k pooled (rw other.0 at none))
]

held_besides : (es : Entries) (k : Vec ℕ Global) (pooled : Pooled) (other : List ℕ) → k.items ≢ other → held (routes_of (es ++ (k, pooled) ∷ [])) other ≡ held (routes_of es) other
held_besides [] k pooled other apart = rw (is_other k.items other apart) refl
held_besides (e ∷ es) k pooled other apart = elim (same_or_other e.0.items other) [
  | inl same ↦ rw same.0 refl
  | inr differs ↦ rw differs.0 (held_besides es k pooled other apart)
]

pub put_new : (g : Network) (order : List ℕ) (es new : Entries) (k : Vec ℕ Global) (pooled : Pooled) → k.items ≡ order → lookup (same_order k) es ≡ None
    → new ≡ insert_entry same_order es k pooled → IsPut g order pooled.plan.stops (routes_of es) (routes_of new)
put_new g order es new k pooled is none inserted =
    let pushed = inserted ∙ entry_new es k pooled none in
    let before : held (routes_of es) order ≡ None = ap (held (routes_of es)) (sym is) ∙ held_missed es k.items none in
    record {
      here =
          ap (λ (n : Entries). held (routes_of n) order) pushed
          ∙ ap (held (routes_of (es ++ (k, pooled) ∷ []))) (sym is)
          ∙ held_pushed es k pooled (held_missed es k.items none)
          ∙ ap (λ (o : Option (List Stop)). Some (kept g pooled.plan.stops o)) (sym before);
      others = λ other apart. ap (λ (n : Entries). held (routes_of n) other) pushed ∙ held_besides es k pooled other (λ e. apart (sym e ∙ is));
    }

pub pool_pushed : (g : Network) (es new : Entries) (k : Vec ℕ Global) (pooled : Pooled) → lookup (same_order k) es ≡ None → new ≡ insert_entry same_order es k pooled
    → IsColumn g k.items pooled.plan.stops → IsPool g (routes_of es) → IsPool g (routes_of new)
pool_pushed g es new k pooled none inserted column pool =
    subst (λ (n : Entries). IsPool g (routes_of n)) (sym (inserted ∙ entry_new es k pooled none)) (pushed es pool)
  where
    P : PricedRoute → Type 0
    P r = IsColumn g r.order.items r.plan.stops

    pushed : (fs : Entries) → IsPool g (routes_of fs) → IsPool g (routes_of (fs ++ (k, pooled) ∷ []))
    pushed [] pool = All-cons P (route_of_entry (k, pooled)) [] column pool
    pushed (f ∷ fs) pool = All-cons P (route_of_entry f) (routes_of (fs ++ (k, pooled) ∷ [])) (All-head P (route_of_entry f) (routes_of fs) pool) (pushed fs (All-tail P (route_of_entry f) (routes_of fs) pool))

-- ---- an order that the pool has
module _ (order : List ℕ) (pooled : Pooled) where
  held_replaced : (es : Entries) (before : Pooled) → lookup (at_order order) es ≡ Some before → held (routes_of (set_value (at_order order) es pooled)) order ≡ Some pooled.plan.stops
  held_replaced [] before found = absurd (none-some before found)
  held_replaced (e ∷ es) before found = elim (same_or_other order e.0.items) [
    | inl same ↦ rw (same.0, is_same e.0.items order (sym same.1)) refl
    | inr other ↦ rw (other.0, is_other e.0.items order (λ q. other.1 (sym q))) (held_replaced es before (rw other.0 at found))
  ]

  held_beside : (es : Entries) (other : List ℕ) → other ≢ order → held (routes_of (set_value (at_order order) es pooled)) other ≡ held (routes_of es) other
  held_beside [] other apart = refl
  held_beside (e ∷ es) other apart = elim (same_or_other order e.0.items) [
    | inl same ↦ rw (same.0, is_other e.0.items other (λ q. apart (sym (same.1 ∙ q)))) refl
    | inr differs ↦ elim (same_or_other e.0.items other) [
      | inl at ↦ rw (differs.0, at.0) refl
      | inr later ↦ rw (differs.0, later.0) (held_beside es other apart)
    ]
  ]

  pub put_replaced : (g : Network) (stops : List Stop) (es new : Entries) (before : Pooled) → lookup (at_order order) es ≡ Some before → pooled.plan.stops ≡ kept g stops (Some before.plan.stops)
      → new ≡ set_value (at_order order) es pooled → IsPut g order stops (routes_of es) (routes_of new)
  put_replaced g stops es new before found is set = record {
    here =
        ap (λ (n : Entries). held (routes_of n) order) set
        ∙ held_replaced es before found
        ∙ ap Some is
        ∙ ap (λ (o : Option (List Stop)). Some (kept g stops o)) (sym (held_found es order before found));
    others = λ other apart. ap (λ (n : Entries). held (routes_of n) other) set ∙ held_beside es other apart;
  }

-- the plan that the map finds for an order is one for this order
pub column_found : (g : Network) (order : List ℕ) (es : Entries) (pooled : Pooled) → IsPool g (routes_of es) → lookup (at_order order) es ≡ Some pooled → IsColumn g order pooled.plan.stops
column_found g order [] pooled pool found = absurd (none-some pooled found)
column_found g order (e ∷ es) pooled pool found = elim (same_or_other order e.0.items) [
  | inl same ↦
      let here : Some e.1 ≡ Some pooled = rw same.0 at found in
      let is : e.1 ≡ pooled = cc in
      let first : IsColumn g e.0.items e.1.plan.stops = All-head P (route_of_entry e) (routes_of es) pool in
      subst (λ (o : List ℕ). IsColumn g o pooled.plan.stops) (sym same.1) (subst (λ (p : Pooled). IsColumn g e.0.items p.plan.stops) is first)
  | inr other ↦ column_found g order es pooled (All-tail P (route_of_entry e) (routes_of es) pool) (rw other.0 at found)
]
  where
    P : PricedRoute → Type 0
    P r = IsColumn g r.order.items r.plan.stops

kept_column : (g : Network) (order : List ℕ) (stops before : List Stop) → IsColumn g order stops → IsColumn g order before → IsColumn g order (kept g stops (Some before))
kept_column g order stops before new old = elim (cases_Bool (nat_lt (full_time g stops) (full_time g before))) [
  | inl less ↦ rw less new
  | inr more ↦ rw more old
]

set_pool : (g : Network) (order : List ℕ) (es : Entries) (pooled : Pooled) → IsColumn g order pooled.plan.stops → IsPool g (routes_of es) → IsPool g (routes_of (set_value (at_order order) es pooled))
set_pool g order [] pooled column pool = pool
set_pool g order (e ∷ es) pooled column pool = elim (same_or_other order e.0.items) [
  | inl same ↦
      let first : IsColumn g e.0.items pooled.plan.stops = subst (λ (o : List ℕ). IsColumn g o pooled.plan.stops) same.1 column in
      rw same.0 (All-cons P (route_of_entry (e.0, pooled)) (routes_of es) first (All-tail P (route_of_entry e) (routes_of es) pool))
  | inr other ↦
      let rest = set_pool g order es pooled column (All-tail P (route_of_entry e) (routes_of es) pool) in
      rw other.0 (All-cons P (route_of_entry e) (routes_of (set_value (at_order order) es pooled)) (All-head P (route_of_entry e) (routes_of es) pool) rest)
]
  where
    P : PricedRoute → Type 0
    P r = IsColumn g r.order.items r.plan.stops

pub pool_replaced : (g : Network) (order : List ℕ) (stops : List Stop) (es new : Entries) (before pooled : Pooled) → lookup (at_order order) es ≡ Some before → pooled.plan.stops ≡ kept g stops (Some before.plan.stops)
    → new ≡ set_value (at_order order) es pooled → IsColumn g order stops → IsPool g (routes_of es) → IsPool g (routes_of new)
pool_replaced g order stops es new before pooled found is set column pool =
    let there = kept_column g order stops before.plan.stops column (column_found g order es before pool found) in
    subst (λ (n : Entries). IsPool g (routes_of n)) (sym set) (set_pool g order es pooled (subst (λ (s : List Stop). IsColumn g order s) (sym is) there) pool)

-- ---- the orders, as they were first seen
orders_keys : (es : Entries) → orders_of (routes_of es) ≡ map (λ (k : Vec ℕ Global). k.items) (keys_of es)
orders_keys [] = refl
orders_keys (e ∷ es) = ap (λ (rest : List (List ℕ)). e.0.items ∷ rest) (orders_keys es)

orders_pushed : (es : Entries) (k : Vec ℕ Global) (pooled : Pooled) → orders_of (routes_of (es ++ (k, pooled) ∷ [])) ≡ orders_of (routes_of es) ++ k.items ∷ []
orders_pushed [] k pooled = refl
orders_pushed (e ∷ es) k pooled = ap (λ (rest : List (List ℕ)). e.0.items ∷ rest) (orders_pushed es k pooled)

pub orders_new : (order : List ℕ) (es new : Entries) (k : Vec ℕ Global) (pooled : Pooled) → k.items ≡ order → lookup (same_order k) es ≡ None
    → new ≡ insert_entry same_order es k pooled → orders_of (routes_of new) ≡ orders_after (routes_of es) order
orders_new order es new k pooled is none inserted =
    let before : held (routes_of es) order ≡ None = ap (held (routes_of es)) (sym is) ∙ held_missed es k.items none in
    let pushed =
    ap (λ (n : Entries). orders_of (routes_of n)) (inserted ∙ entry_new es k pooled none)
    ∙ orders_pushed es k pooled
    ∙ ap (λ (o : List ℕ). orders_of (routes_of es) ++ o ∷ []) is in
    rw before pushed

pub orders_replaced : (order : List ℕ) (es new : Entries) (before pooled : Pooled) → lookup (at_order order) es ≡ Some before → new ≡ set_value (at_order order) es pooled
    → orders_of (routes_of new) ≡ orders_after (routes_of es) order
orders_replaced order es new before pooled found set =
    let keys =
    ap (λ (n : Entries). orders_of (routes_of n)) set
    ∙ orders_keys (set_value (at_order order) es pooled)
    ∙ ap (λ (ks : List (Vec ℕ Global)). map (λ (k : Vec ℕ Global). k.items) ks) (keys-set_value (at_order order) es pooled)
    ∙ sym (orders_keys es) in
    rw (held_found es order before found) keys

-- ---- a route by its place
column_at : (g : Network) (es : Entries) (at : ℕ) (k : Vec ℕ Global) (pooled : Pooled) → slice_get es at ≡ Some (k, pooled) → IsPool g (routes_of es) → IsColumn g k.items pooled.plan.stops
column_at g [] at k pooled found pool = absurd (none-some (k, pooled) found)
column_at g (e ∷ es) zero k pooled found pool =
    let P = λ (r : PricedRoute). IsColumn g r.order.items r.plan.stops in
    let is : e ≡ (k, pooled) = cc in
    subst P (ap route_of_entry is) (All-head P (route_of_entry e) (routes_of es) pool)
column_at g (e ∷ es) (suc at) k pooled found pool =
    let P = λ (r : PricedRoute). IsColumn g r.order.items r.plan.stops in
    column_at g es at k pooled found (All-tail P (route_of_entry e) (routes_of es) pool)

pub column_got : (g : Network) (es : Entries) (at : ℕ) (got : Option (Bor (Vec ℕ Global) × Bor Pooled)) → option_map deref_pair got ≡ slice_get es at → IsPool g (routes_of es)
    → IfSome got (λ r. IsColumn g r.0.now.items r.1.now.plan.stops)
column_got g es at None is pool = tt
column_got g es at (Some r) is pool = column_at g es at r.0.now r.1.now (sym is) pool
