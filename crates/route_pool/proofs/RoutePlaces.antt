-- The route at a place of a pool.
use Rattle.std.proofs.Common.{◌≡◌, ◌∙◌, ℕ, suc, ◌+◌, ◌<◌, arith, Bool, true, false, cond, inl, inr, refl, sym, ap, List, [], ◌∷◌, length, nat_lt, lt-ltb, le-ltb, subst, slice_get, Bor, IfSome, is_some, Option, Some, None, Vec}
use borrow.Author.Tests.{ltb-true}
use Rattle.std.proofs.lemmas.Bool.{cases_lt}
use Rattle.std.proofs.lemmas.Option.{slice_get-map}
use Rattle.std.specs.Global.{Global}
use Rattle.std.specs.List.{position, position_or_len}
use Rattle.std.specs.Map.{keys_of}
use Rattle.std.specs.Map.Iter.{deref_pair}
use Rattle.std.specs.Option.{option_map}
use Rattle.route_plan.specs.declared.plan.RoutePlan.{RoutePlan}
use Rattle.route_pool.specs.Placed.{IsRouteAt}
use Rattle.route_pool.specs.Pool.{held, route_of_entry}
use Rattle.route_pool.specs.declared.pooled.Pooled.{Pooled}
use Rattle.route_pool.proofs.PutPlans.{at_order, Entries, is_other, is_same, routes_of, same_or_other}

pub placed : (es : Entries) (at : ℕ) (got : Option (Bor (Vec ℕ Global) × Bor Pooled)) → option_map deref_pair got ≡ slice_get es at
    → IfSome got (λ r. IsRouteAt (routes_of es) at r.0.now.items r.1.now.plan)
placed es at None is = tt
placed es at (Some r) is =
    record { route = route_of_entry (r.0.now, r.1.now); here = slice_get-map route_of_entry es at ∙ ap (option_map route_of_entry) (sym is); order_is = refl; plan_is = refl }

-- ---- the place of an order
found_at : (es : Entries) (order : List ℕ) → position_or_len (at_order order) (keys_of es) < length (keys_of es) → (plan : RoutePlan) × IsRouteAt (routes_of es) (position_or_len (at_order order) (keys_of es)) order plan
found_at [] order less = absurd (omega (arith, less))
found_at (e ∷ es) order less = elim (same_or_other order e.0.items) [
  | inl same ↦ rw same.0 (e.1.plan, record { route = route_of_entry e; here = refl; order_is = sym same.1; plan_is = refl })
  | inr other ↦
      let k = position_or_len (at_order order) (keys_of es) in
      let later : 1 + k < suc (length (keys_of es)) = rw other.0 at less in
      let rest = found_at es order (omega (arith, later)) in
      let place : position_or_len (at_order order) (keys_of (e ∷ es)) ≡ suc k = rw other.0 (omega arith) in
      subst (λ at. (plan : RoutePlan) × IsRouteAt (routes_of (e ∷ es)) at order plan) (sym place)
      (rest.0, record { route = rest.1.route; here = rest.1.here; order_is = rest.1.order_is; plan_is = rest.1.plan_is })
]

shifted : (k n : ℕ) → nat_lt (1 + k) (suc n) ≡ nat_lt k n
shifted k n = elim (cases_lt k n) [
  | inl less ↦ lt-ltb (1 + k) (suc n) (omega (arith, less)) ∙ sym (lt-ltb k n less)
  | inr more ↦ le-ltb (1 + k) (suc n) (omega (arith, more)) ∙ sym (le-ltb k n (omega (arith, more)))
]

some_at : (es : Entries) (order : List ℕ) → nat_lt (position_or_len (at_order order) (keys_of es)) (length (keys_of es)) ≡ is_some (held (routes_of es) order)
some_at [] order = refl
some_at (e ∷ es) order = elim (same_or_other order e.0.items) [
  | inl same ↦ rw same.0 (rw (is_same e.0.items order (sym same.1)) (lt-ltb 0 (suc (length (keys_of es))) (omega arith)))
  | inr other ↦ rw other.0 (rw (is_other e.0.items order (λ q. other.1 (sym q))) (shifted (position_or_len (at_order order) (keys_of es)) (length (keys_of es)) ∙ some_at es order))
]

pub place_found : (es : Entries) (order : List ℕ) → is_some (position (at_order order) (keys_of es)) ≡ is_some (held (routes_of es) order)
place_found es order = by (nat_lt (position_or_len (at_order order) (keys_of es)) (length (keys_of es))) (some_at es order)
  where
    by : (b : Bool) → b ≡ is_some (held (routes_of es) order) → is_some (cond b (Some (position_or_len (at_order order) (keys_of es))) None) ≡ is_some (held (routes_of es) order)
    by true is = is
    by false is = is

pub place_is : (es : Entries) (order : List ℕ) → IfSome (position (at_order order) (keys_of es)) (λ at. (plan : RoutePlan) × IsRouteAt (routes_of es) at order plan)
place_is es order = by (nat_lt (position_or_len (at_order order) (keys_of es)) (length (keys_of es))) refl
  where
    by : (b : Bool) → nat_lt (position_or_len (at_order order) (keys_of es)) (length (keys_of es)) ≡ b
        → IfSome (cond b (Some (position_or_len (at_order order) (keys_of es))) None) (λ at. (plan : RoutePlan) × IsRouteAt (routes_of es) at order plan)
    by true is = found_at es order (ltb-true (position_or_len (at_order order) (keys_of es)) (length (keys_of es)) is)
    by false is = tt
