-- How a pool grows.
use Rattle.std.proofs.Common.{◌≡◌, ◌∙◌, ℕ, ◌<◌, ◌⊎◌, inl, inr, refl, sym, ap, subst, arith, List, Some, Result, Ok, Err, OnErr, OnOk, nat_lt}
use Rattle.std.proofs.lemmas.Bool.{cases_Bool}
use borrow.Author.Tests.{ltb-true}
use Rattle.ev_model.specs.Network.{Network}
use Rattle.ev_model.specs.declared.Stop.{Stop}
use Rattle.pricing.specs.declared.priced.PricedRoute.{PricedRoute}
use Rattle.route_pool.specs.Pool.{full_time, held, IsGrown, IsPut, kept}
use Rattle.route_pool.proofs.PutPlans.{same_or_other}

pub grown_same : (g : Network) (routes : List PricedRoute) → IsGrown g routes routes
grown_same g routes order stops has = (stops, has, inl refl)

pub grown_further : (g : Network) (old mid new : List PricedRoute) → IsGrown g old mid → IsGrown g mid new → IsGrown g old new
grown_further g old mid new first second order stops has =
    let a = first order stops has in
    let b = second order a.0 a.1 in (
      b.0,
      b.1,
      elim b.2 [
        | inl same ↦ elim a.2 [ inl again ↦ inl (same ∙ again) | inr faster ↦ inr (subst (λ s. full_time g s < full_time g stops) (sym same) faster) ]
        | inr faster ↦ elim a.2 [
          | inl again ↦ inr (subst (λ s. full_time g b.0 < full_time g s) again faster)
          | inr also ↦ inr (omega (arith, faster, also))
        ]
      ],
    )

kept_faster : (g : Network) (stops before : List Stop) → (kept g stops (Some before) ≡ before) ⊎ (full_time g (kept g stops (Some before)) < full_time g before)
kept_faster g stops before = elim (cases_Bool (nat_lt (full_time g stops) (full_time g before))) [
  | inl less ↦ inr (rw less (ltb-true (full_time g stops) (full_time g before) less))
  | inr more ↦ inl (rw more refl)
]

pub grown_put : (g : Network) (order : List ℕ) (stops : List Stop) (old new : List PricedRoute) → IsPut g order stops old new → IsGrown g old new
grown_put g order stops old new put other before has = elim (same_or_other other order) [
  | inl same ↦
      let here : held old order ≡ Some before = ap (held old) (sym same.1) ∙ has in
      let now : held new other ≡ Some (kept g stops (Some before)) = ap (held new) same.1 ∙ put.here ∙ ap (λ o. Some (kept g stops o)) here in
      (kept g stops (Some before), now, kept_faster g stops before)
  | inr apart ↦ (before, put.others other apart.1 ∙ has, inl refl)
]

-- after a call that puts a plan in, or leaves the pool as it was
pub grown_result : {T E : Type 0} (r : Result T E) (g : Network) (order : List ℕ) (stops : List Stop) (old new : List PricedRoute) → OnOk r (IsPut g order stops old new) → OnErr r (new ≡ old) → IsGrown g old new
grown_result (Ok x) g order stops old new put same = grown_put g order stops old new put
grown_result (Err e) g order stops old new put same = subst (λ (rs : List PricedRoute). IsGrown g old rs) (sym same) (grown_same g old)
