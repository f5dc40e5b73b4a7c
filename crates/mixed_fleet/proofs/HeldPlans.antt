-- The plan that is held while one is planned, and its cost.
use Rattle.std.proofs.Common.{◌≡◌, ℕ, ◌*◌, ◌<◌, ◌≤◌, [], ◌∷◌, List, Option, None, Some, ap, arith, refl, subst, sym}
use Rattle.std.proofs.Math.Nat.{mul-le-mul_left}
use Rattle.std.proofs.lemmas.List.Sums.{sum_by-cons}
use Rattle.std.proofs.lemmas.Option.{none-some, same_Some}
use Rattle.std.specs.Prelude.{IfSome}
use Rattle.ev_model.specs.Network.{Network}
use Rattle.mixed_model.specs.Plans.{mixed_cost}
use Rattle.mixed_model.specs.declared.proof.MixedRoute.{MixedRoute}
use Rattle.mixed_fleet.specs.Held.{cost_at, IsHeldAt, MayHold, routes_at}
use Rattle.mixed_fleet.specs.Own.{AreLeastOwn}
use Rattle.mixed_fleet.specs.Plans.{cost_held, cost_of_routes, CostsNoMoreThanOwn, IsHeld}
use Rattle.mixed_fleet.specs.Searched.{total_time}
use Rattle.mixed_fleet.specs.declared.held.Held.{Held}
use Rattle.mixed_fleet.specs.declared.searched.Searched.{Searched}
use Rattle.mixed_fleet.proofs.Wides.{routes_of}

module _ (kinds : List Network) where
  pub is_held_at : (routes made : List MixedRoute) (cost : ℕ) → made ≡ routes → IsHeld kinds routes → cost ≡ cost_of_routes kinds routes → IsHeldAt kinds (record { routes = made; cost = cost })
  is_held_at routes made cost same held is = record {
    plan = subst (IsHeld kinds) (sym same) held;
    cost = subst (λ (rs : List MixedRoute). cost ≡ cost_of_routes kinds rs) (sym same) is;
  }

  -- a plan that costs less than one that is held costs no more than own routes
  pub own_cheaper : (found before : Held) → found.cost < before.cost → IsHeldAt kinds found → IsHeldAt kinds before → CostsNoMoreThanOwn kinds (Some before.routes) → CostsNoMoreThanOwn kinds (Some found.routes)
  own_cheaper found before less is was own = λ k owns are.
      let has = own k owns are in
      let same : before.routes ≡ has.0 = same_Some before.routes has.0 has.1 in
      let at : k * cost_of_routes kinds before.routes ≤ mixed_cost kinds k owns =
      subst (λ (rs : List MixedRoute). k * cost_of_routes kinds rs ≤ mixed_cost kinds k owns) (sym same) has.2 in
      let here = is.cost in
      let there = was.cost in
      let lower : k * cost_of_routes kinds found.routes ≤ k * cost_of_routes kinds before.routes = mul-le-mul_left k (omega (arith, less, here, there)) in
      (found.routes, refl, omega (arith, lower, at))

  -- where none is held some customer has no route of its own
  pub own_lacking : (plan : Option (List MixedRoute)) → CostsNoMoreThanOwn kinds None → CostsNoMoreThanOwn kinds plan
  own_lacking plan own = λ k owns are. let has = own k owns are in absurd (none-some has.0 has.1)

  -- the times of own routes are their cost
  pub own_cost : (nodes : List ℕ) (rs : List Searched) → AreLeastOwn kinds nodes rs → total_time rs ≡ cost_of_routes kinds (routes_of rs)
  own_cost [] [] are = refl
  own_cost [] (r ∷ rs) are = absurd are
  own_cost (n ∷ nodes) [] are = absurd are
  own_cost (n ∷ nodes) (r ∷ rs) are =
      let time = are.0.searched.time in
      let rest = own_cost nodes rs are.1 in
      let here = sum_by-cons (λ (s : Searched). s.time) r rs in
      omega (arith, time, rest, here)

  pub held_plan : (h : Option Held) → MayHold kinds h → IfSome (routes_at h) (IsHeld kinds)
  held_plan None may = tt
  held_plan (Some h) may = may.plan

  pub held_cost : (h : Option Held) → MayHold kinds h → cost_at h ≡ cost_held kinds (routes_at h)
  held_cost None may = refl
  held_cost (Some h) may = ap Some may.cost
