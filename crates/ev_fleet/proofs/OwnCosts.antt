-- Costs of the plan that is held against those of plans for each customer alone.
use Rattle.std.proofs.Common.{◌≡◌, ◌∙◌, ℕ, ◌*◌, ◌≤◌, Option, Some, None, refl, sym, ap, subst, arith, mul-le-mul_right}
use Rattle.std.proofs.lemmas.Option.{none-some, same_Some}
use Rattle.ev_model.specs.Fleet.{cost_of}
use Rattle.ev_model.specs.Network.{Network}
use Rattle.route_plan.specs.declared.plan.FleetPlan.{FleetPlan}
use Rattle.ev_fleet.specs.Bounds.{IsAtMost}
use Rattle.ev_fleet.specs.Held.{MayHold, cost_at}
use Rattle.ev_fleet.specs.Plans.{CostsNoMoreThanOwn, cost_held, cost_of_fleet}
use Rattle.ev_fleet.specs.Searching.{IsOwnCost, plan_at}
use Rattle.ev_fleet.specs.declared.held.Held.{Held}
use Rattle.ev_fleet.proofs.Bounds.{some_most}

pub own_lower : (g : Network) (cost lower : Option ℕ) → IsOwnCost g cost → IsAtMost lower cost → IsOwnCost g lower
own_lower g cost lower own most k owns are =
    let found = own k owns are in
    let at : IsAtMost lower (Some found.0) = subst (λ c. IsAtMost lower c) found.1 most in
    let number = some_most lower found.0 at in
    let below : IsAtMost (Some number.0) (Some found.0) = subst (λ c. IsAtMost c (Some found.0)) number.1 at in
    let up : number.0 * k ≤ found.0 * k = mul-le-mul_right k below in
    let all = found.2 in
    (number.0, number.1, omega (arith, up, all))

pub own_cost : (g : Network) (plan : Option FleetPlan) (cost : Option ℕ) → CostsNoMoreThanOwn g plan → IsAtMost cost (cost_held g plan) → IsOwnCost g cost
own_cost g plan cost own most =
    own_lower g (cost_held g plan) cost (λ k owns are. let found = own k owns are in (cost_of_fleet g found.0, ap (cost_held g) found.1, found.2)) most

pub own_plan : (g : Network) (held : Option Held) → MayHold g held → IsOwnCost g (cost_at held) → CostsNoMoreThanOwn g (plan_at held)
own_plan g None may own k owns are = absurd (let found = own k owns are in none-some found.0 found.1)
own_plan g (Some h) may own k owns are =
    let found = own k owns are in
    let same : cost_of_fleet g h.plan ≡ found.0 = sym may.cost ∙ same_Some h.cost found.0 found.1 in
    (h.plan, refl, subst (λ c. k * c ≤ cost_of g k owns) (sym same) found.2)

pub cost_of_held : (g : Network) (held : Option Held) → MayHold g held → cost_held g (plan_at held) ≡ cost_at held
cost_of_held g None may = refl
cost_of_held g (Some h) may = ap Some (sym may.cost)
