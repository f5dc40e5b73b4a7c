-- What is answered: a plan at the bound, or the plan of own routes.
use Rattle.std.proofs.Common.{◌≡◌, ℕ, List, Option, Some, None, refl, subst, arith}
use Rattle.std.specs.Prelude.{IfSome}
use Rattle.ev_model.specs.Network.{Network}
use Rattle.mixed_model.specs.Meaning.{kind_plans}
use Rattle.mixed_model.specs.Truth.{IsTrueBound}
use Rattle.mixed_model.specs.declared.proof.MixedProof.{MixedProof}
use Rattle.mixed_model.specs.declared.proof.MixedRoot.{MixedRoot}
use Rattle.mixed_model.specs.declared.proof.MixedRoot.TheVariants as root
use Rattle.mixed_model.specs.declared.proof.MixedRoute.{MixedRoute}
use Rattle.mixed_fleet.specs.Held.{cost_at, MayHold, routes_at}
use Rattle.mixed_fleet.specs.Outcome.{CostsAtLeast, IsOutcome, MeetsWhereWhole}
use Rattle.mixed_fleet.specs.Plans.{cost_of_routes, CostsNoMoreThanOwn, IsHeld}
use Rattle.mixed_fleet.specs.Proofs.{IsBestProof}
use Rattle.mixed_fleet.specs.Whole.{HasParts, IsAtBound}
use Rattle.mixed_fleet.specs.declared.held.Held.{Held}
use Rattle.mixed_fleet.proofs.HeldPlans.{held_cost, held_plan}
use Rattle.mixed_fleet.proofs.OwnPlan.{own_plan}

module _ (kinds : List Network) where
  -- what is held costs at least a true bound
  at_least : (bound : Option ℕ) (routes : List MixedRoute) → IsTrueBound kinds bound → IsHeld kinds routes → CostsAtLeast kinds bound routes
  at_least None routes truth held = truth 1 (kind_plans routes) held.plan
  at_least (Some bound) routes truth held = let le = truth 1 (kind_plans routes) held.plan in omega (arith, le)

  held_at_least : (bound : Option ℕ) (plan : Option (List MixedRoute)) → IsTrueBound kinds bound → IfSome plan (IsHeld kinds) → IfSome plan (CostsAtLeast kinds bound)
  held_at_least bound None truth held = tt
  held_at_least bound (Some routes) truth held = at_least bound routes truth held

  -- a plan at a true bound costs no more than own routes
  bound_own : (bound : Option ℕ) (routes : List MixedRoute) → IsTrueBound kinds bound → bound ≡ Some (cost_of_routes kinds routes) → CostsNoMoreThanOwn kinds (Some routes)
  bound_own bound routes truth same = λ k owns own.
      let here : IsTrueBound kinds (Some (cost_of_routes kinds routes)) = subst (IsTrueBound kinds) same truth in
      (routes, refl, here k owns (own_plan kinds k owns own))

  parts_meet : (bound : Option ℕ) (plan : Option (List MixedRoute)) (r : MixedRoot) → HasParts r → MeetsWhereWhole kinds bound plan r
  parts_meet bound plan root.None parts = tt
  parts_meet bound plan (root.Exact over shares) parts = λ whole. absurd (parts whole)
  parts_meet bound plan (root.Wide columns basis) parts = tt

  whole_meets : (bound : Option ℕ) (routes : List MixedRoute) (r : MixedRoot) → bound ≡ Some (cost_of_routes kinds routes) → MeetsWhereWhole kinds bound (Some routes) r
  whole_meets bound routes root.None same = tt
  whole_meets bound routes (root.Exact over shares) same = λ whole. (routes, refl, same)
  whole_meets bound routes (root.Wide columns basis) same = tt

  pub whole_outcome : (p : MixedProof) (routes : List MixedRoute) → IsBestProof kinds p → IsAtBound kinds p routes → IsOutcome kinds (record { plan = Some routes; cost = p.bound; proof = p })
  whole_outcome p routes best at = record {
    proof_is = best;
    held = at.held;
    cost = at.cost;
    above = at_least p.bound routes best.truth.bound at.held;
    own = bound_own p.bound routes best.truth.bound at.cost;
    whole = whole_meets p.bound routes p.root at.cost;
  }

  pub own_outcome : (p : MixedProof) (h : Option Held) → IsBestProof kinds p → MayHold kinds h → CostsNoMoreThanOwn kinds (routes_at h) → HasParts p.root → IsOutcome kinds (record { plan = routes_at h; cost = cost_at h; proof = p })
  own_outcome p h best may own parts = let plan = routes_at h in let held = held_plan kinds h may in record {
    proof_is = best;
    held = held;
    cost = held_cost kinds h may;
    above = held_at_least p.bound plan best.truth.bound held;
    own = own;
    whole = parts_meet p.bound plan p.root parts;
  }
