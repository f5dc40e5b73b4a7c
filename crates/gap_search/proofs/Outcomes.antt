-- What is held beside a proof that is accepted.
use Rattle.std.proofs.Common.{◌≡◌, ℕ, ◌*◌, ◌≤◌, Bool, List, Option, None, Some, arith, refl, subst, sym}
use Rattle.std.specs.Prelude.{IfSome}
use Rattle.ev_model.specs.Fleet.{IsFleetPlan, cost_of}
use Rattle.ev_model.specs.Network.{Network}
use Rattle.near_proof.specs.Truth.{IsTrueNearBound}
use Rattle.plan_check.specs.FleetRules.{stops_of}
use Rattle.report_lines.specs.Lines.{IsBoundOf}
use Rattle.route_improve.proofs.Answered.{moved_orderly}
use Rattle.route_improve.specs.Improved.{CostsNoMore, IsTimedAnswer}
use Rattle.route_improve.specs.declared.improving.Improved.{Improved}
use Rattle.route_improve.specs.declared.improving.Improved.TheVariants.{Alone, Plan}
use Rattle.route_plan.specs.declared.plan.RoutePlan.{RoutePlan}
use Rattle.tree_text.proofs.BoundLaws.{shown_bound}
use Rattle.tree_text.specs.BoundProofs.{IsBoundShown, bound_of}
use Rattle.tree_text.specs.declared.bounds.proof.BoundProof.{BoundProof}
use Rattle.gap_search.specs.After.{IsBegun, IsGrownAfter, IsHeldAfter, IsSettledAfter}
use Rattle.gap_search.specs.Candidate.{IsNoWeaker}
use Rattle.gap_search.specs.Gap.{IsGapOutcome, IsHeld, IsNoDearer, cost_held, plan_held}
use Rattle.gap_search.proofs.OwnCosts.{no_dearer_alone}

-- what is no dearer than what is no dearer
still_no_dearer : (g : Network) (start : Option (List RoutePlan)) (before after : ℕ) → after ≤ before → IsNoDearer g start before → IsNoDearer g start after
still_no_dearer g None before after less own = λ own_cost have.
    let le : before ≤ own_cost = own own_cost have in
    omega (arith, less, le)
still_no_dearer g (Some from) before after less le = omega (arith, less, le)

-- what a search begins with is so behind it as well
pub still_begun : (g : Network) (start : Option (List RoutePlan)) (before after : Improved) → IsBegun g start before → IsHeldAfter g before after → IsBegun g start after
still_begun g start (Plan before) (Plan after) is later =
    (later.fleet, still_no_dearer g start (cost_of g 1 (stops_of before.routes)) (cost_of g 1 (stops_of after.routes)) later.no_more is.1)
still_begun g start (Plan before) (Alone node) is later = absurd later
still_begun g start (Alone node) after is same = subst (IsBegun g start) (sym same) is

-- and so it is behind a tree, which may find a plan where none was held
pub still_begun_grown : (g : Network) (start : Option (List RoutePlan)) (before after : Improved) → IsBegun g start before → IsGrownAfter g before after → IsBegun g start after
still_begun_grown g start (Plan before) (Plan after) is later = still_begun g start (Plan before) (Plan after) is later
still_begun_grown g start (Plan before) (Alone node) is later = absurd later
still_begun_grown g None (Alone node) (Plan after) is later = (later, no_dearer_alone g node (cost_of g 1 (stops_of after.routes)) is.1)
still_begun_grown g (Some from) (Alone node) (Plan after) is later = let bad : Some from ≡ None = is.0 in absurd (cc)
still_begun_grown g start (Alone node) (Alone other) is same = subst (λ n. IsBegun g start (Alone n)) (sym same) is

-- what is held stays as it is
pub grown_same : (g : Network) (held : Improved) → IfSome (plan_held held) (λ p. IsFleetPlan g 1 (stops_of p.routes)) → IsGrownAfter g held held
grown_same g (Plan plan) fleet = record { fleet = fleet; no_more = omega arith }
grown_same g (Alone node) fleet = refl

-- a bound is no weaker than itself
pub no_weaker_same : (bound : Option ℕ) → IsNoWeaker bound bound
no_weaker_same None = tt
no_weaker_same (Some b) = omega arith

pub is_fleet : (g : Network) (start : Option (List RoutePlan)) (found : Improved) → IsBegun g start found → IfSome (plan_held found) (λ p. IsFleetPlan g 1 (stops_of p.routes))
is_fleet g start (Plan plan) is = is.0
is_fleet g start (Alone node) is = tt

no_dearer : (g : Network) (start : Option (List RoutePlan)) (cost : ℕ) → CostsNoMore g start cost → IsNoDearer g start cost
no_dearer g None cost own = own.no_more
no_dearer g (Some from) cost less = less

-- what moves of single customers answer is no dearer, though a clock ended them
pub begun : (g : Network) (start : Option (List RoutePlan)) (ended : Bool) (found : Improved) → IsTimedAnswer g ended start found → IsBegun g start found
begun g start ended (Plan plan) is = ((moved_orderly g ended plan.routes is.0).fleet, no_dearer g start (cost_of g 1 (stops_of plan.routes)) is.1)
begun g start ended (Alone node) is = is

-- what they answer in the end is held
pub settled_held : (g : Network) (start : Option (List RoutePlan)) (ended : Bool) (before after : Improved) → IsBegun g start before → IsSettledAfter g ended before after → IsHeld g start ended after
settled_held g start ended (Plan before) (Plan after) is answer =
    (answer.0, still_no_dearer g start (cost_of g 1 (stops_of before.routes)) (cost_of g 1 (stops_of after.routes)) answer.1 is.1)
settled_held g start ended (Plan before) (Alone node) is answer = let bad : Some before.routes ≡ None = answer.0 in absurd (cc)
settled_held g start ended (Alone node) after is same = subst (IsHeld g start ended) (sym same) is

bounded : (g : Network) (start : Option (List RoutePlan)) (ended : Bool) (found : Improved) (bound : Option ℕ) → IsHeld g start ended found → IsTrueNearBound g bound → IsBoundOf (cost_held g found) bound
bounded g start ended (Plan plan) (Some b) is truth =
    let le : 1 * b ≤ cost_of g 1 (stops_of plan.routes) = truth 1 (stops_of plan.routes) (moved_orderly g ended plan.routes is.0).fleet in
    omega (arith, le)
bounded g start ended (Plan plan) None is truth = tt
bounded g start ended (Alone node) bound is truth = tt

no_plan : (g : Network) (start : Option (List RoutePlan)) (ended : Bool) (found : Improved) → IsHeld g start ended found → IsTrueNearBound g None → plan_held found ≡ None
no_plan g start ended (Plan plan) is truth = absurd (truth 1 (stops_of plan.routes) (moved_orderly g ended plan.routes is.0).fleet)
no_plan g start ended (Alone node) is truth = refl

none_held : (g : Network) (start : Option (List RoutePlan)) (ended : Bool) (found : Improved) (bound : Option ℕ) → IsHeld g start ended found → IsTrueNearBound g bound → bound ≡ None → plan_held found ≡ None
none_held g start ended found None is truth none = no_plan g start ended found is truth
none_held g start ended found (Some b) is truth none = absurd (cc)

pub is_outcome : (g : Network) (start : Option (List RoutePlan)) (ended : Bool) (found : Improved) (proof : BoundProof) → IsHeld g start ended found → IsBoundShown g proof → IsGapOutcome g start ended (record { plan = found; proof = proof })
is_outcome g start ended found proof is accepted = record {
  plan = is;
  proof = accepted;
  bound = bounded g start ended found (bound_of proof) is (shown_bound g proof accepted);
  none = none_held g start ended found (bound_of proof) is (shown_bound g proof accepted);
}

-- what ruin and recreate makes of a plan in two steps, each no dearer than the one before
pub begun_behind : (g : Network) (start middle last : List RoutePlan) → cost_of g 1 (stops_of middle) ≤ cost_of g 1 (stops_of start) → cost_of g 1 (stops_of last) ≤ cost_of g 1 (stops_of middle) → cost_of g 1 (stops_of last) ≤ cost_of g 1 (stops_of start)
begun_behind g start middle last first then = omega (arith, first, then)
