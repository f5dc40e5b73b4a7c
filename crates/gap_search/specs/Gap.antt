-- What a search for a close gap answers: a fleet plan that no move makes cheaper, and an accepted
-- proof of what no fleet plan costs less than.
use Rattle.std.specs.Prelude.{◌≡◌, ℕ, ◌≤◌, Bool, List, [], ◌∷◌, Option, None, Some, map, sum}
use Rattle.ev_model.specs.Fleet.{cost_of}
use Rattle.ev_model.specs.Network.{Network}
use Rattle.plan_check.specs.FleetRules.{stops_of}
use Rattle.report_lines.specs.Lines.{IsBoundOf}
use Rattle.route_improve.specs.Improved.{IsFirstAlone, IsMoved, own_orders}
use Rattle.route_improve.specs.Orders.{AreLeastTimes, HaveCost}
use Rattle.route_improve.specs.declared.improving.Improved.{Improved}
use Rattle.route_improve.specs.declared.improving.Improved.TheVariants.{Plan, Alone}
use Rattle.route_plan.specs.declared.plan.FleetPlan.{FleetPlan}
use Rattle.route_plan.specs.declared.plan.RoutePlan.{RoutePlan}
use Rattle.tree_text.specs.BoundProofs.{IsBoundShown, bound_of}
use Rattle.gap_search.specs.declared.outcome.GapOutcome.{GapOutcome}

-- the cost is no more than that of the plan to begin with, or, where there was none, than that of
-- routes for the customers alone, if each has one
abbrev pub IsNoDearer : Network → Option (List RoutePlan) → ℕ → Type 0
IsNoDearer g None cost = (own_cost : ℕ) → HaveCost g (own_orders g) own_cost → cost ≤ own_cost
IsNoDearer g (Some start) cost = cost ≤ cost_of g 1 (stops_of start)

-- a cost is no more than that of routes for the customers at these nodes alone, if each has one
abbrev pub IsNoMoreThanOwn : Network → List ℕ → ℕ → Type 0
IsNoMoreThanOwn g nodes cost =
    (times : List ℕ) → AreLeastTimes g (map (λ node. node ∷ []) nodes) times → cost ≤ sum times

-- a plan that no relocation and no exchange makes cheaper, or, where a clock ended the moves, one
-- in order, and that is no dearer than the one to begin with; or, where there was none, the first
-- customer without a route of his own
abbrev pub IsHeld : Network → Option (List RoutePlan) → Bool → Improved → Type 0
IsHeld g start ended (Plan plan) =
    IsMoved g ended plan.routes × IsNoDearer g start (cost_of g 1 (stops_of plan.routes))
IsHeld g start ended (Alone node) = (start ≡ None) × IsFirstAlone g node

-- the plan that is held
abbrev pub plan_held : Improved → Option FleetPlan
plan_held (Plan plan) = Some plan
plan_held (Alone node) = None

-- what it costs
abbrev pub cost_held : Network → Improved → Option ℕ
cost_held g (Plan plan) = Some (cost_of g 1 (stops_of plan.routes))
cost_held g (Alone node) = None

-- a plan, or why none is held, beside a proof that is accepted, and whether a clock ended the moves
-- that made the plan: the plan costs no less than the bound, and none is held, nor was there one to begin with, where the proof shows that there is
-- none
pub record IsGapOutcome (g : Network) (start : Option (List RoutePlan)) (ended : Bool)
    (o : GapOutcome) : Type 0 where
  pub plan : IsHeld g start ended o.plan
  pub proof : IsBoundShown g o.proof
  pub bound : IsBoundOf (cost_held g o.plan) (bound_of o.proof)
  pub none : bound_of o.proof ≡ None → plan_held o.plan ≡ None
