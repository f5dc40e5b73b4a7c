-- The texts of plans of fleets of several kinds of vehicles: each plan has one spelling, in lines
-- that end with a line feed.
use Rattle.std.specs.Prelude.{◌≡◌, ℕ, ◌<◌, ◌≤◌, List, [], ◌∷◌, ◌++◌, Option, None, Some, codes, decimal, length}
use Rattle.std.specs.List.{All}
use Rattle.ev_text.specs.Texts.{Begins, IsTextOf, joined_texts, parted_texts}
use Rattle.route_plan.specs.Limits.{most_bytes, most_routes}
use Rattle.route_plan.specs.PlanTexts.{FitsText, stop_text}
use Rattle.mixed_model.specs.declared.proof.MixedRoute.{MixedRoute}

-- the line of a route: the number of its kind, and its stops, parted by single spaces
abbrev pub mixed_route_text : MixedRoute → List ℕ
mixed_route_text r =
    codes "kind " ++ (decimal r.kind ++ (codes " route "
    ++ (parted_texts (codes " ") stop_text r.plan.stops ++ 10 ∷ [])))

-- the text of a plan, or of none
abbrev pub mixed_plan_text : Option (List MixedRoute) → List ℕ
mixed_plan_text None = codes "evroute mixed plan 1" ++ 10 ∷ codes "none" ++ 10 ∷ []
mixed_plan_text (Some routes) =
    codes "evroute mixed plan 1" ++ 10 ∷ codes "routes " ++ decimal (length routes) ++ 10 ∷
    joined_texts mixed_route_text routes

-- a plan may be written: it hasn't too many routes, and the stops of each may stand in a text
abbrev pub MayBeWritten : Option (List MixedRoute) → Type 0
MayBeWritten None = Unit {0}
MayBeWritten (Some routes) =
    (length routes ≤ most_routes) × All (λ r. FitsText r.plan.stops) routes

-- a route of one of so many kinds that may stand in a text
pub record FitsRoute (kinds : ℕ) (r : MixedRoute) : Type 0 where
  pub kind : r.kind < kinds
  pub stops : FitsText r.plan.stops

-- a plan of a fleet of so many kinds that may stand in a text
abbrev pub FitsMixedPlan : ℕ → Option (List MixedRoute) → Type 0
FitsMixedPlan kinds None = Unit {0}
FitsMixedPlan kinds (Some routes) =
    (length routes ≤ most_routes) × All (FitsRoute kinds) routes

-- the bytes are the text of the plan, or of none, and are not too many
pub record SpellsMixedPlan (kinds : ℕ) (bytes : List ℕ)
    (plan : Option (List MixedRoute)) : Type 0 where
  pub within : length bytes ≤ most_bytes
  pub fits : FitsMixedPlan kinds plan
  pub text : bytes ≡ mixed_plan_text plan

-- the bytes begin the text of a plan, or of none: they are one, or can be continued to one, which
-- may be of any length
abbrev pub BeginsMixedPlan : ℕ → List ℕ → Type 0
BeginsMixedPlan kinds bytes = Begins (IsTextOf mixed_plan_text (FitsMixedPlan kinds)) bytes
