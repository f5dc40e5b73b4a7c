-- The texts of plans and of fleet plans: each value has one spelling, in lines that end with a line feed.
use Rattle.std.specs.Prelude.{◌≡◌, ◌≢◌, ℕ, ◌≤◌, List, [], ◌∷◌, ◌++◌, Option, None, Some, codes, decimal, length, nat_lt, if◌then◌else◌}
use Rattle.std.specs.List.{All}
use Rattle.ev_model.specs.declared.Stop.{Stop}
use Rattle.ev_text.specs.Texts.{Begins, IsTextOf, joined_texts, optional_text, parted_texts}
use Rattle.route_plan.specs.Limits.{greatest_number, most_bytes, most_routes}
use Rattle.route_plan.specs.declared.plan.FleetPlan.{FleetPlan}
use Rattle.route_plan.specs.declared.plan.RoutePlan.{RoutePlan}

-- the amount behind `+`, where something is charged
abbrev pub amount_text : ℕ → List ℕ
amount_text added = if nat_lt 0 added then codes "+" ++ decimal added else []

-- a stop: `v` where it was inserted, then the node and the amount
abbrev pub stop_text : Stop → List ℕ
stop_text s = optional_text (codes "v") s.via ++ decimal s.node ++ amount_text s.added

-- the line of a plan: its stops are parted by single spaces
abbrev pub plan_text : List Stop → List ℕ
plan_text stops = codes "route " ++ parted_texts (codes " ") stop_text stops ++ 10 ∷ []

abbrev pub plan_lines : List RoutePlan → List ℕ
plan_lines routes = joined_texts (λ p. plan_text p.stops) routes

-- the file of a fleet plan, or of none
abbrev pub fleet_plan_text : Option FleetPlan → List ℕ
fleet_plan_text None = codes "evroute plan 1" ++ 10 ∷ codes "none" ++ 10 ∷ []
fleet_plan_text (Some plan) =
    codes "evroute plan 1" ++ 10 ∷ codes "routes " ++ decimal (length plan.routes) ++ 10 ∷
    plan_lines plan.routes

-- the numbers of a stop may stand in a text
pub record IsSmallStop (s : Stop) : Type 0 where
  pub node : s.node ≤ greatest_number
  pub added : s.added ≤ greatest_number

-- a plan may stand in a text: it has a stop, and its numbers are small
pub record FitsText (stops : List Stop) : Type 0 where
  pub some : stops ≢ []
  pub small : All IsSmallStop stops

-- a fleet plan may stand in a text: it hasn't too many routes, each of which may
abbrev pub FitsFile : Option FleetPlan → Type 0
FitsFile None = Unit {0}
FitsFile (Some plan) = (length plan.routes ≤ most_routes) × All (λ p. FitsText p.stops) plan.routes

-- the bytes are the text of the plan, and are not too many
pub record SpellsPlan (bytes : List ℕ) (stops : List Stop) : Type 0 where
  pub within : length bytes ≤ most_bytes
  pub fits : FitsText stops
  pub text : bytes ≡ plan_text stops

-- the bytes are the file of the fleet plan, or of none, and are not too many
pub record SpellsFleetPlan (bytes : List ℕ) (plan : Option FleetPlan) : Type 0 where
  pub within : length bytes ≤ most_bytes
  pub fits : FitsFile plan
  pub text : bytes ≡ fleet_plan_text plan

-- the bytes begin the text of a plan: they are one, or can be continued to one, which may be of any length
abbrev pub BeginsPlan : List ℕ → Type 0
BeginsPlan bytes = Begins (IsTextOf plan_text FitsText) bytes

-- the same of the file of a fleet plan, or of none
abbrev pub BeginsFile : List ℕ → Type 0
BeginsFile bytes = Begins (IsTextOf fleet_plan_text FitsFile) bytes
