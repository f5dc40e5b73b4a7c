-- How the text of a plan is read from left to right: the value, or the first place where the text is none of a plan.
use Rattle.std.specs.Prelude.{ℕ, Bool, true, false, List, [], ◌∷◌, ◌++◌, Option, None, Some, Result, Ok, Err, codes, length, nat_lt, if◌then◌else◌}
use Rattle.ev_model.specs.declared.Stop.{Stop}
use Rattle.ev_text.specs.Readers.{Reader, behind_word, choice_at, answer, optional_at, list_at, positive_at, so_many, then_reads, whole_with}
use Rattle.ev_text.specs.Scans.{whole_at}
use Rattle.ev_text.specs.declared.TextFault.{TextFault}
use Rattle.route_plan.specs.Limits.{greatest_number, most_bytes, most_routes}
use Rattle.route_plan.specs.declared.plan.FleetPlan.{FleetPlan}
use Rattle.route_plan.specs.declared.plan.RoutePlan.{RoutePlan}
use Rattle.route_plan.specs.declared.text.plan_text.PlanText.{PlanText}
use Rattle.route_plan.specs.declared.text.plan_text.PlanText.TheVariants.{Bad, TooLong}

-- the amount behind a `+`, which is above 0, and 0 where there is no `+`
abbrev pub amount_behind : Bool → Reader ℕ
amount_behind true = positive_at greatest_number
amount_behind false = answer 0

abbrev pub amount_at : Reader ℕ
amount_at = then_reads (optional_at (codes "+")) amount_behind

-- a stop: a `v` where it was inserted, its node, and the amount
abbrev pub stop_at : Reader Stop
stop_at =
    then_reads (optional_at (codes "v")) (λ via.
    then_reads (whole_at greatest_number) (λ node.
    then_reads amount_at (λ added.
    answer (record { node = node; added = added; via = via }))))

-- the stops of a plan, one at least, and the line feed behind them
abbrev pub stops_at : Reader (List Stop)
stops_at = list_at (codes " ") (10 ∷ []) stop_at

-- the line of a plan: its word and its stops
abbrev pub plan_at : Reader (List Stop)
plan_at = behind_word (codes "route ") stops_at

abbrev pub route_at : Reader RoutePlan
route_at = then_reads plan_at (λ stops. answer (record { stops = stops }))

-- the number of plans, the line feed behind it, and their lines
abbrev pub routes_at : Reader (Option FleetPlan)
routes_at =
    then_reads (whole_at most_routes) (λ count.
    behind_word (10 ∷ [])
    (then_reads (so_many count route_at) (λ routes.
    answer (Some (record { routes = routes })))))

-- the second line: `none`, or how many plans follow
abbrev pub plans_behind : Bool → Reader (Option FleetPlan)
plans_behind true = answer None
plans_behind false = behind_word (codes "routes ") routes_at

abbrev pub file_at : Reader (Option FleetPlan)
file_at =
    behind_word (codes "evroute plan 1" ++ 10 ∷ [])
    (then_reads (choice_at (codes "none" ++ 10 ∷ [])) plans_behind)

abbrev pub or_bad : {A : Type 0} → Result A TextFault → Result A PlanText
or_bad (Ok value) = Ok value
or_bad (Err fault) = Err (Bad fault)

-- a text of too many bytes is not read
abbrev pub unless_too_long : {A : Type 0} → List ℕ → Result A TextFault → Result A PlanText
unless_too_long bytes found =
    if nat_lt most_bytes (length bytes) then Err (TooLong (length bytes)) else or_bad found

-- the plan of the bytes, or their first fault
abbrev pub plan_in : List ℕ → Result (List Stop) PlanText
plan_in bytes = unless_too_long bytes (whole_with plan_at bytes)

-- the fleet plan of the bytes, or none, or their first fault
abbrev pub fleet_plan_in : List ℕ → Result (Option FleetPlan) PlanText
fleet_plan_in bytes = unless_too_long bytes (whole_with file_at bytes)
