-- How the text of a plan of a fleet of several kinds of vehicles is read from left to right: the
-- plan, or the first place where the text is none of a plan.
use Rattle.std.specs.Prelude.{ℕ, ◌-◌, Bool, true, false, List, [], ◌∷◌, ◌++◌, Option, None, Some, Result, codes}
use Rattle.ev_text.specs.Readers.{Reader, answer, behind_word, choice_at, so_many, then_reads, whole_with}
use Rattle.ev_text.specs.Scans.{whole_at}
use Rattle.route_plan.specs.Limits.{most_routes}
use Rattle.route_plan.specs.PlanReading.{stops_at, unless_too_long}
use Rattle.route_plan.specs.declared.text.plan_text.PlanText.{PlanText}
use Rattle.mixed_model.specs.declared.proof.MixedRoute.{MixedRoute}

-- the line of a route of one of so many kinds: a kind that there isn't is too large
abbrev pub mixed_route_at : ℕ → Reader MixedRoute
mixed_route_at kinds =
    behind_word (codes "kind ") (then_reads (whole_at (kinds - 1)) (λ kind.
    behind_word (codes " route ") (then_reads stops_at (λ stops.
    answer (record { kind = kind; plan = record { stops = stops } })))))

-- the number of routes, the line feed behind it, and their lines
abbrev pub mixed_routes_at : ℕ → Reader (List MixedRoute)
mixed_routes_at kinds =
    then_reads (whole_at most_routes) (λ count.
    behind_word (10 ∷ []) (so_many count (mixed_route_at kinds)))

-- the second line: `none`, or how many routes follow
abbrev pub mixed_behind : ℕ → Bool → Reader (Option (List MixedRoute))
mixed_behind kinds true = answer None
mixed_behind kinds false =
    behind_word (codes "routes ") (then_reads (mixed_routes_at kinds) (λ routes.
    answer (Some routes)))

abbrev pub mixed_file_at : ℕ → Reader (Option (List MixedRoute))
mixed_file_at kinds =
    behind_word (codes "evroute mixed plan 1" ++ 10 ∷ [])
    (then_reads (choice_at (codes "none" ++ 10 ∷ [])) (mixed_behind kinds))

-- the plan of the bytes, or none, or their first fault
abbrev pub mixed_plan_in : ℕ → List ℕ → Result (Option (List MixedRoute)) PlanText
mixed_plan_in kinds bytes = unless_too_long bytes (whole_with (mixed_file_at kinds) bytes)
