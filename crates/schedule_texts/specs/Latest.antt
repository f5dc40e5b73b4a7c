-- When the last vehicle comes home.
use Rattle.std.specs.Prelude.{ℕ, List, [], ◌∷◌, max}
use Rattle.plan_schedule.specs.declared.schedule.RouteSchedule.{RouteSchedule}
use Rattle.plan_schedule.specs.declared.schedule.Visit.{Visit}

-- the greatest of a time and those of leaving
abbrev pub latest_in : ℕ → List Visit → ℕ
latest_in time [] = time
latest_in time (v ∷ vs) = latest_in (max time v.leaving) vs

abbrev pub latest_of : ℕ → List RouteSchedule → ℕ
latest_of time [] = time
latest_of time (r ∷ rs) = latest_of (latest_in time r.visits) rs
