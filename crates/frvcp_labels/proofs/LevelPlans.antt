-- The plans of the route that go by a level of a label.
use Rattle.std.proofs.Common.{ℕ, List, ◌∷◌, Option, Some, None}
use Rattle.label_pool.specs.declared.label.Label.{Label}
use Rattle.route_steps.specs.Steps.{level_before, stop_at}
use Rattle.route_steps.specs.Trips.{IsTrip, Journey}
use Rattle.route_steps.specs.Ways.{depot_stop}
use Rattle.route_steps.specs.declared.state.State.{State}
use Rattle.frvcp_labels.specs.Search.{AreSound, HasOrigin, HasPlans}
use Rattle.frvcp_labels.proofs.WaysBack.{at_start, first_is_depot, last_is_depot, step_back, time_back}

-- a way home from a state goes on a way from the start to it
pub origin_plans : (t : Journey) (labels : List (Label State)) (parent : Option ℕ) (s : State) → IsTrip t.network t.route → AreSound t labels → HasOrigin t labels parent s → HasPlans t s
origin_plans t labels None s trip sound start level time stops is rest in_time =
    (depot_stop ∷ stops, at_start t s level time stops start is trip.two (first_is_depot t trip) rest in_time)
origin_plans t labels (Some p) s trip sound from level time stops is rest in_time =
    let step = from.2 in
    let ends = last_is_depot t trip in
    (sound p from.0 from.1).plans (level_before t.network from.0.value s level) time (stop_at from.0.value s level ∷ stops) (step.comes level is)
    (step_back t labels ends from.0.value s level stops step is rest)
    (time_back t labels ends from.0.value s level time stops step is in_time)
