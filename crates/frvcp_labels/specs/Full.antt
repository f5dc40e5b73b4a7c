-- By when a full battery was had, at each place.
use Rattle.std.specs.Prelude.{◌≡◌, ℕ, ◌+◌, ◌*◌, ◌<◌, ◌≤◌, ◌⊎◌, List, length, slice_get, Option, Some}
use Rattle.ev_model.specs.Network.{node_count}
use Rattle.dominance.specs.LevelTimes.{time_at}
use Rattle.label_pool.specs.declared.label.Label.{Label}
use Rattle.piece_fn.specs.PieceFn.{level_times}
use Rattle.frvcp_labels.specs.Search.{Reached}
use Rattle.label_steps.specs.Arrivals.{drive_time}
use Rattle.route_steps.specs.Trips.{Journey}
use Rattle.route_steps.specs.Ways.{Leaving}
use Rattle.route_steps.specs.declared.state.State.{State}

-- the vehicle with a full battery at a place, at a time
abbrev pub full_at : Journey → ℕ → ℕ → ℕ → Leaving
full_at t passed node time =
    record { passed = passed; node = node; level = t.network.capacity; time = time }

-- there is a time for each bucket, or none; where one stands, the vehicle with a full battery is reached
pub record AreFull (t : Journey) (labels : List (Label State))
    (full : List (Option ℕ)) : Type 0 where
  pub count : length full ≡ length t.route * node_count t.network
  pub reached : (passed node time : ℕ) → passed < length t.route → node < node_count t.network
      → slice_get full (passed * node_count t.network + node) ≡ Some (Some time)
      → Reached labels (full_at t passed node time)

-- each time that stands was there before, or is that one at that index
abbrev pub IsNoted : List (Option ℕ) → ℕ → Option ℕ → List (Option ℕ) → Type 0
IsNoted old bucket noted now =
    (i time : ℕ) → slice_get now i ≡ Some (Some time)
    → (slice_get old i ≡ Some (Some time)) ⊎ ((i ≡ bucket) × (noted ≡ Some time))

-- a full battery was had there before the vehicle arrives
pub record IsFullBy (t : Journey) (full : List (Option ℕ)) (from : State)
    (passed to : ℕ) : Type 0 where
  pub time : ℕ
  pub there : slice_get full (passed * node_count t.network + to) ≡ Some (Some time)
  pub before : time ≤ time_at (level_times from.value) (level_times from.value).first
      + drive_time t.network from.node to
