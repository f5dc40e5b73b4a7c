-- What a vehicle that is reached may charge where it is.
use Rattle.std.specs.Prelude.{◌≢◌, ℕ, ◌+◌, ◌-◌, ◌<◌, ◌≤◌, ◌⊎◌, List, length}
use Rattle.std.specs.Option.{IsSome}
use Rattle.ev_model.specs.Network.{Network, curve_at, energy, scaled_limit}
use Rattle.label_pool.specs.declared.label.Label.{Label}
use Rattle.label_steps.specs.Arrivals.{CoversVehicle, drive_time}
use Rattle.label_steps.specs.Leaves.{charge_time_at}
use Rattle.piece_fn.specs.PieceFn.{level_times}
use Rattle.frvcp_labels.specs.Search.{Reached}
use Rattle.route_steps.specs.Steps.{Holds}
use Rattle.route_steps.specs.Trips.{Journey}
use Rattle.route_steps.specs.Ways.{Leaving}
use Rattle.route_steps.specs.declared.state.State.{State}

-- short of the end of the route, a vehicle may charge so much where it is
pub record MayCharge (t : Journey) (v : Leaving) (added : ℕ) : Type 0 where
  pub on_way : v.passed < length t.route - 1
  pub station : 0 < added → IsSome (curve_at t.network v.node)
  pub within : v.level + added ≤ t.network.capacity
  pub in_time : v.time + charge_time_at t.network v.node v.level added ≤ scaled_limit t.network

-- the vehicle once it has plugged in and charged so much
abbrev pub charged_by : Network → Leaving → ℕ → Leaving
charged_by g v added = record {
  passed = v.passed;
  node = v.node;
  level = v.level + added;
  time = v.time + charge_time_at g v.node v.level added;
}

-- where a vehicle is reached, other than at the depot, it is once it has charged
abbrev pub AreCharged : Journey → List (Label State) → Type 0
AreCharged t labels =
    (v : Leaving) (added : ℕ) → Reached labels v → v.node ≢ 0 → MayCharge t v added →
    Reached labels (charged_by t.network v added)

-- each vehicle that is reached now was before, or the state holds it
abbrev pub OnlyAdds : List (Label State) → List (Label State) → State → Type 0
OnlyAdds old now s = (v : Leaving) → Reached now v → Reached old v ⊎ Holds s v

-- each vehicle of the state that may drive to the node is reached there
abbrev pub AreThere : Journey → List (Label State) → State → ℕ → ℕ → Type 0
AreThere t labels from passed to =
    (level time : ℕ) → CoversVehicle (level_times from.value) level time →
    energy t.network from.node to + t.network.reserve ≤ level →
    time + drive_time t.network from.node to ≤ scaled_limit t.network →
    Reached labels (record {
      passed = passed;
      node = to;
      level = level - energy t.network from.node to;
      time = time + drive_time t.network from.node to;
    })

-- and the node is not the depot
pub record WereThere (t : Journey) (labels : List (Label State)) (from : State)
    (passed to : ℕ) : Type 0 where
  pub other : to ≢ 0
  pub there : AreThere t labels from passed to
