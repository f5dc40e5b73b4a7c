-- Values on leaving a node, by the value on arriving.
use Rattle.std.specs.Prelude.{◌≡◌, ℕ, ◌+◌, ◌-◌, ◌*◌, ◌<◌, ◌≤◌, List, nat_lt, if◌then◌else◌, slice_get, Some}
use Rattle.std.specs.Option.{IsSome}
use Rattle.ev_model.specs.Network.{Network, curve_at, plug_time, scaled_limit}
use Rattle.ev_model.specs.Time.{charging_time}
use Rattle.dominance.specs.Coverage.{SomeReaches}
use Rattle.dominance.specs.LevelTimes.{IsLevel, LevelTimes, time_at}
use Rattle.piece_fn.specs.PieceFn.{level_times}
use Rattle.label_steps.specs.Arrivals.{CoversVehicle}

-- the scaled time of plugging in and charging so much, from a level
abbrev pub charge_time_at : Network → ℕ → ℕ → ℕ → ℕ
charge_time_at g node level added =
    g.denominator * (if nat_lt 0 added then plug_time g node else 0)
    + charging_time 1 g.denominator (curve_at g node) level (level + added)

-- each level of w is charged from its first, with which the vehicle arrives
pub record IsPlugged (g : Network) (node : ℕ) (arrived w : LevelTimes) : Type 0 where
  pub station : IsSome (curve_at g node)
  pub from : (level : ℕ) → IsLevel w level →
      IsLevel arrived w.first × (w.first ≤ level) × (level ≤ g.capacity)
  pub no_later : (level : ℕ) → IsLevel w level →
      time_at arrived w.first + charge_time_at g node w.first (level - w.first) ≤ time_at w level
  pub in_time : (level : ℕ) → IsLevel w level → time_at w level ≤ scaled_limit g

-- the first value is as the vehicle arrives, each other one is charged
pub record AreLeft (g : Network) (node : ℕ) (arrived : List (ℕ × ℕ))
    (values : List (List (ℕ × ℕ))) : Type 0 where
  pub passing : (w : List (ℕ × ℕ)) → slice_get values 0 ≡ Some w → w ≡ arrived
  pub plugged : (k : ℕ) (w : List (ℕ × ℕ)) → slice_get values k ≡ Some w → 0 < k →
      IsPlugged g node (level_times arrived) (level_times w)

-- each charge of a vehicle that arrives is covered by one of the values
abbrev pub CoverCharges : Network → ℕ → List (ℕ × ℕ) → List (List (ℕ × ℕ)) → Type 0
CoverCharges g node arrived values =
    (level time added : ℕ) → CoversVehicle (level_times arrived) level time →
    (0 < added → IsSome (curve_at g node)) → level + added ≤ g.capacity
    → time + charge_time_at g node level added ≤ scaled_limit g →
    SomeReaches level_times values 0 (level + added) (time + charge_time_at g node level added)
