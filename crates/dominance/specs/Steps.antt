-- Values after an arc and after a charge.
use Rattle.std.specs.Prelude.{◌≡◌, ◌↔◌, ℕ, ◌+◌, ◌-◌, ◌<◌, ◌≤◌, List}
use Rattle.charge_curve.specs.Points.{last_level, time_on}
use Rattle.dominance.specs.LevelTimes.{IsLevel, LevelTimes, time_at}

-- w is v after an arc: what is left is each level that the energy leaves at or above 0 and the time within the limit
pub record IsShift (energy time limit : ℕ) (v w : LevelTimes) : Type 0 where
  pub lowered : w.first ≡ v.first - energy
  pub left : (level : ℕ) → IsLevel w level ↔
      (IsLevel v (level + energy) × (time_at v (level + energy) + time ≤ limit))
  pub later : (level : ℕ) → IsLevel w level → time_at w level ≡ time_at v (level + energy) + time

-- no level of v is left after an arc
abbrev pub NothingLeft : ℕ → ℕ → ℕ → LevelTimes → Type 0
NothingLeft energy time limit v =
    (level : ℕ) → IsLevel v level → energy ≤ level → limit < time_at v level + time

-- the time of a charge from one level to another, on a curve given by its points (level, time)
abbrev pub charged : LevelTimes → List (ℕ × ℕ) → ℕ → ℕ → ℕ
charged v curve from level = time_at v from + (time_on curve level - time_on curve from)

-- a vehicle of v has a level at a time, within the limit, after a charge
pub record IsCharge (v : LevelTimes) (curve : List (ℕ × ℕ)) (limit level time : ℕ) : Type 0 where
  pub from : ℕ
  pub starts : IsLevel v from
  pub rises : from ≤ level
  pub fits : level ≤ last_level curve
  pub takes : time ≡ charged v curve from level
  pub in_time : time ≤ limit

-- w is what becomes of v by charging from one of its levels, up to a full battery or the limit
pub record IsChargeFrom (v : LevelTimes) (curve : List (ℕ × ℕ)) (limit from : ℕ) (w : LevelTimes) : Type 0 where
  pub begins : w.first ≡ from
  pub levels : (level : ℕ) → IsLevel w level ↔
      ((from ≤ level) × (level ≤ last_level curve) × (charged v curve from level ≤ limit))
  pub later : (level : ℕ) → IsLevel w level → time_at w level ≡ charged v curve from level
