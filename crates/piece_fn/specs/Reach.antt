-- How far one time stays below another.
use Rattle.std.specs.Prelude.{◌≡◌, ℕ, ◌+◌, ◌-◌, ◌*◌, ◌<◌, ◌≤◌, List}
use Rattle.charge_curve.specs.Points.{time_on}
use Rattle.piece_fn.specs.Cuts.{IsOnFirst}

-- times grow by the same at each level from low to high, all of which are on the first piece
pub record IsStraightTo (points : List (ℕ × ℕ)) (low high : ℕ) : Type 0 where
  pub first : IsOnFirst high points
  pub straight : (level : ℕ) → low < level → level < high →
      time_on points (level + 1) + time_on points (level - 1) ≡ 2 * time_on points level

-- from low on, own is below other up to a level and no further, if that is below high
pub record LastsTo (own other : ℕ → ℕ) (extra low high last : ℕ) : Type 0 where
  pub above : low ≤ last
  pub within : last ≤ high
  pub covered : (level : ℕ) → low ≤ level → level ≤ last → own level + extra ≤ other level
  pub stops : last < high → other (last + 1) < own (last + 1) + extra
