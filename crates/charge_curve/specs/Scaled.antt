-- Curves with scaled times, cut at a full battery.
use Rattle.std.specs.Prelude.{ℕ, ◌*◌, ◌≤◌, ◌^◌, List, [], ◌∷◌, ◌++◌, filter, map, nat_lt}
use Rattle.std.specs.List.{All}
use Rattle.ev_model.specs.Curve.{BeginsEmpty, charge_time}
use Rattle.charge_curve.specs.Points.{ArePoints, IsSlowing, last_level}

-- a breakpoint (time, charge) as (level, scaled time)
abbrev pub scaled : ℕ → ℕ × ℕ → ℕ × ℕ
scaled d p = (p.1, d * p.0)

-- the breakpoints whose charge is below full
abbrev pub below : ℕ → List (ℕ × ℕ) → List (ℕ × ℕ)
below full points = filter (λ p. nat_lt p.1 full) points

-- the breakpoints below full and full itself, each as (level, scaled time)
abbrev pub breaks_of : ℕ → ℕ → List (ℕ × ℕ) → List (ℕ × ℕ)
breaks_of d full points =
    map (scaled d) (below full points) ++ (full, charge_time d points full) ∷ []

-- what holds of every scaled curve: whole times for each level, from empty at time 0, and no piece faster than the one before
pub record IsScaledCurve (breaks : List (ℕ × ℕ)) : Type 0 where
  pub begins : BeginsEmpty breaks
  pub points : ArePoints breaks
  pub slowing : IsSlowing breaks
  pub small_level : last_level breaks ≤ 10 ^ 9
  pub small_times : All (λ p. p.1 ≤ 10 ^ 18) breaks
