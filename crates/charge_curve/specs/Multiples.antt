-- The denominator of several curves, each cut at a full battery of its own.
use Rattle.std.specs.Prelude.{◌↔◌, ℕ, ◌<◌, ◌≤◌, List, [], ◌∷◌}
use Rattle.std.specs.Int.{◌∣◌}
use Rattle.ev_model.specs.Curve.{IsMultipleOfSlopes}
use Rattle.charge_curve.specs.CutCurve.{CutCurve}

-- e times each slope of each curve is whole
abbrev pub IsMultipleOfAll : List CutCurve → ℕ → Type 0
IsMultipleOfAll [] e = Unit {0}
IsMultipleOfAll (c ∷ cs) e = IsMultipleOfSlopes c.full c.points e × IsMultipleOfAll cs e

-- d is the denominator of curves: the least common multiple of the denominators of all their slopes in lowest terms, 1 where there is none
pub record IsCommonDenominator (curves : List CutCurve) (d : ℕ) : Type 0 where
  pub some : 1 ≤ d
  pub multiple : IsMultipleOfAll curves d
  pub least : (e : ℕ) → IsMultipleOfAll curves e → d ∣ e

-- the numbers of which P holds are the multiples of d
abbrev pub AreMultiples : (ℕ → Type 0) → ℕ → Type 0
AreMultiples P d = (e : ℕ) → (d ∣ e) ↔ P e

-- P holds of no positive number up to the limit
abbrev pub IsPast : ℕ → (ℕ → Type 0) → Type 0
IsPast limit P = (e : ℕ) → 0 < e → P e → limit < e
