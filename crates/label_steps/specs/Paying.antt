-- From which points of a value charging pays.
use Rattle.std.specs.Prelude.{◌≡◌, ℕ, ◌+◌, ◌-◌, Bool, true, false, ◌&&◌, List, [], ◌∷◌, Option, None, Some, nat_le, nat_lt, if◌then◌else◌}
use Rattle.std.specs.List.{AllZip}
use Rattle.charge_curve.specs.Points.{last_level, slope, time_on}
use Rattle.dominance.specs.Steps.{IsChargeFrom}
use Rattle.piece_fn.specs.PieceFn.{level_times}

-- charging to one level ends sooner from a point than from another before it, if there is one
abbrev pub is_sooner : List (ℕ × ℕ) → Option (ℕ × ℕ) → ℕ × ℕ → Bool
is_sooner curve None p = true
is_sooner curve (Some b) p = nat_lt (p.1 + time_on curve b.0) (b.1 + time_on curve p.0)

-- and the battery is not full; and charging to the next level takes no longer than there is from one level to the next between
-- the first of some points and the second
abbrev pub pays : List (ℕ × ℕ) → Option (ℕ × ℕ) → List (ℕ × ℕ) → Bool
pays curve before [] = false
pays curve before (p ∷ []) = nat_lt p.0 (last_level curve) && is_sooner curve before p
pays curve before (p ∷ q ∷ ps) =
    is_sooner curve before p && nat_le (time_on curve (p.0 + 1) - time_on curve p.0) (slope p q)

-- the points from which charging pays, each by the last one before it
abbrev pub paying : List (ℕ × ℕ) → Option (ℕ × ℕ) → List (ℕ × ℕ) → List (ℕ × ℕ)
paying curve before [] = []
paying curve before (p ∷ ps) =
    if pays curve before (p ∷ ps)
    then p ∷ paying curve (Some p) ps
    else paying curve before ps

-- the value unchanged, and then for each of some points what becomes of the value by charging from its level
abbrev pub AreCharged : List (ℕ × ℕ) → List (ℕ × ℕ) → ℕ → List (ℕ × ℕ) → List (List (ℕ × ℕ)) → Type 0
AreCharged points curve limit starts [] = ⊥
AreCharged points curve limit starts (unchanged ∷ charged) =
    (unchanged ≡ points) ×
    AllZip (λ start after.
    IsChargeFrom (level_times points) curve limit start.0 (level_times after)) starts charged
