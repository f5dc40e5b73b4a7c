-- The searches for the first broken place, at their end.
use Rattle.std.proofs.Common.{◌≡◌, ℕ, ◌+◌, ◌≤◌, List, [], ◌∷◌, length, length-drop, drop, refl, None, arith}
use Rattle.charge_curve.specs.Faults.{first_fall, first_faster}

short_has_no_fall : (n : ℕ) (points : List (ℕ × ℕ)) → length points ≤ 1 → first_fall n points ≡ None
short_has_no_fall n [] le = refl
short_has_no_fall n (p ∷ []) le = refl
short_has_no_fall n (p ∷ q ∷ ps) le = absurd (omega (arith, le))

pub first_fall-end : (points : List (ℕ × ℕ)) (n index : ℕ) → length points ≤ index + 1 → first_fall n (drop index points) ≡ None
first_fall-end points n index le = short_has_no_fall n (drop index points) (omega (arith, length-drop index points, le))

short_has_no_faster : (n : ℕ) (points : List (ℕ × ℕ)) → length points ≤ 2 → first_faster n points ≡ None
short_has_no_faster n [] le = refl
short_has_no_faster n (p ∷ []) le = refl
short_has_no_faster n (p ∷ q ∷ []) le = refl
short_has_no_faster n (p ∷ q ∷ r ∷ ps) le = absurd (omega (arith, le))

pub first_faster-end : (points : List (ℕ × ℕ)) (n index : ℕ) → length points ≤ index + 2 → first_faster n (drop index points) ≡ None
first_faster-end points n index le = short_has_no_faster n (drop index points) (omega (arith, length-drop index points, le))
