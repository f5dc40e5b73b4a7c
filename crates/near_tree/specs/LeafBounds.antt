-- Whether a sum over a weight, rounded up, is at least a bound.
use Rattle.std.specs.Prelude.{◌≡◌, ℕ, ◌*◌, ℤ, pos, ◌+ℤ◌, ◌<ℤ◌, Option, None, Some}

abbrev pub IsBoundedBy : Option ℕ → ℕ → ℤ → Type 0
IsBoundedBy None weight sum = (weight ≡ 0) × (pos 0 <ℤ sum)
IsBoundedBy (Some bound) weight sum = pos (bound * weight) <ℤ (sum +ℤ pos weight)
