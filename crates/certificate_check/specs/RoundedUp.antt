-- A sum over a weight, rounded up.
use Rattle.std.specs.Prelude.{ℕ, ◌*◌, ℤ, pos, ◌+ℤ◌, ◌<ℤ◌, ◌≤ℤ◌}

-- the sum over the weight, rounded up, is the bound
pub record IsRoundedUp (sum : ℤ) (weight bound : ℕ) : Type 0 where
  pub enough : sum ≤ℤ pos (bound * weight)
  pub least : pos (bound * weight) <ℤ (sum +ℤ pos weight)
