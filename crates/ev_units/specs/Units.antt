-- Common multiples, and quotients of signed numbers rounded down and up.
use Rattle.std.specs.Prelude.{ℕ, ◌<◌, ℤ, pos, ◌*ℤ◌, ◌≤ℤ◌}
use Rattle.std.specs.Int.{◌∣◌}

-- m is the least common multiple of a and b: both divide it, and it divides each number that both divide
abbrev pub IsLcm : ℕ → ℕ → ℕ → Type 0
IsLcm a b m = (a ∣ m) × (b ∣ m) × ((n : ℕ) → a ∣ n → b ∣ n → m ∣ n)

-- a and b have a least common multiple, and it is greater than limit
abbrev pub IsLcmPast : ℕ → ℕ → ℕ → Type 0
IsLcmPast limit a b = (m : ℕ) × IsLcm a b m × (limit < m)

-- q is the greatest whole number that is not above a / b, for a positive b
pub record IsFloor (a : ℤ) (b : ℕ) (q : ℤ) : Type 0 where
  pub below : (q *ℤ pos b) ≤ℤ a
  pub greatest : (z : ℤ) → (z *ℤ pos b) ≤ℤ a → z ≤ℤ q

-- q is the least whole number that is not below a / b, for a positive b
pub record IsCeiling (a : ℤ) (b : ℕ) (q : ℤ) : Type 0 where
  pub above : a ≤ℤ (q *ℤ pos b)
  pub least : (z : ℤ) → a ≤ℤ (z *ℤ pos b) → q ≤ℤ z
