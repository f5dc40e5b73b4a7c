-- Common divisors of lists of integers.
use Rattle.std.specs.Prelude.{ℕ, zero, suc, ◌%◌, ℤ, List, [], ◌∷◌, unsigned_abs}
use Rattle.std.specs.Int.{◌∣◌}

-- d divides each number of the list
abbrev pub DividesAll : ℕ → List ℤ → Type 0
DividesAll d [] = Unit {0}
DividesAll d (z ∷ zs) = (d ∣ unsigned_abs z) × DividesAll d zs

-- the common divisors of the list are the divisors of g
pub record IsGcdOf (zs : List ℤ) (g : ℕ) : Type 0 where
  pub divides : DividesAll g zs
  pub greatest : (d : ℕ) → DividesAll d zs → d ∣ g

-- the greatest common divisor by Euclid's steps, at most as many as `fuel`, for b up to `fuel`
unfoldable pub gcd_by : ℕ → ℕ → ℕ → ℕ
gcd_by zero a b = a
gcd_by (suc fuel) a zero = a
gcd_by (suc fuel) a (suc b) = gcd_by fuel (suc b) (a % suc b)

-- the greatest common divisor of a list
unfoldable pub gcd_of : List ℤ → ℕ
gcd_of [] = 0
gcd_of (z ∷ zs) = gcd_by (gcd_of zs) (unsigned_abs z) (gcd_of zs)
