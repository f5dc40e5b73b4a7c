-- Fractions in lowest terms.
use Rattle.std.specs.Prelude.{◌≡◌, ℕ, ℤ, pos, ◌*◌, ◌*ℤ◌, ◌≤◌, ◌++◌, List, codes, decimal, unsigned_abs}
use Rattle.std.specs.Fmt.{signed_decimal}
use Rattle.std.specs.Int.{IsGcd}

-- the fraction of a whole number and a positive one, of which both are divided by their greatest common divisor
pub record IsReduced (whole : ℤ) (part : ℕ) (p : ℤ) (q : ℕ) : Type 0 where
  pub divisor : ℕ
  pub greatest : IsGcd (unsigned_abs whole) part divisor
  pub above : whole ≡ p *ℤ pos divisor
  pub below : part ≡ q * divisor

-- a fraction is in lowest terms
abbrev pub IsLowest : ℤ → ℕ → Type 0
IsLowest p q = (1 ≤ q) × IsGcd (unsigned_abs p) q 1

abbrev pub fraction_text : ℤ → ℕ → List ℕ
fraction_text p q = signed_decimal p ++ codes "/" ++ decimal q
