-- Sizes of products.
use Rattle.std.proofs.Common.{◌≡◌, ℕ, ◌*◌, ◌≤◌, ℤ, ◌*ℤ◌}
use Rattle.std.proofs.lemmas.Int.{unsigned_abs-mul}
use Rattle.std.proofs.Math.Nat.{mul-le-mul}
use Rattle.std.specs.Prelude.{unsigned_abs}

-- a product is no greater in size than the product of bounds on the factors
pub small_product : (a b z : ℤ) (m n : ℕ) → z ≡ a *ℤ b → unsigned_abs a ≤ m → unsigned_abs b ≤ n → unsigned_abs z ≤ m * n
small_product a b z m n e p q = rw (e, unsigned_abs-mul a b) (mul-le-mul p q)
