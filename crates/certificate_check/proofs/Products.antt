-- Products in two parts.
use Rattle.std.proofs.Common.{◌≡◌, ℕ, ◌+◌, ◌*◌, ◌/◌, ◌%◌, ◌^◌, ◌<◌, ◌≤◌, ap, arith}
use Rattle.std.proofs.Math.Nat.{mul-le-mul}

-- the product of the two parts of a number
pub in_parts : (a b h r low : ℕ) → a ≡ h * 2 ^ 64 + r → low ≡ r * b → (h * b + low / 2 ^ 64) * 2 ^ 64 + low % 2 ^ 64 ≡ a * b
in_parts a b h r low is low_is =
    let whole : low / 2 ^ 64 * 2 ^ 64 + low % 2 ^ 64 ≡ low = omega arith in
    let product : a * b ≡ (h * 2 ^ 64 + r) * b = ap (λ x. x * b) is in
    omega (arith, whole, product, low_is)

-- the parts are told by the whole
pub same_parts : (h r k t : ℕ) → r < 2 ^ 64 → t < 2 ^ 64 → h * 2 ^ 64 + r ≡ k * 2 ^ 64 + t → (h ≡ k) × (r ≡ t)
same_parts h r k t small_r small_t same = (omega (arith, small_r, small_t, same), omega (arith, small_r, small_t, same))

-- sizes of products
pub small_product : (a b m n : ℕ) → a ≤ m → b ≤ n → a * b ≤ m * n
small_product a b m n first second = mul-le-mul first second
