-- Common divisors, of integers and of lists of them.
use Rattle.std.proofs.Common.{◌≡◌, ℕ, zero, suc, ◌/◌, ◌%◌, ◌<◌, ◌≤◌, arith, refl, sym, subst, mod-lt, ℤ, pos, negsuc, ◌+ℤ◌, ◌-ℤ◌, ◌*ℤ◌, neg_ℤ, unsigned_abs}
use Rattle.std.specs.Int.{IsGcd, ◌∣◌}
use Rattle.std.proofs.lemmas.Int.{ints, unsigned_abs-mul}
use Rattle.std.proofs.lemmas.Nat.Gcd.{IsGcd-from_mod, IsGcd-from_zero}
use Rattle.std.proofs.Math.Nat.{mul-div_cancel', dvd-mul_left}
use Rattle.fleet_model.proofs.Ring.{+ℤ-*ℤ, -ℤ-*ℤ, *ℤ_assoc, neg_ℤ-*ℤ}

-- two numbers have a greatest common divisor
pub gcd_exists : (fuel a b : ℕ) → b ≤ fuel → (g : ℕ) × IsGcd a b g
gcd_exists zero a b le = (a, IsGcd-from_zero a b (omega arith))
gcd_exists (suc fuel) a zero le = (a, IsGcd-from_zero a 0 refl)
gcd_exists (suc fuel) a (suc b) le =
    let below : a % suc b < suc b = mod-lt a (omega arith) in
    let found = gcd_exists fuel (suc b) (a % suc b) (omega arith) in
    (found.0, IsGcd-from_mod a (suc b) found.0 found.1)

-- ---- one integer
-- the quotient by a divisor, and back
abbrev pub over : ℤ → ℕ → ℤ
over (pos n) d = pos (n / d)
over (negsuc n) d = neg_ℤ (pos (suc n / d))

pub over_whole : (z : ℤ) (d : ℕ) → d ∣ unsigned_abs z → over z d *ℤ pos d ≡ z
over_whole (pos n) d h = let e = mul-div_cancel' d h in omega (arith, ints)
over_whole (negsuc n) d h =
    let e = mul-div_cancel' d h in
    let f = neg_ℤ-*ℤ (pos (suc n / d)) (pos d) in
    omega (arith, ints)

pub dvd_from_product : (z q : ℤ) (d : ℕ) → q *ℤ pos d ≡ z → d ∣ unsigned_abs z
dvd_from_product z q d e = subst (λ x. d ∣ unsigned_abs x) e (subst (λ n. d ∣ n) (sym (unsigned_abs-mul q (pos d))) (dvd-mul_left d (unsigned_abs q)))

pub dvd-+ℤ : (d : ℕ) (a b : ℤ) → d ∣ unsigned_abs a → d ∣ unsigned_abs b → d ∣ unsigned_abs (a +ℤ b)
dvd-+ℤ d a b p q =
    let e = over_whole a d p in
    let f = over_whole b d q in
    let s = +ℤ-*ℤ (over a d) (over b d) (pos d) in
    dvd_from_product (a +ℤ b) (over a d +ℤ over b d) d cc

pub dvd-*ℤ : (d : ℕ) (k a : ℤ) → d ∣ unsigned_abs a → d ∣ unsigned_abs (k *ℤ a)
dvd-*ℤ d k a p =
    let e = over_whole a d p in
    let s = *ℤ_assoc k (over a d) (pos d) in
    dvd_from_product (k *ℤ a) (k *ℤ over a d) d cc

pub dvd--ℤ : (d : ℕ) (a b : ℤ) → d ∣ unsigned_abs a → d ∣ unsigned_abs b → d ∣ unsigned_abs (a -ℤ b)
dvd--ℤ d a b p q =
    let e = over_whole a d p in
    let f = over_whole b d q in
    let s = -ℤ-*ℤ (over a d) (over b d) (pos d) in
    dvd_from_product (a -ℤ b) (over a d -ℤ over b d) d cc
