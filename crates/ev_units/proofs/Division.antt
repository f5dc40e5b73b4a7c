-- Division of a signed number by a positive one, rounded down and up.
use Rattle.std.proofs.Common.{◌≡◌, ℕ, zero, suc, ◌+◌, ◌*◌, ◌/◌, ◌%◌, ◌<◌, ◌≤◌, arith, refl, ℤ, pos, negsuc, ◌≤ℤ◌, ◌+ℤ◌, ◌*ℤ◌}
use Rattle.std.specs.Int.{int_div_euclid, int_rem_euclid}
use Rattle.std.proofs.Math.IntN.{pos-*ℤ-pos, negsuc-*ℤ-pos, suc_ℤ-*ℤ, suc_ℤ}
use Rattle.std.proofs.Math.Nat.{le-div_iff_mul-le, div-lt_iff_lt-mul, div-mul-le_self, lt-div-mul-add, mul-le-mul_right, div-add-mod', mod-lt}
use Rattle.std.proofs.lemmas.Int.{ints}
use Rattle.ev_units.specs.Units.{IsFloor, IsCeiling}

pos_greatest : (n b : ℕ) → 0 < b → (z : ℤ) → (z *ℤ pos b) ≤ℤ pos n → z ≤ℤ pos (n / b)
pos_greatest n b some (pos m) h =
    let le : m * b ≤ n = omega (arith, ints, rw (pos-*ℤ-pos m b) at h) in
    let fit : m ≤ n / b = (le-div_iff_mul-le some).1 le in
    omega (arith, ints)
pos_greatest n b some (negsuc m) h = omega (arith, ints)

neg_greatest : (n b : ℕ) → 0 < b → (z : ℤ) → (z *ℤ pos b) ≤ℤ negsuc n → z ≤ℤ negsuc (n / b)
neg_greatest n b some (pos m) h =
    let bad : pos (m * b) ≤ℤ negsuc n = rw (pos-*ℤ-pos m b) at h in
    absurd (omega (arith, ints))
neg_greatest n b some (negsuc m) h =
    let le : n < suc m * b = omega (arith, ints, rw (negsuc-*ℤ-pos m b) at h) in
    let fit : n / b < suc m = (div-lt_iff_lt-mul some).1 le in
    omega (arith, ints)

-- the quotient is the greatest number that is not above
pub IsFloor-div_euclid : (a : ℤ) (b : ℕ) → 0 < b → IsFloor a b (int_div_euclid a (pos b))
IsFloor-div_euclid (pos n) b some = record {
  below = rw (pos-*ℤ-pos (n / b) b) (let le : n / b * b ≤ n = div-mul-le_self n b in omega (arith, ints));
  greatest = pos_greatest n b some;
}
IsFloor-div_euclid (negsuc n) b some = record {
  below = (let lt : n < n / b * b + b = lt-div-mul-add some in let same : suc (n / b) * b ≡ n / b * b + b = omega arith in omega (arith, ints));
  greatest = neg_greatest n b some;
}

-- products by a number that is not negative keep the order
times_mono : (y z : ℤ) (b : ℕ) → y ≤ℤ z → (y *ℤ pos b) ≤ℤ (z *ℤ pos b)
times_mono (pos m) (pos n) b h =
    let le : m ≤ n = omega (arith, ints) in
    let product : m * b ≤ n * b = mul-le-mul_right b le in
    rw (pos-*ℤ-pos m b, pos-*ℤ-pos n b) (omega (arith, ints))
times_mono (pos m) (negsuc n) b h = absurd (omega (arith, ints))
times_mono (negsuc m) (pos n) b h = omega (arith, ints)
times_mono (negsuc m) (negsuc n) b h =
    let le : suc n ≤ suc m = omega (arith, ints) in
    let product : suc n * b ≤ suc m * b = mul-le-mul_right b le in
    omega (arith, ints)

-- with a remainder the least number that is not below is one more than the floor
pub IsCeiling-from_floor : (a : ℤ) (b : ℕ) (q : ℤ) → IsFloor a b q → ((q *ℤ pos b ≡ a) → ⊥) → IsCeiling a b (q +ℤ pos 1)
IsCeiling-from_floor a b q floor other =
    let next = floor.greatest (q +ℤ pos 1) in
    record {
      above = grind (arith, ints, next);
      least = λ z h. let mono = times_mono z q b in let below = floor.below in grind (arith, ints);
    }

suc_is : (z : ℤ) → suc_ℤ z ≡ z +ℤ pos 1
suc_is (pos n) = omega (arith, ints)
suc_is (negsuc zero) = refl
suc_is (negsuc (suc n)) = omega (arith, ints)

-- with no remainder it is the floor
pub IsCeiling-from_whole : (a : ℤ) (b : ℕ) (q : ℤ) → 0 < b → q *ℤ pos b ≡ a → IsCeiling a b q
IsCeiling-from_whole a b q some whole = record {
  above = omega (arith, ints);
  least = λ z h.
      let mono = times_mono (suc_ℤ z) q b in
      let product : suc_ℤ z *ℤ pos b ≡ z *ℤ pos b +ℤ pos b = suc_ℤ-*ℤ z (pos b) in
      let is = suc_is z in
      grind (arith, ints);
}

-- quotient and remainder together
pub div_euclid-rem_euclid : (a : ℤ) (b : ℕ) → 0 < b → (int_div_euclid a (pos b) *ℤ pos b) +ℤ int_rem_euclid a (pos b) ≡ a
div_euclid-rem_euclid (pos n) b some =
    let whole : n / b * b + n % b ≡ n = div-add-mod' n b in
    omega (arith, ints)
div_euclid-rem_euclid (negsuc n) b some =
    let whole : n / b * b + n % b ≡ n = div-add-mod' n b in
    let small : n % b < b = mod-lt n some in
    let same : suc (n / b) * b ≡ n / b * b + b = omega arith in
    omega (arith, ints)

-- there is one floor
pub same_from_IsFloor : (a : ℤ) (b : ℕ) (p q : ℤ) → IsFloor a b p → IsFloor a b q → p ≡ q
same_from_IsFloor a b p q one two =
    let up : p ≤ℤ q = two.greatest p one.below in
    let down : q ≤ℤ p = one.greatest q two.below in
    omega (arith, ints)

-- and one ceiling
pub same_from_IsCeiling : (a : ℤ) (b : ℕ) (p q : ℤ) → IsCeiling a b p → IsCeiling a b q → p ≡ q
same_from_IsCeiling a b p q one two =
    let up : p ≤ℤ q = one.least q two.above in
    let down : q ≤ℤ p = two.least p one.above in
    omega (arith, ints)

-- a floor's remainder is smaller than the divisor
pub next-above_floor : (a : ℤ) (b : ℕ) (q : ℤ) → IsFloor a b q → ((q +ℤ pos 1) *ℤ pos b) ≤ℤ a → ⊥
next-above_floor a b q floor h = let le : (q +ℤ pos 1) ≤ℤ q = floor.greatest _ h in omega (arith, ints)
