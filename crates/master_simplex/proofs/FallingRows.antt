-- A row of bounded fractions that falls in the lexicographic order has a number that falls.
use Rattle.std.proofs.Common.{◌≡◌, ◌∙◌, ℕ, ◌+◌, ◌*◌, ◌/◌, ◌^◌, ◌<◌, ◌≤◌, arith, ap, subst, ℤ, pos, ◌+ℤ◌, ◌-ℤ◌, ◌*ℤ◌, ◌<ℤ◌, List, [], ◌∷◌, length, unsigned_abs, inl, inr, div-mul-le_self, le-div_iff_mul-le, mul-le-mul_right, mul-le-mul_left, le_antisymm, mul-le-mul, pow-suc, le_of_mul-le-mul_right}
use Rattle.std.proofs.Math.Nat.{pow-zero}
use Rattle.std.proofs.lemmas.Int.{ints}
use Rattle.fleet_model.proofs.Ring.{*ℤ-+ℤ}
use Rattle.fleet_model.specs.Equations.{combined}
use Rattle.master_simplex.specs.Falling.{IsLexPositive, rank, height, AreWithin}

-- ---- quotients of naturals
-- a / v ≤ b / w where a * w ≤ b * v
quotient_le : (a b v w : ℕ) → 0 < v → 0 < w → a * w ≤ b * v → a / v ≤ b / w
quotient_le a b v w pv pw h =
    let q = a / v in
    let below : q * v ≤ a = div-mul-le_self a v in
    let more : q * v * w ≤ a * w = mul-le-mul_right w below in
    let same : q * w * v ≡ q * v * w = omega arith in
    let all : q * w * v ≤ b * v = omega arith in
    let fits : q * w ≤ b = le_of_mul-le-mul_right all pv in
    (le-div_iff_mul-le pw).1 fits

quotient_lt : (k m n v w : ℕ) → 0 < v → 0 < w → v * w ≤ k → v * m + 1 ≤ w * n → k * m / w < k * n / v
quotient_lt k m n v w pv pw room h =
    let q = k * m / w in
    let below : q * w ≤ k * m = div-mul-le_self (k * m) w in
    let more : q * w * v ≤ k * m * v = mul-le-mul_right v below in
    let top : k * (v * m + 1) ≤ k * (w * n) = mul-le-mul_left k h in
    let all : (q + 1) * v * w ≤ k * n * w = omega arith in
    let fits : (q + 1) * v ≤ k * n = le_of_mul-le-mul_right all pw in
    let result : k * m / w + 1 ≤ k * n / v = (le-div_iff_mul-le pv).1 fits in
    omega arith

-- ---- ranks
abbrev shifted : ℕ → ℕ → ℤ → ℕ
shifted c v x = unsigned_abs (x +ℤ pos (c * v))

shifted_is : (c v : ℕ) (x : ℤ) → 0 < v → unsigned_abs x ≤ c → pos (shifted c v x) ≡ x +ℤ pos (c * v)
shifted_is c v x pv h =
    let room : c * 1 ≤ c * v = mul-le-mul_left c pv in
    omega (arith, ints)

-- v * (y shifted by w) beside w * (x shifted by v)
crossed : (c v w : ℕ) (x y : ℤ) → 0 < v → 0 < w → unsigned_abs x ≤ c → unsigned_abs y ≤ c
    → pos (w * shifted c v x) -ℤ pos (v * shifted c w y) ≡ pos w *ℤ x -ℤ pos v *ℤ y
crossed c v w x y pv pw hx hy =
    let a = shifted_is c v x pv hx in
    let b = shifted_is c w y pw hy in
    let left : pos w *ℤ pos (shifted c v x) ≡ pos w *ℤ x +ℤ pos w *ℤ pos (c * v) = ap (λ z. pos w *ℤ z) a ∙ *ℤ-+ℤ (pos w) x (pos (c * v)) in
    let right : pos v *ℤ pos (shifted c w y) ≡ pos v *ℤ y +ℤ pos v *ℤ pos (c * w) = ap (λ z. pos v *ℤ z) b ∙ *ℤ-+ℤ (pos v) y (pos (c * w)) in
    omega (arith, ints)

pub rank_same : (c v w : ℕ) (x y : ℤ) → 0 < v → 0 < w → unsigned_abs x ≤ c → unsigned_abs y ≤ c → pos w *ℤ x -ℤ pos v *ℤ y ≡ pos 0 → rank c w y ≡ rank c v x
rank_same c v w x y pv pw hx hy e =
    let k = crossed c v w x y pv pw hx hy in
    let same : v * shifted c w y ≡ w * shifted c v x = omega (arith, ints) in
    let scaled : c * c * (v * shifted c w y) ≡ c * c * (w * shifted c v x) = ap (λ m. c * c * m) same in
    le_antisymm (quotient_le (c * c * shifted c w y) (c * c * shifted c v x) w v pw pv (omega arith)) (quotient_le (c * c * shifted c v x) (c * c * shifted c w y) v w pv pw (omega arith))

rank_less : (c v w : ℕ) (x y : ℤ) → 0 < v → 0 < w → v ≤ c → w ≤ c → unsigned_abs x ≤ c → unsigned_abs y ≤ c → pos 0 <ℤ (pos w *ℤ x -ℤ pos v *ℤ y) → rank c w y < rank c v x
rank_less c v w x y pv pw lv lw hx hy h =
    let k = crossed c v w x y pv pw hx hy in
    let less : v * shifted c w y + 1 ≤ w * shifted c v x = omega (arith, ints) in
    quotient_lt (c * c) (shifted c w y) (shifted c v x) v w pv pw (mul-le-mul lv lw) less

rank_below : (c v : ℕ) (x : ℤ) → 0 < v → unsigned_abs x ≤ c → rank c v x < 2 * c * c * c + 1
rank_below c v x pv h =
    let s = shifted_is c v x pv h in
    let room : c * 1 ≤ c * v = mul-le-mul_left c pv in
    let small : shifted c v x ≤ 2 * c * v = omega (arith, ints) in
    let scaled : c * c * shifted c v x ≤ c * c * (2 * c * v) = mul-le-mul_left (c * c) small in
    let fits : c * c * shifted c v x ≤ 2 * c * c * c * v = omega arith in
    let q = div-mul-le_self (c * c * shifted c v x) v in
    let all : rank c v x * v ≤ 2 * c * c * c * v = omega arith in
    let result : rank c v x ≤ 2 * c * c * c = le_of_mul-le-mul_right all pv in
    omega arith

-- ---- rows
pub height_below : (c v : ℕ) (xs : List ℤ) → 0 < v → AreWithin c xs → height c v xs < (2 * c * c * c + 1) ^ length xs
unfolding height
height_below c v [] pv h = rw pow-zero (omega arith)
height_below c v (x ∷ xs) pv h =
    let p = (2 * c * c * c + 1) ^ length xs in
    let r = rank_below c v x pv h.0 in
    let rest = height_below c v xs pv h.1 in
    let more : (rank c v x + 1) * p ≤ (2 * c * c * c + 1) * p = mul-le-mul_right p (let l : rank c v x + 1 ≤ 2 * c * c * c + 1 = omega arith in l) in
    rw pow-suc (omega arith)

-- a row that falls in the lexicographic order has a lesser height
pub height_falls : (c v w : ℕ) (xs ys : List ℤ) → 0 < v → 0 < w → v ≤ c → w ≤ c → length xs ≡ length ys → AreWithin c xs → AreWithin c ys
    → IsLexPositive (combined (pos w) (pos v) xs ys) → height c w ys < height c v xs
unfolding height
height_falls c v w [] ys pv pw lv lw e hx hy h = absurd h
height_falls c v w (x ∷ xs) [] pv pw lv lw e hx hy h = absurd h
height_falls c v w (x ∷ xs) (y ∷ ys) pv pw lv lw e hx hy (inl above) =
    let p = (2 * c * c * c + 1) ^ length xs in
    let same : (2 * c * c * c + 1) ^ length ys ≡ p = ap (λ n. (2 * c * c * c + 1) ^ n) (omega arith) in
    let first = rank_less c v w x y pv pw lv lw hx.0 hy.0 above in
    let less : rank c w y + 1 ≤ rank c v x = omega arith in
    let more : (rank c w y + 1) * p ≤ rank c v x * p = mul-le-mul_right p less in
    let rest : height c w ys < p = subst (λ n. height c w ys < n) same (height_below c w ys pw hy.1) in
    rw same (omega arith)
height_falls c v w (x ∷ xs) (y ∷ ys) pv pw lv lw e hx hy (inr (zero_here, later)) =
    let same : (2 * c * c * c + 1) ^ length ys ≡ (2 * c * c * c + 1) ^ length xs = ap (λ n. (2 * c * c * c + 1) ^ n) (omega arith) in
    let head = rank_same c v w x y pv pw hx.0 hy.0 zero_here in
    let rest = height_falls c v w xs ys pv pw lv lw (omega arith) hx.1 hy.1 later in
    rw (same, head) (omega arith)
