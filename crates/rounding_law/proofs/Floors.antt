-- Sums of rounded levels.
use Rattle.std.proofs.Common.{◌≡◌, ◌∙◌, ℕ, zero, suc, ◌+◌, ◌-◌, ◌*◌, ◌/◌, ◌%◌, ◌<◌, ◌≤◌, arith, sym, ap, ◌⊎◌, inl, inr, subst}
use Rattle.std.proofs.Math.Nat.{mul-add-div, mul-add-div_right, div-eq_of_lt, add-div_left, div-add-mod', div-mul-le_self, mod-lt}
use Rattle.std.proofs.lemmas.Bool.{cases_lt}
use Rattle.std.proofs.lemmas.Nat.{le-div}
use Rattle.rounding_law.specs.Rounding.{whole_level}
use Rattle.rounding_law.specs.Sums.{sum_below}

-- order stays
pub whole_level-rises : (k j x y : ℕ) → 0 < k → x ≤ y → whole_level k j x ≤ whole_level k j y
whole_level-rises k j x y some le = le-div ((x + j) / k) (y + j) k some (omega (arith, le, div-mul-le_self (x + j) k))

-- whole units stay
pub whole_level-shift : (k j e x : ℕ) → 0 < k → whole_level k j (k * e + x) ≡ e + whole_level k j x
whole_level-shift k j e x some =
    let moved : k * e + x + j ≡ k * e + (x + j) = omega arith in
    ap (λ z. z / k) moved ∙ mul-add-div some e (x + j)

pub whole_level-whole : (k j e : ℕ) → 0 < k → j < k → whole_level k j (k * e) ≡ e
whole_level-whole k j e some lt =
    let none : j / k ≡ 0 = div-eq_of_lt lt in
    mul-add-div some e j ∙ omega (arith, none)

-- the whole part, where the offset does not reach the next unit
low : (m r n k : ℕ) → 0 < k → r + n < k → (m * k + r + n) / k ≡ m
low m r n k some small =
    let moved : m * k + r + n ≡ m * k + (r + n) = omega arith in
    let zero_part : (r + n) / k ≡ 0 = div-eq_of_lt small in
    ap (λ x. x / k) moved ∙ mul-add-div_right some m (r + n) ∙ omega arith

-- one unit more, where it does
high : (m r n k : ℕ) → 0 < k → k ≤ r + n → r < k → n < k → (m * k + r + n) / k ≡ m + 1
high m r n k some large rk nk =
    let rest = r + n - k in
    let moved : m * k + r + n ≡ m * k + (k + rest) = omega arith in
    let small : rest / k ≡ 0 = div-eq_of_lt (omega arith) in
    let one_part : (k + rest) / k ≡ rest / k + 1 = add-div_left rest some in
    ap (λ x. x / k) moved ∙ mul-add-div_right some m (k + rest) ∙ omega arith

-- the first n terms
partial : (f : ℕ → ℕ) (m r k : ℕ) → 0 < k → r < k → f m ≤ f (m + 1) → (n : ℕ) → n ≤ k →
    sum_below (λ j. f ((m * k + r + j) / k)) n ≡ n * f m + (n + r - k) * (f (m + 1) - f m)
partial f m r k some rk up zero le =
    let none : 0 + r - k ≡ 0 = omega arith in
    sym (ap (λ x. 0 * f m + x * (f (m + 1) - f m)) none ∙ omega arith)
partial f m r k some rk up (suc n) le =
    let before = partial f m r k some rk up n (omega arith) in
    let step : (r + n < k) ⊎ (k ≤ r + n) → sum_below (λ j. f ((m * k + r + j) / k)) (suc n) ≡ suc n * f m + (suc n + r - k) * (f (m + 1) - f m) = λ c. elim c [
      | inl small ↦
          let value : f ((m * k + r + n) / k) ≡ f m = ap f (low m r n k some small) in
          let same : suc n + r - k ≡ n + r - k = omega arith in
          rw (before, value, same) (omega arith)
      | inr large ↦
          let value : f ((m * k + r + n) / k) ≡ f (m + 1) = ap f (high m r n k some large rk (omega arith)) in
          let more : suc n + r - k ≡ suc (n + r - k) = omega arith in
          rw (before, value, more) (omega arith)
    ] in
    step (cases_lt (r + n) k)

-- the values at the whole levels add up to k times the value between two whole levels
pub values_add_up : (f : ℕ → ℕ) (k z : ℕ) → 0 < k → f (z / k) ≤ f (z / k + 1) →
    sum_below (λ j. f (whole_level k j z)) k ≡ k * f (z / k) + z % k * (f (z / k + 1) - f (z / k))
values_add_up f k z some up =
    let all = partial f (z / k) (z % k) k some (mod-lt z some) up k (omega arith) in
    let whole : z / k * k + z % k ≡ z = div-add-mod' z k in
    let last : k + z % k - k ≡ z % k = omega arith in
    subst (λ x. sum_below (λ j. f ((x + j) / k)) k ≡ k * f (z / k) + z % k * (f (z / k + 1) - f (z / k))) whole
    (all ∙ ap (λ x. k * f (z / k) + x * (f (z / k + 1) - f (z / k))) last)

-- the whole levels add up to the level
pub levels_add_up : (k z : ℕ) → 0 < k → sum_below (λ j. whole_level k j z) k ≡ z
levels_add_up k z some =
    let one : z / k + 1 - z / k ≡ 1 = omega arith in
    let whole : z / k * k + z % k ≡ z = div-add-mod' z k in
    values_add_up (λ x. x) k z some (omega arith) ∙ ap (λ x. k * (z / k) + z % k * x) one ∙ omega (arith, whole)
