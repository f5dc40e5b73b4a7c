-- Common divisors and common multiples: what the least common multiple is, and laws for the crates above.
use Rattle.std.proofs.Common.{◌≡◌, ◌∙◌, ℕ, zero, suc, ◌*◌, ◌/◌, ◌%◌, ◌<◌, ◌≤◌, ◌↔◌, arith, sym, refl, subst, ap}
use Rattle.std.specs.Int.{IsGcd, ◌∣◌}
use Rattle.std.proofs.Math.Nat.{dvd_refl, dvd-zero, one-dvd, dvd-mul_left, dvd-mul_right, dvd_trans, dvd_of_mul-dvd-mul_left, mul-dvd-mul_left, eq-zero_of_zero-dvd, div-mul_cancel, mul-div_cancel', mul_assoc, mul_comm, mod-lt, mul-pos, div-eq_of_eq-mul_right, mul-div_right, pos_of_dvd_of_pos}
use Rattle.std.proofs.lemmas.Nat.Gcd.{IsGcd-from_mod, IsGcd-from_zero, dvd_antisymm, le_of_dvd}
use Rattle.ev_units.specs.Units.{IsLcm}

-- the greatest common divisor is 0 for two zeros alone
pub gcd_is_zero : (a b g : ℕ) → IsGcd a b g → (g ≡ 0) ↔ ((a ≡ 0) × (b ≡ 0))
gcd_is_zero a b g h = (
  λ none. (eq-zero_of_zero-dvd (subst (λ x. x ∣ a) none h.0), eq-zero_of_zero-dvd (subst (λ x. x ∣ b) none h.1)),
  λ both. eq-zero_of_zero-dvd (h.2 0 (subst (λ x. 0 ∣ x) (sym both.0) (dvd_refl 0)) (subst (λ x. 0 ∣ x) (sym both.1) (dvd_refl 0))),
)

-- two numbers have a greatest common divisor
gcd_exists : (fuel a b : ℕ) → b ≤ fuel → (g : ℕ) × IsGcd a b g
gcd_exists zero a b le = (a, IsGcd-from_zero a b (omega arith))
gcd_exists (suc fuel) a zero le = (a, IsGcd-from_zero a 0 refl)
gcd_exists (suc fuel) a (suc b) le =
    let below : a % suc b < suc b = mod-lt a (omega arith) in
    let found = gcd_exists fuel (suc b) (a % suc b) (omega arith) in
    (found.0, IsGcd-from_mod a (suc b) found.0 found.1)

-- a positive factor cancels
same_cofactor : (k m n : ℕ) → 0 < k → k * m ≡ k * n → m ≡ n
same_cofactor k m n some e = sym (mul-div_right m some) ∙ div-eq_of_eq-mul_right some e

-- where a * b is l * e and a divides l, the cofactor e divides b
dvd_from_multiple : (a b l e : ℕ) → 0 < a → a ∣ l → a * b ≡ l * e → e ∣ b
dvd_from_multiple a b l e some h eq =
    let u = l / a in
    let is : l ≡ a * u = sym (mul-div_cancel' a h) in
    let both : a * b ≡ a * (u * e) = eq ∙ ap (λ x. x * e) is ∙ mul_assoc a u e in
    subst (λ x. e ∣ x) (sym (same_cofactor a b (u * e) some both)) (dvd-mul_left e u)

-- a product regrouped
regroup : (p b g e f a l : ℕ) → g ≡ e * f → p * g ≡ a → a * b ≡ l * e → e * (p * b * f) ≡ e * l
regroup p b g e f a l g_is a_is whole =
    let moved : e * (p * b * f) ≡ p * (e * f) * b = omega arith in
    let back : l * e ≡ e * l = omega arith in
    moved ∙ ap (λ x. p * x * b) (sym g_is) ∙ ap (λ x. x * b) a_is ∙ whole ∙ back

-- Each common multiple n of a and b is a multiple of a / g * b. With l the greatest common divisor of n and
-- a * b, which a and b divide too, the cofactor of l in a * b divides both a and b, and so g.
multiple_of : (a b g n : ℕ) → 0 < a → 0 < b → IsGcd a b g → a ∣ n → b ∣ n → (a / g * b) ∣ n
multiple_of a b g n some_a some_b h an bn =
    let found = gcd_exists (a * b) n (a * b) (omega arith) in
    let l = found.0 in
    let is = found.1 in
    let al : a ∣ l = is.2 a an (dvd-mul_right a b) in
    let bl : b ∣ l = is.2 b bn (dvd-mul_left b a) in
    let e = (a * b) / l in
    let whole : a * b ≡ l * e = sym (mul-div_cancel' l is.1) in
    let turned : b * a ≡ l * e = mul_comm b a ∙ whole in
    let eb : e ∣ b = dvd_from_multiple a b l e some_a al whole in
    let ea : e ∣ a = dvd_from_multiple b a l e some_b bl turned in
    let eg : e ∣ g = h.2 e ea eb in
    let some_e : 0 < e = pos_of_dvd_of_pos eb some_b in
    let f = g / e in
    let g_is : g ≡ e * f = sym (mul-div_cancel' e eg) in
    let a_is : a / g * g ≡ a = div-mul_cancel g h.0 in
    let m = a / g * b in
    let product : e * (m * f) ≡ e * l = regroup (a / g) b g e f a l g_is a_is whole in
    dvd_trans m (subst (λ x. m ∣ x) (same_cofactor e (m * f) l some_e product) (dvd-mul_right m f)) is.0

-- the product over the greatest common divisor, multiplied in another order
product_over : (a b g : ℕ) → IsGcd a b g → a * (b / g) ≡ a / g * b
product_over a b g h =
    let q = b / g in
    let moved : a / g * (g * q) ≡ (a / g * g) * q = omega arith in
    ap (λ x. x * q) (sym (div-mul_cancel g h.0)) ∙ sym moved ∙ ap (λ x. a / g * x) (mul-div_cancel' g h.1)

-- the product over the greatest common divisor is the least common multiple
pub IsLcm-from_IsGcd : (a b g : ℕ) → 0 < a → 0 < b → IsGcd a b g → IsLcm a b (a / g * b)
IsLcm-from_IsGcd a b g some_a some_b h =
    (subst (λ x. a ∣ x) (product_over a b g h) (dvd-mul_right a (b / g)), dvd-mul_left b (a / g), λ n an bn. multiple_of a b g n some_a some_b h an bn)

-- a divisor of a positive number goes into it at least once
pub pos_cofactor : (d n : ℕ) → 0 < n → d ∣ n → 0 < n / d
pos_cofactor d n some h =
    let whole : n / d * d ≡ n = div-mul_cancel d h in
    grind arith

-- there is one least common multiple
pub same_from_IsLcm : (a b m n : ℕ) → IsLcm a b m → IsLcm a b n → m ≡ n
same_from_IsLcm a b m n p q = dvd_antisymm (p.2 n q.0 q.1) (q.2 m p.0 p.1)

-- two positive numbers have a least common multiple
pub lcm_exists : (a b : ℕ) → 0 < a → 0 < b → (m : ℕ) × IsLcm a b m
lcm_exists a b some_a some_b = let found = gcd_exists b a b (omega arith) in (a / found.0 * b, IsLcm-from_IsGcd a b found.0 some_a some_b found.1)

-- it is positive
pub pos_from_IsLcm : (a b m : ℕ) → 0 < a → 0 < b → IsLcm a b m → 0 < m
pos_from_IsLcm a b m some_a some_b h = pos_of_dvd_of_pos (h.2 (a * b) (dvd-mul_right a b) (dvd-mul_left b a)) (mul-pos some_a some_b)

-- and no positive common multiple is smaller
pub le_from_IsLcm : (a b m n : ℕ) → IsLcm a b m → 0 < n → a ∣ n → b ∣ n → m ≤ n
le_from_IsLcm a b m n h some an bn = le_of_dvd some (h.2 n an bn)

-- n * d / b is whole exactly for the multiples d of b / g, the denominator of n / b in lowest terms
pub whole_iff_reduced_divides : (n b g d : ℕ) → 0 < b → IsGcd n b g → (b ∣ d * n) ↔ ((b / g) ∣ d)
whole_iff_reduced_divides zero b g d some h =
    let same : g ≡ b = dvd_antisymm h.1 (h.2 b (dvd-zero b) (dvd_refl b)) in
    let one : b / b ≡ 1 = div-eq_of_eq-mul_right some (omega arith) in
    let none : d * 0 ≡ 0 = omega arith in
    (λ whole. subst (λ x. (b / x) ∣ d) (sym same) (subst (λ x. x ∣ d) (sym one) (one-dvd d)), λ divides. subst (λ x. b ∣ x) (sym none) (dvd-zero b))
whole_iff_reduced_divides (suc n) b g d some h =
    let is = IsLcm-from_IsGcd (suc n) b g (omega arith) some h in
    let lcm : IsLcm (suc n) b (suc n * (b / g)) = subst (IsLcm (suc n) b) (sym (product_over (suc n) b g h)) is in (
      λ whole. dvd_of_mul-dvd-mul_left (b / g) (omega arith) (subst (λ x. (suc n * (b / g)) ∣ x) (mul_comm d (suc n)) (lcm.2 (d * suc n) (dvd-mul_left (suc n) d) whole)),
      λ divides. dvd_trans b lcm.1 (subst (λ x. (suc n * (b / g)) ∣ x) (mul_comm (suc n) d) (mul-dvd-mul_left (b / g) (suc n) divides)),
    )
