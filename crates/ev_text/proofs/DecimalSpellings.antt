-- Each number below 10 ^ 64 has one spelling in decimal digits, which is std's `decimal`.
use Rattle.std.proofs.Common.{◌≡◌, ◌∙◌, ℕ, zero, suc, ◌+◌, ◌*◌, ◌/◌, ◌%◌, ◌^◌, ◌<◌, true, List, [], ◌∷◌, ◌++◌, drop, arith, refl, sym, ap, subst, decimal, append_assoc, ℤ, pos, negsuc, FitsSigned}
use Rattle.std.specs.Char.{digit_value}
use Rattle.std.specs.Fmt.{signed_decimal}
use Rattle.std.specs.Int.{w128}
use Rattle.std.specs.Str.Parse.{AllDigits, digits_value, digits_value_after}
use Rattle.std.proofs.lemmas.Bool.Decides.{nat_tests}
use Rattle.std.proofs.lemmas.List.{append-nil}
use Rattle.std.proofs.lemmas.Fmt.{decimal_is_IsNumeral_wide, decimal_by_steps_wide, decimal_step_wide, decimal_digit}
use Rattle.std.proofs.lemmas.Str.Parse.{digit_from_value}
use Rattle.std.proofs.lemmas.Str.{digit_value_digit}
use Rattle.ev_text.specs.Numerals.{is_canonical, IsSpelling}
use Rattle.ev_text.proofs.DigitRuns.{le_digits_value_after}

-- the first byte is there, and is no `0`
abbrev BeginsAboveZero : List ℕ → Type 0
BeginsAboveZero [] = ⊥
BeginsAboveZero (d ∷ ds) = d ≡ 48 → ⊥

begins_above_zero-append : (ds more : List ℕ) → BeginsAboveZero ds → BeginsAboveZero (ds ++ more)
begins_above_zero-append [] more h = absurd h
begins_above_zero-append (d ∷ ds) more h = h

canonical_from_first : (ds : List ℕ) → BeginsAboveZero ds → is_canonical ds ≡ true
canonical_from_first [] h = absurd h
canonical_from_first (d ∷ []) h = refl
canonical_from_first (d ∷ e ∷ ds) h = grind (arith, nat_tests)

decimal_begins_above_zero : (n : ℕ) → n < 10 ^ 64 → 0 < n → BeginsAboveZero (decimal n)
decimal_begins_above_zero n small = decimal_by_steps_wide (λ m ds. 0 < m → BeginsAboveZero ds)
    (λ m one some zero_digit. omega arith)
    (λ m ds ten before some. begins_above_zero-append ds _ (before (omega arith)))
    n small

pub is_canonical-decimal : (n : ℕ) → n < 10 ^ 64 → is_canonical (decimal n) ≡ true
is_canonical-decimal zero small = ap is_canonical (decimal_digit 0 (omega arith))
is_canonical-decimal (suc n) small = canonical_from_first _ (decimal_begins_above_zero (suc n) small (omega arith))

-- what std writes is a spelling
pub IsSpelling-decimal : (n : ℕ) → n < 10 ^ 64 → IsSpelling n (decimal n)
IsSpelling-decimal n small = let numeral = decimal_is_IsNumeral_wide n small in
    record { digits = numeral.0; canonical = is_canonical-decimal n small; value = numeral.1 }

-- digits behind those of a positive number are those of the number that they write together
decimal-digits_value_after : (n : ℕ) (ds : List ℕ) → 0 < n → AllDigits 10 ds → digits_value_after 10 n ds < 10 ^ 64 → decimal (digits_value_after 10 n ds) ≡ decimal n ++ ds
decimal-digits_value_after n [] some all small = sym (append-nil (decimal n))
decimal-digits_value_after n (d ∷ ds) some all small =
    let m : ℕ = n * 10 + digit_value d in
    let code = digit_value_digit d (digit_from_value d all.0) in
    let front : m / 10 ≡ n = omega (arith, all.0) in
    let last : 48 + m % 10 ≡ d = omega (arith, all.0) in
    decimal-digits_value_after m ds (omega arith) all.1 small
    ∙ ap (λ x. x ++ ds) (decimal_step_wide m (omega arith) (omega (arith, le_digits_value_after m ds)) ∙ (λ i. decimal (front i) ++ (last i ∷ [])))
    ∙ append_assoc (decimal n) (d ∷ []) ds

-- canonical digits are what std writes of their value
pub decimal-digits_value : (ds : List ℕ) → AllDigits 10 ds → is_canonical ds ≡ true → digits_value 10 ds < 10 ^ 64 → decimal (digits_value 10 ds) ≡ ds
decimal-digits_value [] all canonical small = absurd (cc)
decimal-digits_value (d ∷ []) all canonical small =
    let code = digit_value_digit d (digit_from_value d all.0) in
    decimal_digit (0 * 10 + digit_value d) (omega (arith, all.0)) ∙ ap (λ x. x ∷ []) (omega arith)
decimal-digits_value (d ∷ e ∷ ds) all canonical small =
    let code = digit_value_digit d (digit_from_value d all.0) in
    let above : d ≡ 48 → ⊥ = λ zero_digit. grind (arith, nat_tests) in
    let is : 48 + (0 * 10 + digit_value d) ≡ d = omega arith in
    decimal-digits_value_after (0 * 10 + digit_value d) (e ∷ ds) (omega arith) all.1 small
    ∙ ap (λ x. x ++ (e ∷ ds)) (decimal_digit (0 * 10 + digit_value d) (omega (arith, all.0)) ∙ ap (λ x. x ∷ []) is)

-- and no other text is a spelling
pub same_from_IsSpelling : (n : ℕ) (text : List ℕ) → n < 10 ^ 64 → IsSpelling n text → text ≡ decimal n
same_from_IsSpelling n text small is = sym (decimal-digits_value text is.digits.1 is.canonical (omega (arith, is.value))) ∙ ap decimal is.value

pub decimal_injective : (m n : ℕ) → m < 10 ^ 64 → n < 10 ^ 64 → decimal m ≡ decimal n → m ≡ n
decimal_injective m n p q e = sym (decimal_is_IsNumeral_wide m p).1 ∙ ap (digits_value 10) e ∙ (decimal_is_IsNumeral_wide n q).1

-- digits never begin with `-`
decimal-ne_minus : (n : ℕ) (more : List ℕ) → n < 10 ^ 64 → decimal n ≡ 45 ∷ more → ⊥
decimal-ne_minus n more small e = omega (arith, digit_from_value 45 (subst (AllDigits 10) e (decimal_is_IsNumeral_wide n small).0.1).0)

-- signed numbers of at most 127 bits beside the sign have one spelling each
pub signed_decimal_injective : (y z : ℤ) → FitsSigned w128 y → FitsSigned w128 z → signed_decimal y ≡ signed_decimal z → y ≡ z
signed_decimal_injective (pos m) (pos n) p q e = ap pos (decimal_injective m n (omega (arith, p.sfits)) (omega (arith, q.sfits)) e)
signed_decimal_injective (pos m) (negsuc n) p q e = absurd (decimal-ne_minus m _ (omega (arith, p.sfits)) e)
signed_decimal_injective (negsuc m) (pos n) p q e = absurd (decimal-ne_minus n _ (omega (arith, q.sfits)) (sym e))
signed_decimal_injective (negsuc m) (negsuc n) p q e = ap negsuc (omega (arith, decimal_injective (suc m) (suc n) (omega (arith, p.sfits)) (omega (arith, q.sfits)) (ap (drop 1) e)))
