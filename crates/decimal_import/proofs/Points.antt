-- Where the point of a literal stands, with its exponent cut to a size.
use Rattle.std.proofs.Common.{◌≡◌, ℕ, ◌+◌, ◌-◌, ◌*◌, ◌^◌, ◌<◌, ◌≤◌, ◌⊎◌, List, ◌++◌, length, take, arith, refl, sym, ap, ◌∙◌, inl, inr, length-append, true, false, if◌then◌else◌, Option, Some, None}
use Rattle.std.proofs.Math.Nat.{mul-le-mul, pow-le-pow_right}
use Rattle.std.proofs.lemmas.List.{take_all}
use Rattle.std.proofs.lemmas.List.Folds.{list_all-append}
use Rattle.std.proofs.lemmas.Bool.{cases_lt, and_from}
use Rattle.std.specs.List.{list_all}
use Rattle.decimal_import.specs.Digits.{number_of, is_digit}
use Rattle.decimal_import.specs.Literal.{Literal, Exponent}
use Rattle.decimal_import.specs.Rounding.{coefficient, is_minus, positive_exponent, negative_exponent, tens_over, tens_under, over, under, least_whole, rounded_at, capped_point}
use Rattle.decimal_import.proofs.Ceilings.{IsCeiling-unique, IsCeiling-ceiling, rounded_at-IsCeiling, pow_pos}

-- an exponent has one sign
one_sign : (e : Option Exponent) → (positive_exponent e ≡ 0) ⊎ (negative_exponent e ≡ 0)
one_sign None = inl refl
one_sign (Some e) = elim (is_minus e.sign) as (λ b. ((if b then 0 else number_of e.digits) ≡ 0) ⊎ ((if b then number_of e.digits else 0) ≡ 0)) [ true ↦ inl refl | false ↦ inr refl ]

-- many zeros lead past the limit
rounded_at-past : (p : ℕ) (ds : List ℕ) → length ds + 19 ≤ p → 0 < number_of ds → 10 ^ 18 < rounded_at p ds
rounded_at-past p ds far some =
    let all : take p ds ≡ ds = take_all p ds (omega arith) in
    let zeros : 10 ^ 19 ≤ 10 ^ (p - length ds) = let zeros_left : 19 ≤ p - length ds = omega arith in pow-le-pow_right (omega arith) zeros_left in
    let past : 1 * 10 ^ 19 ≤ number_of ds * 10 ^ (p - length ds) = mul-le-mul some zeros in
    rw all (omega arith)

-- rounded up at its point, a literal is its least whole number
pub least_whole-rounded_at : (digits p : ℕ) (l : Literal) → list_all is_digit l.whole ≡ true → list_all is_digit l.fraction ≡ true → p ≡ length l.whole + digits + positive_exponent l.exponent - negative_exponent l.exponent → least_whole digits l ≡ rounded_at p (l.whole ++ l.fraction)
unfolding over under
least_whole-rounded_at digits p l whole fraction place =
    let all : list_all is_digit (l.whole ++ l.fraction) ≡ true = list_all-append is_digit l.whole l.fraction ∙ and_from (list_all is_digit l.whole) (list_all is_digit l.fraction) whole fraction in
    let at : p ≡ tens_over digits l + length (l.whole ++ l.fraction) - tens_under l = rw length-append (omega arith) in
    IsCeiling-unique _ _ _ _ (IsCeiling-ceiling (over digits l) (under l) (pow_pos (tens_under l))) (rounded_at-IsCeiling (l.whole ++ l.fraction) (tens_over digits l) (tens_under l) p at all)

-- a cut exponent gives the same number, or both are past the limit
pub capped : (cap digits : ℕ) (l : Literal) → length l.whole + length l.fraction + 19 ≤ cap → length l.whole + digits ≤ cap → 0 < coefficient l → (capped_point cap digits l ≡ length l.whole + digits + positive_exponent l.exponent - negative_exponent l.exponent) ⊎ ((10 ^ 18 < rounded_at (capped_point cap digits l) (l.whole ++ l.fraction)) × (10 ^ 18 < rounded_at (length l.whole + digits + positive_exponent l.exponent - negative_exponent l.exponent) (l.whole ++ l.fraction)))
capped cap digits l long places some = elim (one_sign l.exponent) [
  | inl none ↦ inl (omega arith)
  | inr none ↦ elim (cases_lt cap (positive_exponent l.exponent)) [
    | inl past ↦
        let ds : List ℕ = l.whole ++ l.fraction in
        let count : length (l.whole ++ l.fraction) ≡ length l.whole + length l.fraction = length-append l.whole l.fraction in
        inr (rounded_at-past (capped_point cap digits l) (l.whole ++ l.fraction) (omega arith) some, rounded_at-past (length l.whole + digits + positive_exponent l.exponent - negative_exponent l.exponent) (l.whole ++ l.fraction) (omega arith) some)
    | inr within ↦ inl (omega arith)
  ]
]

-- what the digits rounded up at the cut point say of the least whole number
pub record Rounds (digits : ℕ) (l : Literal) (n : ℕ) : Type 0 where
  pub within : n ≤ 10 ^ 18 → n ≡ least_whole digits l
  pub past : 10 ^ 18 < n → 10 ^ 18 < least_whole digits l

pub rounds_at-capped_point : (cap digits : ℕ) (l : Literal) → list_all is_digit l.whole ≡ true → list_all is_digit l.fraction ≡ true → length l.whole + length l.fraction + 19 ≤ cap → length l.whole + digits ≤ cap → 0 < coefficient l → Rounds digits l (rounded_at (capped_point cap digits l) (l.whole ++ l.fraction))
rounds_at-capped_point cap digits l whole fraction long places some =
    let place : ℕ = length l.whole + digits + positive_exponent l.exponent - negative_exponent l.exponent in
    let least : least_whole digits l ≡ rounded_at place (l.whole ++ l.fraction) = least_whole-rounded_at digits place l whole fraction refl in
    elim (capped cap digits l long places some) [
      | inl same ↦ let equal = ap (λ p. rounded_at p (l.whole ++ l.fraction)) same ∙ sym least in record { within = λ _. equal; past = λ past. rw (← equal) past }
      | inr both ↦ let first = both.0 in let second = both.1 in record { within = λ within. absurd (omega arith); past = λ _. rw least second }
    ]
