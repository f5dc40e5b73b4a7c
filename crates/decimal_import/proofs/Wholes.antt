-- The whole number that stands for a literal, case by case.
use Rattle.std.proofs.Common.{◌≡◌, ℕ, ◌^◌, ◌<◌, ◌≤◌, ◌==◌, arith, refl, true, false, nat_lt, Ok, Err, Bool, inl, inr}
use Rattle.std.proofs.lemmas.Bool.{cases_lt}
use Rattle.std.proofs.lemmas.Bool.Decides.{nat_tests}
use Rattle.decimal_import.specs.Literal.{Literal}
use Rattle.decimal_import.specs.Rounding.{coefficient, least_whole, whole_number}
use Rattle.decimal_import.specs.declared.fault.ImportFault.TheVariants.{Negative, TooLarge}

pub whole_number-zero : (digits at : ℕ) (l : Literal) → coefficient l ≡ 0 → whole_number digits at l ≡ Ok 0
whole_number-zero digits at l none = rw none refl

is_some : (n : ℕ) → 0 < n → (n == 0) ≡ false
is_some n some = grind (arith, nat_tests)

pub whole_number-negative : (digits at : ℕ) (l : Literal) → 0 < coefficient l → l.is_negative ≡ true → whole_number digits at l ≡ Err (Negative at)
whole_number-negative digits at l some negative = rw (is_some (coefficient l) some, negative) refl

pub whole_number-within : (digits at n : ℕ) (l : Literal) → 0 < coefficient l → l.is_negative ≡ false → n ≡ least_whole digits l → n ≤ 10 ^ 18 → whole_number digits at l ≡ Ok n
whole_number-within digits at n l some positive is within =
    let test : nat_lt (10 ^ 18) n ≡ false = grind (arith, nat_tests) in
    rw (is_some (coefficient l) some, ← is, test, positive) refl

pub whole_number-past : (digits at : ℕ) (l : Literal) → 0 < coefficient l → l.is_negative ≡ false → 10 ^ 18 < least_whole digits l → whole_number digits at l ≡ Err (TooLarge at)
whole_number-past digits at l some positive past =
    let test : nat_lt (10 ^ 18) (least_whole digits l) ≡ true = grind (arith, nat_tests) in
    rw (is_some (coefficient l) some, test, positive) refl

-- a number that a test did not find 0
pub pos_of-test : (n : ℕ) (b : Bool) → (n ≡ 0 → b ≡ true) → b ≡ false → 0 < n
pos_of-test n b found none = elim (cases_lt 0 n) [ inl some ↦ some | inr zero_at_most ↦ absurd (let is : n ≡ 0 = omega arith in cc (found is, none)) ]
