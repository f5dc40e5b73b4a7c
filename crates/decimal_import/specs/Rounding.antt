-- Literals as whole numbers of a unit, rounded up.
use Rattle.std.specs.Prelude.{ℕ, ◌+◌, ◌-◌, ◌*◌, ◌/◌, ◌^◌, ◌≤◌, ◌==◌, nat_lt, min, Bool, false, List, ◌++◌, length, take, drop, Option, Some, None, Result, Ok, Err, if◌then◌else◌}
use Rattle.decimal_import.specs.Digits.{number_of}
use Rattle.decimal_import.specs.Literal.{Literal, Exponent}
use Rattle.decimal_import.specs.declared.fault.ImportFault.{ImportFault}
use Rattle.decimal_import.specs.declared.fault.ImportFault.TheVariants.{Negative, TooLarge}

-- the number that the digits before and behind the point write together
abbrev pub coefficient : Literal → ℕ
coefficient l = number_of (l.whole ++ l.fraction)

abbrev pub is_minus : Option ℕ → Bool
is_minus None = false
is_minus (Some sign) = sign == 45

-- the exponent, where it isn't negative, and else 0
abbrev pub positive_exponent : Option Exponent → ℕ
positive_exponent None = 0
positive_exponent (Some e) = if is_minus e.sign then 0 else number_of e.digits

-- the size of the exponent, where it is negative, and else 0
abbrev pub negative_exponent : Option Exponent → ℕ
negative_exponent None = 0
negative_exponent (Some e) = if is_minus e.sign then number_of e.digits else 0

-- The value of a literal without its sign, times 10 to the power of the digits, is `over digits l / under l`.

abbrev pub tens_over : ℕ → Literal → ℕ
tens_over digits l = digits + positive_exponent l.exponent

abbrev pub tens_under : Literal → ℕ
tens_under l = length l.fraction + negative_exponent l.exponent

unfoldable pub over : ℕ → Literal → ℕ
over digits l = coefficient l * 10 ^ tens_over digits l

unfoldable pub under : Literal → ℕ
under l = 10 ^ tens_under l

-- n is the least whole number that isn't below a / b
pub record IsCeiling (a b n : ℕ) : Type 0 where
  pub not_below : a ≤ n * b
  pub least : (m : ℕ) → a ≤ m * b → n ≤ m

unfoldable pub ceiling : ℕ → ℕ → ℕ
ceiling a b = (a + (b - 1)) / b

-- the least whole number that isn't below the literal's value, without its sign, times 10 to the power of the digits
abbrev pub least_whole : ℕ → Literal → ℕ
least_whole digits l = ceiling (over digits l) (under l)

-- the whole number that stands for a literal at this place
abbrev pub whole_number : ℕ → ℕ → Literal → Result ℕ ImportFault
whole_number digits at l =
    if coefficient l == 0 then Ok 0
    else if l.is_negative then Err (Negative at)
    else if nat_lt (10 ^ 18) (least_whole digits l) then Err (TooLarge at)
    else Ok (least_whole digits l)

-- Digits with a point behind the first p of them; where there are fewer, zeros follow.

-- the number before the point
abbrev pub whole_part : ℕ → List ℕ → ℕ
whole_part p ds = number_of (take p ds) * 10 ^ (p - length ds)

-- rounded up to a whole number
abbrev pub rounded_at : ℕ → List ℕ → ℕ
rounded_at p ds = whole_part p ds + (if nat_lt 0 (number_of (drop p ds)) then 1 else 0)

-- How many digits stand before the point of a literal times 10 to the power of the digits, with the exponent
-- cut to a size.
abbrev pub capped_point : ℕ → ℕ → Literal → ℕ
capped_point cap digits l =
    (length l.whole + digits + min (positive_exponent l.exponent) cap)
    - min (negative_exponent l.exponent) cap
