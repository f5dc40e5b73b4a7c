-- Number literals of JSON (RFC 8259, section 6).
use Rattle.std.specs.Prelude.{true, false, ℕ, ◌==◌, ◌||◌, ◌&&◌, nat_lt, Bool, List, [], ◌∷◌, ◌++◌, length, drop, Option, Some, None, if◌then◌else◌}
use Rattle.decimal_import.specs.Digits.{digits_in_front}

-- its letter (`e` or `E`), its sign where it has one (`+` or `-`), and its digits
pub record Exponent : Type 0 where
  pub letter : ℕ
  pub sign : Option ℕ
  pub digits : List ℕ

-- a literal: its minus, its digits before the point, those behind the point, and its exponent
pub record Literal : Type 0 where
  pub is_negative : Bool
  pub whole : List ℕ
  pub fraction : List ℕ
  pub exponent : Option Exponent

-- How a literal is spelled.

abbrev pub minus_text : Bool → List ℕ
minus_text is_negative = if is_negative then 45 ∷ [] else []

abbrev pub fraction_text : List ℕ → List ℕ
fraction_text [] = []
fraction_text (d ∷ ds) = 46 ∷ d ∷ ds

abbrev pub sign_text : Option ℕ → List ℕ
sign_text None = []
sign_text (Some sign) = sign ∷ []

abbrev pub exponent_text : Option Exponent → List ℕ
exponent_text None = []
exponent_text (Some e) = e.letter ∷ (sign_text e.sign ++ e.digits)

abbrev pub literal_text : Literal → List ℕ
literal_text l =
    minus_text l.is_negative ++ (l.whole ++ (fraction_text l.fraction ++ exponent_text l.exponent))

-- The parts of the longest literal in front of a text, each with what follows it.

-- a run of digits
abbrev pub run_in_front : List ℕ → List ℕ × List ℕ
run_in_front bs = (digits_in_front bs, drop (length (digits_in_front bs)) bs)

abbrev pub minus_in_front : List ℕ → Bool × List ℕ
minus_in_front [] = (false, [])
minus_in_front (b ∷ bs) = if b == 45 then (true, bs) else (false, b ∷ bs)

-- a zero alone, or a run of digits that begins with another digit; no digits where none stands in front
abbrev pub whole_in_front : List ℕ → List ℕ × List ℕ
whole_in_front [] = ([], [])
whole_in_front (b ∷ bs) = if b == 48 then (48 ∷ [], bs) else run_in_front (b ∷ bs)

-- the digits behind a point; no digits where no point with a digit behind it stands in front
abbrev pub fraction_in_front : List ℕ → List ℕ × List ℕ
fraction_in_front [] = ([], [])
fraction_in_front (b ∷ bs) =
    if (b == 46) && nat_lt 0 (length (digits_in_front bs)) then run_in_front bs else ([], b ∷ bs)

abbrev pub sign_in_front : List ℕ → Option ℕ × List ℕ
sign_in_front [] = (None, [])
sign_in_front (b ∷ bs) = if (b == 43) || (b == 45) then (Some b, bs) else (None, b ∷ bs)

-- a letter, a sign or none, and digits; none where no letter with a digit behind it stands in front
abbrev pub exponent_in_front : List ℕ → Option Exponent × List ℕ
exponent_in_front [] = (None, [])
exponent_in_front (b ∷ bs) =
    let signed = sign_in_front bs in
    let run = run_in_front signed.1 in
    if ((b == 101) || (b == 69)) && nat_lt 0 (length run.0)
    then (Some (record { letter = b; sign = signed.0; digits = run.0 }), run.1)
    else (None, b ∷ bs)

abbrev pub literal_in_front : List ℕ → Option (Literal × List ℕ)
literal_in_front bs =
    let minus = minus_in_front bs in
    let whole = whole_in_front minus.1 in
    let fraction = fraction_in_front whole.1 in
    let exponent = exponent_in_front fraction.1 in
    if nat_lt 0 (length whole.0)
    then Some (
      record {
        is_negative = minus.0;
        whole = whole.0;
        fraction = fraction.0;
        exponent = exponent.0;
      },
      exponent.1,
    ) else None
