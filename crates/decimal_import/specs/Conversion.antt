-- A text with each number that has a unit written as a whole number.
use Rattle.std.specs.Prelude.{◌≡◌, ℕ, ◌+◌, ◌||◌, ◌^◌, nat_lt, Bool, true, false, List, [], ◌∷◌, ◌++◌, length, Option, Some, None, Result, Ok, Err, if◌then◌else◌, decimal}
use Rattle.decimal_import.specs.Literal.{Literal, literal_text}
use Rattle.decimal_import.specs.Token.{Token, Opening, Closing, Colon, Blank, Text, Number, token_text, cut}
use Rattle.decimal_import.specs.Nesting.{unit_here, opened, closed, under_key}
use Rattle.decimal_import.specs.Rounding.{whole_number}
use Rattle.decimal_import.specs.declared.fault.ImportFault.{ImportFault}
use Rattle.decimal_import.specs.declared.fault.ImportFault.TheVariants as faults
use Rattle.decimal_import.specs.declared.nesting.Open.{Open}
use Rattle.decimal_import.specs.declared.nesting.Unit.{Unit as Measure}
use Rattle.decimal_import.specs.declared.nesting.Unit.TheVariants.{Time, Energy}
use Rattle.decimal_import.specs.declared.conversion.UnitDigits.{UnitDigits}

-- What follows a value, and nothing after a fault.
abbrev pub and_then : {A B : Type 0} → Result A ImportFault → (A → Result B ImportFault) →
    Result B ImportFault
and_then (Ok x) f = f x
and_then (Err fault) f = Err fault

abbrev pub ok_or : {A : Type 0} → Option A → ImportFault → Result A ImportFault
ok_or (Some x) fault = Ok x
ok_or None fault = Err fault

-- the decimal digits of a unit that are kept
abbrev pub digits_of : UnitDigits → Measure → ℕ
digits_of digits Time = digits.time
digits_of digits Energy = digits.energy

-- A literal under a key without a unit stays as it is.
abbrev pub number_text : UnitDigits → ℕ → Option Measure → Literal → Result (List ℕ) ImportFault
number_text digits at None l = Ok (literal_text l)
number_text digits at (Some unit) l =
    and_then (whole_number (digits_of digits unit) at l) (λ n. Ok (decimal n))

-- what stands in the converted text for a token at this place, where the current key has this unit
abbrev pub converted_token : UnitDigits → ℕ → Option Measure → Token → Result (List ℕ) ImportFault
converted_token digits at unit (Number l) = number_text digits at unit l
converted_token digits at unit t = Ok (token_text t)

-- A string is a key where a colon follows it, blanks aside.
abbrev pub is_colon_next : List Token → Bool
is_colon_next [] = false
is_colon_next (Colon ∷ ts) = true
is_colon_next (Blank b ∷ ts) = is_colon_next ts
is_colon_next (t ∷ ts) = false

-- what is open behind a token that these follow; none where it closes what isn't the innermost
abbrev pub nested : List Open → Token → List Token → Option (List Open)
nested opens (Opening b) ts = Some (opened b opens)
nested opens (Closing b) ts = closed b opens
nested opens (Text key) ts = Some (if is_colon_next ts then under_key key opens else opens)
nested opens t ts = Some opens

-- At the end of the tokens, nothing is open, and no byte is left.
abbrev pub finished : ℕ → List Open → List ℕ → Result (List ℕ) ImportFault
finished at [] [] = Ok []
finished at opens left = Err (faults.Token at)

-- what the tokens become that stand at this place with these braces and brackets open, and the bytes left behind them
abbrev pub converted_tokens : UnitDigits → ℕ → List Open → List Token → List ℕ →
    Result (List ℕ) ImportFault
converted_tokens digits at opens [] left = finished at opens left
converted_tokens digits at opens (t ∷ ts) left =
    and_then (ok_or (nested opens t ts) (faults.Token at)) (λ inner.
    and_then (converted_token digits at (unit_here opens) t) (λ text.
    and_then (converted_tokens digits (at + length (token_text t)) inner ts left) (λ more.
    Ok (text ++ more))))

-- the same of a text that stands there
unfoldable pub converted_from : UnitDigits → ℕ → List Open → List ℕ → Result (List ℕ) ImportFault
converted_from digits at opens bytes = converted_tokens digits at opens (cut bytes).0 (cut bytes).1

-- The converted text, or the first fault: of the text's length, then of the digits, and then of the first broken byte.
abbrev pub conversion_of : List ℕ → ℕ → ℕ → Result (List ℕ) ImportFault
conversion_of bytes time energy =
    if nat_lt (2 ^ 26) (length bytes) then Err (faults.TooLong (length bytes))
    else if nat_lt 9 time || nat_lt 9 energy then Err faults.Digits
    else converted_from (record { time = time; energy = energy }) 0 [] bytes

-- What a fault says of a result; want of memory says nothing.
abbrev pub Refuses : {A : Type 0} → ImportFault → Result A ImportFault → Type 0
Refuses faults.Memory result = Unit {0}
Refuses fault result = result ≡ Err fault
