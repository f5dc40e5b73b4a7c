-- Whole numbers as texts of decimal digits.
use Rattle.std.specs.Prelude.{◌≡◌, ℕ, ◌==◌, Bool, true, false, not, List, [], ◌∷◌, ◌++◌, ⊤, decimal}
use Rattle.std.specs.Char.{is_ascii_digit}
use Rattle.std.specs.List.{take_while}
use Rattle.std.specs.Str.Parse.{IsNumeral, digits_value}

-- the longest run of digits in front of a text
abbrev pub leading_digits : List ℕ → List ℕ
leading_digits text = take_while is_ascii_digit text

-- no digit stands in front of the text: it is empty, or its first byte is none
abbrev pub BeginsWithoutDigit : List ℕ → Type 0
BeginsWithoutDigit [] = ⊤
BeginsWithoutDigit (b ∷ bs) = is_ascii_digit b ≡ false

-- a run of digits is canonical: it has one at least, and only where it is alone may the first be `0`
abbrev pub is_canonical : List ℕ → Bool
is_canonical [] = false
is_canonical (d ∷ []) = true
is_canonical (d ∷ e ∷ ds) = not (d == 48)

-- the text is the number n in decimal digits, without leading zeros
pub record IsSpelling (n : ℕ) (text : List ℕ) : Type 0 where
  pub digits : IsNumeral 10 text
  pub canonical : is_canonical text ≡ true
  pub value : digits_value 10 text ≡ n

-- a number stands in front of the text, however large: its spelling, up to a byte that is no digit or to the end
pub record StandsInFront (n : ℕ) (text : List ℕ) : Type 0 where
  pub numeral : List ℕ
  pub rest : List ℕ
  pub parts : text ≡ numeral ++ rest
  pub spelling : IsSpelling n numeral
  pub ended : BeginsWithoutDigit rest

-- the same of a number that std writes, and what follows it
pub record BeginsWithNumber (text : List ℕ) (n : ℕ) (rest : List ℕ) : Type 0 where
  pub spelled : text ≡ decimal n ++ rest
  pub ended : BeginsWithoutDigit rest
