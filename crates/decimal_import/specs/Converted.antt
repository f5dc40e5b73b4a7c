-- A text and what it becomes, in the words of the subject: tokens, keys and least whole numbers.
use Rattle.std.specs.Prelude.{◌≡◌, ℕ, ◌^◌, ◌≤◌, ◌⊎◌, false, List, [], ◌∷◌, ◌++◌, Option, Some, None, decimal}
use Rattle.decimal_import.specs.Literal.{Literal, literal_text}
use Rattle.decimal_import.specs.Token.{Token, Number, token_text}
use Rattle.decimal_import.specs.Grammar.{IsCutInto}
use Rattle.decimal_import.specs.Rounding.{coefficient, over, under, IsCeiling}
use Rattle.decimal_import.specs.Nesting.{unit_here}
use Rattle.decimal_import.specs.Conversion.{digits_of, nested}
use Rattle.decimal_import.specs.declared.nesting.Open.{Open}
use Rattle.decimal_import.specs.declared.nesting.Unit.{Unit as Measure}
use Rattle.decimal_import.specs.declared.conversion.UnitDigits.{UnitDigits}

-- n is the least whole number that isn't below the literal's value times 10 to the power of the digits
pub record IsLeastWhole (digits : ℕ) (l : Literal) (n : ℕ) : Type 0 where
  pub sign : (coefficient l ≡ 0) ⊎ (l.is_negative ≡ false)
  pub least : IsCeiling (over digits l) (under l) n

-- A literal under a key with a unit becomes its least whole number, which is within the limit, and any other literal stays.
abbrev pub NumberBecomes : UnitDigits → Option Measure → Literal → List ℕ → Type 0
NumberBecomes digits None l piece = piece ≡ literal_text l
NumberBecomes digits (Some unit) l piece =
    (n : ℕ) × (IsLeastWhole (digits_of digits unit) l n × ((n ≤ 10 ^ 18) × (piece ≡ decimal n)))

-- Every other token stays.
abbrev pub TokenBecomes : UnitDigits → Option Measure → Token → List ℕ → Type 0
TokenBecomes digits unit (Number l) piece = NumberBecomes digits unit l piece
TokenBecomes digits unit t piece = piece ≡ token_text t

-- These tokens become the text, where these braces and brackets are open in front of them and none is behind them
abbrev pub Becomes : UnitDigits → List Open → List Token → List ℕ → Type 0
Becomes digits opens [] text = (opens ≡ []) × (text ≡ [])
Becomes digits opens (t ∷ ts) text =
    (inner : List Open) × ((piece : List ℕ) × ((more : List ℕ) ×
    ((nested opens t ts ≡ Some inner) ×
    (TokenBecomes digits (unit_here opens) t piece ×
    (Becomes digits inner ts more × (text ≡ piece ++ more))))))

-- the bytes are cut into tokens to their end, and these become the text
abbrev pub IsConverted : ℕ → ℕ → List ℕ → List ℕ → Type 0
IsConverted time energy bytes text =
    (ts : List Token) ×
    (IsCutInto bytes ts [] × Becomes (record { time = time; energy = energy }) [] ts text)
