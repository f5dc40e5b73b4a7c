-- The grammar of tokens (RFC 8259), and what it is to cut a text into them.
use Rattle.std.specs.Prelude.{◌≡◌, ℕ, ◌≤◌, ◌==◌, ◌||◌, ◌&&◌, not, nat_lt, Bool, true, false, List, [], ◌∷◌, ◌++◌, length, Option, Some, None, if◌then◌else◌}
use Rattle.std.specs.List.{list_all}
use Rattle.decimal_import.specs.Digits.{is_digit}
use Rattle.decimal_import.specs.Literal.{Literal, Exponent}
use Rattle.decimal_import.specs.Token.{Token, Blank, Text, Number, token_text, is_blank}

-- digits, of which there is one at least
abbrev pub are_digits : List ℕ → Bool
are_digits [] = false
are_digits (d ∷ ds) = list_all is_digit (d ∷ ds)

-- a zero alone, or digits that begin with another one
abbrev pub is_whole : List ℕ → Bool
is_whole [] = false
is_whole (d ∷ ds) = if d == 48 then is_empty ds else list_all is_digit (d ∷ ds)
  where
    is_empty : List ℕ → Bool
    is_empty [] = true
    is_empty (x ∷ xs) = false

abbrev pub is_sign : Option ℕ → Bool
is_sign None = true
is_sign (Some sign) = (sign == 43) || (sign == 45)

abbrev pub is_exponent : Option Exponent → Bool
is_exponent None = true
is_exponent (Some e) =
    ((e.letter == 101) || (e.letter == 69)) && (is_sign e.sign && are_digits e.digits)

abbrev pub is_literal : Literal → Bool
is_literal l = is_whole l.whole && (list_all is_digit l.fraction && is_exponent l.exponent)

-- Bytes that may stand between quotes; whether a backslash escapes the first. A backslash escapes any one byte.
abbrev pub is_text : Bool → List ℕ → Bool
is_text is_escaped [] = not is_escaped
is_text is_escaped (b ∷ bs) =
    if is_escaped then is_text false bs
    else if (b == 34) || nat_lt b 32 then false
    else is_text (b == 92) bs

abbrev pub is_token : Token → Bool
is_token (Blank b) = is_blank b
is_token (Text bytes) = is_text false bytes
is_token (Number l) = is_literal l
is_token t = true

-- t is the longest token that stands in front of the bytes, and rest follows it
pub record IsLongestInFront (bytes : List ℕ) (t : Token) (rest : List ℕ) : Type 0 where
  pub token : is_token t ≡ true
  pub in_front : bytes ≡ token_text t ++ rest
  pub longest : (other : Token) (behind : List ℕ) → is_token other ≡ true →
      bytes ≡ token_text other ++ behind → length (token_text other) ≤ length (token_text t)

-- no token stands in front of the bytes
abbrev pub NoTokenInFront : List ℕ → Type 0
NoTokenInFront bytes =
    (t : Token) (rest : List ℕ) → is_token t ≡ true → bytes ≡ token_text t ++ rest → ⊥

-- the bytes are these tokens from the left, each the longest where it stands, and then bytes with no token in front
abbrev pub IsCutInto : List ℕ → List Token → List ℕ → Type 0
IsCutInto bytes [] left = (bytes ≡ left) × NoTokenInFront bytes
IsCutInto bytes (t ∷ ts) left =
    (rest : List ℕ) × (IsLongestInFront bytes t rest × IsCutInto rest ts left)
