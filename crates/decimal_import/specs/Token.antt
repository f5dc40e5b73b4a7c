-- Tokens of a JSON text (RFC 8259).
use Rattle.std.specs.Prelude.{ℕ, zero, suc, ◌+◌, ◌==◌, ◌||◌, nat_lt, nat_eq, Bool, false, List, [], ◌∷◌, ◌++◌, length, take, drop, Option, Some, None, if◌then◌else◌, codes}
use Rattle.std.specs.List.{starts_with}
use Rattle.std.specs.Option.{option_map, option_map_or}
use Rattle.decimal_import.specs.Literal.{Literal, literal_text, literal_in_front}
use Rattle.decimal_import.specs.declared.token.Bracket.{Bracket}
use Rattle.decimal_import.specs.declared.token.Bracket.TheVariants.{Brace, Square}
use Rattle.decimal_import.specs.declared.token.Word.{Word}
use Rattle.decimal_import.specs.declared.token.Word.TheVariants.{True, False, Null}

-- A string has the bytes between its quotes, and a blank is one byte.
pub data Token : Type 0 where
  Opening : Bracket → Token
  Closing : Bracket → Token
  Comma : Token
  Colon : Token
  Blank : ℕ → Token
  Named : Word → Token
  Text : List ℕ → Token
  Number : Literal → Token

-- How a token is spelled.

abbrev pub opening_text : Bracket → List ℕ
opening_text Brace = codes "{"
opening_text Square = codes "["

abbrev pub closing_text : Bracket → List ℕ
closing_text Brace = codes "}"
closing_text Square = codes "]"

abbrev pub word_text : Word → List ℕ
word_text True = codes "true"
word_text False = codes "false"
word_text Null = codes "null"

abbrev pub token_text : Token → List ℕ
token_text (Opening b) = opening_text b
token_text (Closing b) = closing_text b
token_text Comma = codes ","
token_text Colon = codes ":"
token_text (Blank b) = b ∷ []
token_text (Named w) = word_text w
token_text (Text bytes) = 34 ∷ (bytes ++ 34 ∷ [])
token_text (Number l) = literal_text l

-- The token in front of a text, with what follows it; none where no token begins or it isn't whole.

-- a space, a tab, a line feed or a carriage return
abbrev pub is_blank : ℕ → Bool
is_blank b = (b == 32) || ((b == 9) || ((b == 10) || (b == 13)))

-- How many bytes stand before the closing quote of a string, n before these; whether a backslash
-- escapes the first of these. None where there is no closing quote or a byte below 32 stands before it.
abbrev pub closing_quote : Bool → ℕ → List ℕ → Option ℕ
closing_quote is_escaped n [] = None
closing_quote is_escaped n (b ∷ bs) =
    if is_escaped then closing_quote false (n + 1) bs
    else if b == 34 then Some n
    else if nat_lt b 32 then None
    else closing_quote (b == 92) (n + 1) bs

-- behind an opening quote
abbrev pub text_in_front : List ℕ → Option (Token × List ℕ)
text_in_front bs = option_map (λ n. (Text (take n bs), drop (n + 1) bs)) (closing_quote false 0 bs)

abbrev pub word_in_front : Word → List ℕ → Option (Token × List ℕ)
word_in_front w bs =
    if starts_with nat_eq bs (word_text w) then Some (Named w, drop (length (word_text w)) bs)
    else None

abbrev pub number_in_front : List ℕ → Option (Token × List ℕ)
number_in_front bs = option_map (λ p. (Number p.0, p.1)) (literal_in_front bs)

abbrev pub token_in_front : List ℕ → Option (Token × List ℕ)
token_in_front [] = None
token_in_front (b ∷ bs) =
    if b == 123 then Some (Opening Brace, bs)
    else if b == 91 then Some (Opening Square, bs)
    else if b == 125 then Some (Closing Brace, bs)
    else if b == 93 then Some (Closing Square, bs)
    else if b == 44 then Some (Comma, bs)
    else if b == 58 then Some (Colon, bs)
    else if is_blank b then Some (Blank b, bs)
    else if b == 34 then text_in_front bs
    else if b == 116 then word_in_front True (b ∷ bs)
    else if b == 102 then word_in_front False (b ∷ bs)
    else if b == 110 then word_in_front Null (b ∷ bs)
    else number_in_front (b ∷ bs)

-- whether a colon stands in front, blanks aside
abbrev pub is_colon_next_in : List ℕ → Bool
is_colon_next_in [] = false
is_colon_next_in (b ∷ bs) = if is_blank b then is_colon_next_in bs else b == 58

-- The tokens of a text from the left, and what is left where no token begins. As many tokens as bytes are enough.
unfoldable pub cut_within : ℕ → List ℕ → List Token × List ℕ
cut_within zero bs = ([], bs)
cut_within (suc most) bs =
    option_map_or (λ p. (
      p.0 ∷ (cut_within most p.1).0,
      (cut_within most p.1).1,
    )) (token_in_front bs) ([], bs)

abbrev pub cut : List ℕ → List Token × List ℕ
cut bs = cut_within (length bs) bs
