-- What the program's values mean, wherever their bytes lie.
use Rattle.std.specs.Prelude.{Option, Some, None}
use Rattle.decimal_import.specs.Literal.{Literal, Exponent}
use Rattle.decimal_import.specs.Token.{Token, Opening, Closing, Comma, Colon, Blank, Named, Text, Number}
use Rattle.decimal_import.specs.declared.token.Token.{Token as TokenParts}
use Rattle.decimal_import.specs.declared.token.Token.TheVariants as parts
use Rattle.decimal_import.specs.declared.literal.Literal.{Literal as LiteralParts}
use Rattle.decimal_import.specs.declared.literal.Exponent.{Exponent as ExponentParts}

abbrev pub exponent_of : Option ExponentParts → Option Exponent
exponent_of None = None
exponent_of (Some e) = Some (record { letter = e.letter; sign = e.sign; digits = e.digits.now })

abbrev pub literal_of : LiteralParts → Literal
literal_of l =
    record {
      is_negative = l.is_negative;
      whole = l.whole.now;
      fraction = l.fraction.now;
      exponent = exponent_of l.exponent;
    }

abbrev pub token_of : TokenParts → Token
token_of (parts.Opening b) = Opening b
token_of (parts.Closing b) = Closing b
token_of parts.Comma = Comma
token_of parts.Colon = Colon
token_of (parts.Blank b) = Blank b
token_of (parts.Word w) = Named w
token_of (parts.Text bytes) = Text bytes.now
token_of (parts.Number l) = Number (literal_of l)
