-- The characters that no name has, in UTF-8: the control characters U+0000 to U+001F and U+007F to U+009F, the ends of a line and of a
-- paragraph U+2028 and U+2029 (all that Unicode has of the categories Cc, Zl and Zp), and U+FFFE and U+FFFF, which no XML text holds.
use Rattle.std.specs.Prelude.{◌==◌, ◌&&◌, ◌||◌, ℕ, Bool, false, List, [], ◌∷◌, nat_lt}

-- a byte behind two others is the last one of such a character
abbrev pub ends_barred : ℕ → ℕ → ℕ → Bool
ends_barred first second byte =
    nat_lt byte 32 || (byte == 127) || ((second == 194) && nat_lt byte 160)
    || ((first == 226) && (second == 128) && ((byte == 168) || (byte == 169)))
    || ((first == 239) && (second == 191) && nat_lt 189 byte)

-- a text behind two bytes has such a character
abbrev pub has_barred : ℕ → ℕ → List ℕ → Bool
has_barred first second [] = false
has_barred first second (byte ∷ bytes) =
    ends_barred first second byte || has_barred second byte bytes
