-- What the calls of a scan answer. A scan is seen as its text and the place where it stands.
use Rattle.std.specs.Prelude.{◌≡◌, ◌≢◌, ℕ, ◌+◌, ◌==◌, nat_eq, nat_lt, not, List, [], ◌++◌, length, drop, decimal, ◌≤◌, if◌then◌else◌, Result, Ok, Err}
use Rattle.std.specs.List.{starts_with}
use Rattle.std.specs.Str.Parse.{digits_value}
use Rattle.ev_text.specs.declared.TextFault.{TextFault}
use Rattle.ev_text.specs.declared.TextFault.TheVariants.{NotWhole, TooLarge, Word, End}
use Rattle.ev_text.specs.Numerals.{leading_digits, is_canonical, BeginsWithNumber}

-- the text from the place on
abbrev pub rest_of : List ℕ × ℕ → List ℕ
rest_of s = drop s.1 s.0

-- the scan with its place moved behind a word that stands there
abbrev pub past : List ℕ → List ℕ × ℕ → List ℕ × ℕ
past word s = (s.0, s.1 + length word)

-- the number at the place, taken, or the first broken rule: a byte is left, the digits are a
-- canonical numeral, and their number is at most limit
abbrev pub whole_at : ℕ → List ℕ × ℕ → Result (ℕ × (List ℕ × ℕ)) TextFault
whole_at limit s =
    let digits = leading_digits (rest_of s) in
    if length (rest_of s) == 0 then Err (End s.1)
    else if not (is_canonical digits) then Err (NotWhole s.1)
    else if nat_lt limit (digits_value 10 digits) then Err (TooLarge s.1)
    else Ok (digits_value 10 digits, past digits s)

-- the word taken where it stands at the place; else the text ends within the word, or differs from it
abbrev pub word_at : List ℕ → List ℕ × ℕ → Result (List ℕ × ℕ) TextFault
word_at word s =
    if starts_with nat_eq (rest_of s) word then Ok (past word s)
    else if starts_with nat_eq word (rest_of s) then Err (End s.1)
    else Err (Word s.1)

-- for readers of longer texts: the next answer follows from the value of the one before, and the first refusal stands
abbrev pub and_then : {A B E : Type 0} → Result A E → (A → Result B E) → Result B E
and_then (Ok value) next = next value
and_then (Err fault) next = Err fault

-- a number of at most limit is taken: it stands at the place of s in its one spelling, which ends at a byte that
-- is no digit or at the end of the text, and t stands behind it
pub record TakesNumber (limit n : ℕ) (s t : List ℕ × ℕ) : Type 0 where
  pub within : n ≤ limit
  pub number : BeginsWithNumber (rest_of s) n (rest_of t)
  pub moved : t ≡ past (decimal n) s

-- a word is taken: it stands at the place of s, and t stands behind it
pub record TakesWord (word : List ℕ) (s t : List ℕ × ℕ) : Type 0 where
  pub standing : rest_of s ≡ word ++ rest_of t
  pub moved : t ≡ past word s

-- the whole begins with the front
abbrev pub IsPrefixOf : List ℕ → List ℕ → Type 0
IsPrefixOf front whole = (rest : List ℕ) × (whole ≡ front ++ rest)

-- the text is the word cut off before its end
abbrev pub IsProperPrefix : List ℕ → List ℕ → Type 0
IsProperPrefix text word = (more : List ℕ) × (word ≡ text ++ more) × (more ≢ [])
