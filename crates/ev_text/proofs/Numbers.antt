-- The readers of numbers in ranges.
use Rattle.std.proofs.Common.{◌≡◌, ◌∙◌, ℕ, ◌^◌, ◌<◌, Bool, true, false, List, ◌∷◌, ◌++◌, decimal, sym, ap, subst}
use Rattle.std.specs.Char.{is_ascii_digit}
use Rattle.std.proofs.lemmas.Bool.{false≢true}
use Rattle.ev_text.specs.Numerals.{BeginsWithoutDigit}
use Rattle.ev_text.specs.Readers.{number_where}
use Rattle.ev_text.specs.Scans.{whole_at}
use Rattle.ev_text.specs.Texts.{IsLonger, StandsUnlessLonger}
use Rattle.ev_text.specs.declared.TextFault.TheVariants.{TooLarge}
use Rattle.ev_text.proofs.ChoiceLaws.{BeforeChoice, BeginsOtherwise, other_word}
use Rattle.ev_text.proofs.RangedNumbers.{reads-where}
use Rattle.ev_text.proofs.ReaderLaws.{reader-number, reads-reader}
use Rattle.ev_text.proofs.Readings.{first_digit}
use Rattle.ev_text.proofs.ReadingLaws.{Reads}
use Rattle.ev_text.specs.Numbers.{Keeping, UpTo}

-- what may stand behind a value: anything, or no digit
abbrev pub Anything : {A : Type 0} → A → List ℕ → Type 0
Anything value rest = Unit {0}

abbrev pub NoDigit : {A : Type 0} → A → List ℕ → Type 0
NoDigit value rest = BeginsWithoutDigit rest

shorter : (at : ℕ) (text more : List ℕ) → StandsUnlessLonger (TooLarge at) text more → IsLonger at text more → ⊥
shorter at text more still longer = still longer

-- a number up to a limit that keeps a rule
pub ranged : (limit : ℕ) (keeps : ℕ → Bool) → limit < 10 ^ 64 → Reads StandsUnlessLonger (number_where limit keeps) (λ n. decimal n) (Keeping limit keeps) (UpTo limit) NoDigit
ranged limit keeps small = reads-where StandsUnlessLonger shorter limit small keeps

-- a number up to a limit
pub upto : (limit : ℕ) → limit < 10 ^ 64 → Reads StandsUnlessLonger (whole_at limit) (λ n. decimal n) (UpTo limit) (UpTo limit) NoDigit
upto limit small = reads-reader StandsUnlessLonger (whole_at limit) (λ n. decimal n) (UpTo limit) NoDigit (reader-number limit small)

-- a number begins with a digit, so otherwise than a byte that is none, and than a word that begins with one

differs : (b d : ℕ) → is_ascii_digit b ≡ false → is_ascii_digit d ≡ true → d ≡ b → ⊥
differs b d none digit same = false≢true (sym none ∙ ap is_ascii_digit (sym same) ∙ digit)

pub number_is_no_mark : (b n : ℕ) (rest : List ℕ) → is_ascii_digit b ≡ false → n < 10 ^ 64 → BeginsOtherwise b (decimal n ++ rest)
number_is_no_mark b n rest none small =
    let digit = first_digit n small in
    subst (λ (ds : List ℕ). BeginsOtherwise b (ds ++ rest)) (sym digit.2) (differs b digit.0 none digit.3)

pub number_is_no_word : (b : ℕ) (bs : List ℕ) (n : ℕ) (rest : List ℕ) → is_ascii_digit b ≡ false → n < 10 ^ 64 → BeforeChoice (b ∷ bs) false (decimal n ++ rest)
number_is_no_word b bs n rest none small =
    let digit = first_digit n small in
    subst (λ (ds : List ℕ). BeforeChoice (b ∷ bs) false (ds ++ rest)) (sym digit.2) (other_word b digit.0 bs (digit.1 ++ rest) (differs b digit.0 none digit.3))
