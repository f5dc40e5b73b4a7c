-- A number that keeps a rule, and one with a sign.
use Rattle.std.proofs.Common.{◌≡◌, ◌≢◌, ◌∙◌, ◌⊎◌, inl, inr, ℕ, ◌^◌, ◌<◌, ◌≤◌, Bool, true, false, List, [], ◌∷◌, ◌++◌, decimal, Result, Ok, Err, refl, sym, ap, subst, append-nil, arith, if◌then◌else◌}
use Rattle.std.specs.Char.{is_ascii_digit}
use Rattle.std.specs.Str.Parse.{AllDigits}
use Rattle.std.proofs.lemmas.Fmt.{decimal_is_IsNumeral_wide}
use Rattle.ev_text.specs.Numerals.{BeginsWithoutDigit}
use Rattle.ev_text.specs.Readers.{number_where}
use Rattle.ev_text.specs.Scans.{and_then, past, rest_of, whole_at}
use Rattle.ev_text.specs.Texts.{AreOfNumber, BeginsWithDigit, IsLonger, IsNoEnd, IsTextOf, fault_place}
use Rattle.ev_text.specs.declared.TextFault.{TextFault}
use Rattle.ev_text.specs.declared.TextFault.TheVariants.{TooLarge}
use Rattle.ev_text.proofs.DigitRuns.{test_from_digit}
use Rattle.ev_text.proofs.Grown.{Keeps, Stays, Within, grown, rest_of-grown}
use Rattle.ev_text.proofs.GrownNumbers.{keeps-whole}
use Rattle.ev_text.proofs.Mended.{IsMended, mended-here, mended-whole}
use Rattle.ev_text.proofs.Readings.{TakesNumber-from_whole_at, first_digit, number_read}
use Rattle.ev_text.proofs.ReadingLaws.{Reads, Takes}
use Rattle.ev_text.proofs.Results.{Err-ne-Ok, Ok-injective, and_then-ok}

-- digits are bytes of a number
pub of_number : (ds : List ℕ) → AllDigits 10 ds → AreOfNumber ds
of_number [] all = tt
of_number (d ∷ ds) all = (inl (test_from_digit d all.0), of_number ds all.1)

-- a text begins with a digit, or it doesn't
pub digit_or_not : (more : List ℕ) → BeginsWithDigit more ⊎ BeginsWithoutDigit more
digit_or_not [] = inr tt
digit_or_not (b ∷ bs) = by (is_ascii_digit b) refl
  where
    by : (digit : Bool) → is_ascii_digit b ≡ digit → BeginsWithDigit (b ∷ bs) ⊎ BeginsWithoutDigit (b ∷ bs)
    by true is = inl is
    by false is = inr is

module _ (Still : TextFault → List ℕ → List ℕ → Type 0) (still_shorter : (at : ℕ) (text more : List ℕ) → Still (TooLarge at) text more → IsLonger at text more → ⊥)
    (limit : ℕ) (small : limit < 10 ^ 64) (keeps : ℕ → Bool) where
  abbrev tested : List ℕ × ℕ → ℕ × (List ℕ × ℕ) → Result (ℕ × (List ℕ × ℕ)) TextFault
  tested s found = if keeps found.0 then Ok found else Err (TooLarge s.1)

  abbrev Kept : ℕ → Type 0
  Kept n = (n ≤ limit) × (keeps n ≡ true)

  where_stands : (s t : List ℕ × ℕ) (n : ℕ) → number_where limit keeps s ≡ Ok (n, t) → Kept n × (rest_of s ≡ decimal n ++ rest_of t)
  where_stands s t n is =
      let parts = and_then-ok (whole_at limit s) (tested s) (n, t) is in
      by (keeps parts.0.0) parts.0 refl parts.1 parts.2
    where
      by : (kept : Bool) (found : ℕ × (List ℕ × ℕ)) → keeps found.0 ≡ kept → whole_at limit s ≡ Ok found → (if kept then Ok found else Err (TooLarge s.1)) ≡ Ok (n, t) → Kept n × (rest_of s ≡ decimal n ++ rest_of t)
      by false found test is same = absurd (Err-ne-Ok (TooLarge s.1) (n, t) same)
      by true found test is same =
          let found_is : found ≡ (n, t) = Ok-injective found (n, t) same in
          let takes = TakesNumber-from_whole_at limit s n t small (is ∙ same) in
          ((takes.within, ap (λ (p : ℕ × (List ℕ × ℕ)). keeps p.0) (sym found_is) ∙ test), takes.number.spelled)

  where_taken : (n : ℕ) (rest : List ℕ) (s : List ℕ × ℕ) → Kept n → BeginsWithoutDigit rest → rest_of s ≡ decimal n ++ rest → Takes (number_where limit keeps s) n rest
  where_taken n rest s kept before e =
      let within = kept.0 in
      let number = number_read limit n rest s (omega arith) within e before in
      record { after = past (decimal n) s; is = ap (λ r. and_then r (tested s)) number.0 ∙ ap (λ (b : Bool). if b then Ok (n, past (decimal n) s) else Err (TooLarge s.1)) kept.1; left = number.1 }

  -- a number that breaks the rule breaks it in a text that goes on, but for further digits
  broken_stays : (more : List ℕ) (s t : List ℕ × ℕ) (n : ℕ) → Within s → whole_at limit s ≡ Ok (n, t) → keeps n ≡ false → (rest_of t ≢ [] → whole_at limit (grown more s) ≡ Ok (n, grown more t))
      → Still (TooLarge s.1) s.0 more → number_where limit keeps (grown more s) ≡ Err (TooLarge s.1)
  broken_stays more s t n within is broken later still = by (rest_of t) refl
    where
      takes_within : n ≤ limit
      takes_within = (TakesNumber-from_whole_at limit s n t small is).within

      stands : rest_of s ≡ decimal n ++ rest_of t
      stands = (TakesNumber-from_whole_at limit s n t small is).number.spelled

      refused : (u : List ℕ × ℕ) → whole_at limit (grown more s) ≡ Ok (n, u) → number_where limit keeps (grown more s) ≡ Err (TooLarge s.1)
      refused u found = ap (λ r. and_then r (tested (grown more s))) found ∙ ap (λ (b : Bool). if b then Ok (n, u) else Err (TooLarge s.1)) broken

      alone : rest_of t ≡ [] → rest_of s ≡ decimal n
      alone none = stands ∙ ap (λ xs. decimal n ++ xs) none ∙ append-nil (decimal n)

      at_end : rest_of t ≡ [] → BeginsWithDigit more ⊎ BeginsWithoutDigit more → number_where limit keeps (grown more s) ≡ Err (TooLarge s.1)
      at_end none (inl digit) =
          let numeral = decimal_is_IsNumeral_wide n (omega (arith, takes_within)) in
          absurd (still_shorter s.1 s.0 more still (subst AreOfNumber (sym (alone none)) (of_number (decimal n) numeral.0.1), digit))
      at_end none (inr ended) =
          refused (past (decimal n) (grown more s))
          (number_read limit n more (grown more s) (omega (arith, takes_within)) takes_within (rest_of-grown more s within ∙ ap (λ xs. xs ++ more) (alone none)) ended).0

      by : (rest : List ℕ) → rest_of t ≡ rest → number_where limit keeps (grown more s) ≡ Err (TooLarge s.1)
      by [] none = at_end none (digit_or_not more)
      by (b ∷ bs) some = refused (grown more t) (later (λ none. absurd (let same : b ∷ bs ≡ [] = sym some ∙ none in cc)))

  where_stays : (more : List ℕ) (s : List ℕ × ℕ) → Within s → Stays Still more s (number_where limit keeps s) (number_where limit keeps (grown more s))
  where_stays more s within = by (whole_at limit s) refl (keeps-whole limit more s within)
    where
      by : (here : Result (ℕ × (List ℕ × ℕ)) TextFault) → whole_at limit s ≡ here → Keeps more s here (whole_at limit (grown more s)) → Stays Still more s (and_then here (tested s)) (number_where limit keeps (grown more s))
      by (Err fault) is stay = (stay.0, λ no_end still. ap (λ r. and_then r (tested (grown more s))) (stay.1 no_end tt))
      by (Ok (n, t)) is stay = by_test (keeps n) refl
        where
          some_number : rest_of s ≡ [] → ⊥
          some_number none =
              let takes = TakesNumber-from_whole_at limit s n t small is in
              let within = takes.within in
              let digit = first_digit n (omega arith) in
              let same : digit.0 ∷ (digit.1 ++ rest_of t) ≡ [] = ap (λ ds. ds ++ rest_of t) (sym digit.2) ∙ sym takes.number.spelled ∙ none in
              cc

          by_test : (kept : Bool) → keeps n ≡ kept → Stays Still more s (if kept then Ok (n, t) else Err (TooLarge s.1)) (number_where limit keeps (grown more s))
          by_test true test = (
            stay.0,
            stay.1,
            stay.2,
            λ left. ap (λ r. and_then r (tested (grown more s))) (stay.3 left) ∙ ap (λ (b : Bool). if b then Ok (n, grown more t) else Err (TooLarge s.1)) test,
          )
          by_test false test = (λ none no_end. some_number none, λ no_end still. broken_stays more s t n within is test stay.3 still)

  where_mended : (s : List ℕ × ℕ) (fault : TextFault) → number_where limit keeps s ≡ Err fault → IsMended (IsTextOf (λ n. decimal n) (λ n. n ≤ limit)) s fault
  where_mended s fault is = by (whole_at limit s) refl is
    where
      at_test : (n : ℕ) (t : List ℕ × ℕ) (kept : Bool) → (let answer : Result (ℕ × (List ℕ × ℕ)) TextFault = if kept then Ok (n, t) else Err (TooLarge s.1) in answer) ≡ Err fault → IsMended (IsTextOf (λ n. decimal n) (λ n. n ≤ limit)) s fault
      at_test n t true e = absurd (Err-ne-Ok fault (n, t) (sym e))
      at_test n t false e =
          let same : TooLarge s.1 ≡ fault = cc in
          mended-here (IsTextOf (λ n. decimal n) (λ n. n ≤ limit)) s fault (decimal 0) (0, omega arith, refl) (ap fault_place (sym same)) (λ end. absurd (end (subst IsNoEnd same tt)))

      by : (answer : Result (ℕ × (List ℕ × ℕ)) TextFault) → whole_at limit s ≡ answer → and_then answer (tested s) ≡ Err fault → IsMended (IsTextOf (λ n. decimal n) (λ n. n ≤ limit)) s fault
      by (Err other) found e = let same : other ≡ fault = cc in mended-whole (IsTextOf (λ n. decimal n) (λ n. n ≤ limit)) s fault limit (decimal 0) (found ∙ ap (λ f. Err f) same) (0, omega arith, refl)
      by (Ok (n, t)) found e = at_test n t (keeps n) e

  pub reads-where : Reads Still (number_where limit keeps) (λ n. decimal n) (λ n. (n ≤ limit) × (keeps n ≡ true)) (λ n. n ≤ limit) (λ n rest. BeginsWithoutDigit rest)
  reads-where = record {
    example = (0, omega arith);
    loose = λ n kept. kept.0;
    standing = where_stands;
    taken = where_taken;
    stays = where_stays;
    mended = λ s fault within is. where_mended s fault is;
  }
