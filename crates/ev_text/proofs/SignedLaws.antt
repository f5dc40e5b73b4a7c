-- A number with a sign.
use Rattle.std.proofs.Common.{◌≡◌, ◌∙◌, ◌⊎◌, inl, inr, ℕ, zero, suc, ◌^◌, ◌<◌, ◌≤◌, ℤ, pos, negsuc, Bool, true, false, List, [], ◌∷◌, ◌++◌, decimal, drop, Result, Ok, Err, refl, sym, ap, subst, append-nil, arith, unsigned_abs}
use Rattle.std.specs.Char.{is_ascii_digit}
use Rattle.std.specs.Fmt.{signed_decimal}
use Rattle.std.proofs.lemmas.Fmt.{decimal_is_IsNumeral_wide}
use Rattle.ev_text.specs.Numerals.{BeginsWithoutDigit}
use Rattle.ev_text.specs.Readers.{below_zero, optional_at, signed_at, with_sign}
use Rattle.ev_text.specs.Scans.{and_then, past, rest_of, whole_at}
use Rattle.ev_text.specs.Texts.{AreOfNumber, BeginsWithDigit, IsLonger, IsNoEnd, IsTextOf, fault_place}
use Rattle.ev_text.specs.declared.TextFault.{TextFault}
use Rattle.ev_text.specs.declared.TextFault.TheVariants.{End, NotWhole, TooLarge, Word}
use Rattle.ev_text.proofs.ChoiceLaws.{keeps-optional, optional_is_none, optional_left, optional_never_fails, optional_stands, optional_taken}
use Rattle.ev_text.proofs.Grown.{Keeps, Stays, Within, grown, rest_of-grown, stays-of_keeps, stays-then}
use Rattle.ev_text.proofs.GrownNumbers.{keeps-whole}
use Rattle.ev_text.proofs.Mended.{IsMended, behind, mended-behind, mended-here, mended-whole}
use Rattle.ev_text.proofs.RangedNumbers.{digit_or_not, of_number}
use Rattle.ev_text.proofs.Readings.{TakesNumber-from_whole_at, first_digit, number_read, word_read}
use Rattle.ev_text.proofs.ReadingLaws.{Reads, Takes}
use Rattle.ev_text.proofs.Results.{Err-ne-Ok, Ok-injective, and_then-ok, fault_of_two}

module _ (Still : TextFault → List ℕ → List ℕ → Type 0) (still_shorter : (at : ℕ) (text more : List ℕ) → Still (TooLarge at) text more → IsLonger at text more → ⊥)
    (limit : ℕ) (some : 1 ≤ limit) (small : limit < 10 ^ 64) where
  abbrev IsSmall : ℤ → Type 0
  IsSmall z = unsigned_abs z ≤ limit

  abbrev Language : List ℕ → Type 0
  Language = IsTextOf signed_decimal IsSmall

  negative_stands : (s t u : List ℕ × ℕ) (z : ℤ) → rest_of s ≡ 45 ∷ rest_of t → below_zero s.1 (whole_at limit t) ≡ Ok (z, u) → IsSmall z × (rest_of s ≡ signed_decimal z ++ rest_of u)
  negative_stands s t u z front is = by (whole_at limit t) refl is
    where
      by : (r : Result (ℕ × (List ℕ × ℕ)) TextFault) → whole_at limit t ≡ r → below_zero s.1 r ≡ Ok (z, u) → IsSmall z × (rest_of s ≡ signed_decimal z ++ rest_of u)
      by (Ok (zero, v)) found same = absurd (Err-ne-Ok (TooLarge s.1) (z, u) same)
      by (Ok (suc n, v)) found same =
          let takes = TakesNumber-from_whole_at limit t (suc n) v small found in
          subst (λ (p : ℤ × (List ℕ × ℕ)). IsSmall p.0 × (rest_of s ≡ signed_decimal p.0 ++ rest_of p.1)) (Ok-injective (negsuc n, v) (z, u) same) (takes.within, front ∙ ap (λ xs. 45 ∷ xs) takes.number.spelled)
      by (Err (NotWhole there)) found same = absurd (Err-ne-Ok (NotWhole there) (z, u) same)
      by (Err (TooLarge there)) found same = absurd (Err-ne-Ok (TooLarge s.1) (z, u) same)
      by (Err (Word there)) found same = absurd (Err-ne-Ok (Word there) (z, u) same)
      by (Err (End there)) found same = absurd (Err-ne-Ok (End there) (z, u) same)

  signed_stands : (s u : List ℕ × ℕ) (z : ℤ) → signed_at limit s ≡ Ok (z, u) → IsSmall z × (rest_of s ≡ signed_decimal z ++ rest_of u)
  signed_stands s u z is =
      let marked = and_then-ok (optional_at (45 ∷ []) s) (with_sign limit s.1) (z, u) is in
      by marked.0.0 marked.0.1 marked.1 marked.2
    where
      by : (minus : Bool) (t : List ℕ × ℕ) → optional_at (45 ∷ []) s ≡ Ok (minus, t) → with_sign limit s.1 (minus, t) ≡ Ok (z, u) → IsSmall z × (rest_of s ≡ signed_decimal z ++ rest_of u)
      by true t mark found = negative_stands s t u z (optional_taken (45 ∷ []) s t mark).0 found
      by false t mark found =
          let here : t ≡ s = optional_left (45 ∷ []) s t mark in
          let number = and_then-ok (whole_at limit t) (λ found. Ok (pos found.0, found.1)) (z, u) found in
          let takes = TakesNumber-from_whole_at limit t number.0.0 number.0.1 small number.1 in
          subst (λ (p : ℤ × (List ℕ × ℕ)). IsSmall p.0 × (rest_of s ≡ signed_decimal p.0 ++ rest_of p.1)) (Ok-injective (pos number.0.0, number.0.1) (z, u) number.2) (takes.within, ap rest_of (sym here) ∙ takes.number.spelled)

  signed_taken : (z : ℤ) (rest : List ℕ) (s : List ℕ × ℕ) → IsSmall z → BeginsWithoutDigit rest → rest_of s ≡ signed_decimal z ++ rest → Takes (signed_at limit s) z rest
  signed_taken (pos n) rest s within before e =
      let digit = first_digit n (omega (arith, within)) in
      let none : optional_at (45 ∷ []) s ≡ Ok (false, s) =
      optional_is_none 45 digit.0 [] (digit.1 ++ rest) s (e ∙ ap (λ ds. ds ++ rest) digit.2) (λ same. let test : is_ascii_digit 45 ≡ true = ap is_ascii_digit (sym same) ∙ digit.3 in cc) in
      let number = number_read limit n rest s (omega (arith, within)) within e before in
      record { after = past (decimal n) s; is = ap (λ r. and_then r (with_sign limit s.1)) none ∙ ap (λ r. and_then r (λ (found : ℕ × (List ℕ × ℕ)). Ok (pos found.0, found.1))) number.0; left = number.1 }
  signed_taken (negsuc n) rest s within before e =
      let t = past (45 ∷ []) s in
      let mark = word_read (45 ∷ []) (decimal (suc n) ++ rest) s e in
      let number = number_read limit (suc n) rest t (omega (arith, within)) within mark.1 before in
      record {
        after = past (decimal (suc n)) t;
        is = ap (λ r. and_then r (with_sign limit s.1)) (optional_stands (45 ∷ []) (decimal (suc n) ++ rest) s e) ∙ ap (λ r. below_zero s.1 r) number.0;
        left = number.1;
      }

  -- behind a sign, a text that goes on is read as before, but for digits behind a `-0`
  negative_stays : (more : List ℕ) (s t : List ℕ × ℕ) → Within t → rest_of s ≡ 45 ∷ rest_of t → t.0 ≡ s.0 → Stays Still more t (below_zero s.1 (whole_at limit t)) (below_zero s.1 (whole_at limit (grown more t)))
  negative_stays more s t within front same_text = by (whole_at limit t) refl (keeps-whole limit more t within)
    where
      by : (here : Result (ℕ × (List ℕ × ℕ)) TextFault) → whole_at limit t ≡ here → Keeps more t here (whole_at limit (grown more t)) → Stays Still more t (below_zero s.1 here) (below_zero s.1 (whole_at limit (grown more t)))
      by (Ok (suc n, u)) is stay = (stay.0, stay.1, stay.2, λ left. ap (λ r. below_zero s.1 r) (stay.3 left))
      by (Ok (zero, u)) is stay = (λ none no_end. some_number none, λ no_end still. by_rest (rest_of u) refl still)
        where
          stands : rest_of t ≡ decimal 0 ++ rest_of u
          stands = (TakesNumber-from_whole_at limit t 0 u small is).number.spelled

          some_number : rest_of t ≡ [] → ⊥
          some_number none =
              let digit = first_digit 0 (omega arith) in
              let same : digit.0 ∷ (digit.1 ++ rest_of u) ≡ [] = ap (λ ds. ds ++ rest_of u) (sym digit.2) ∙ sym stands ∙ none in
              cc

          alone : rest_of u ≡ [] → rest_of t ≡ decimal 0
          alone none = stands ∙ ap (λ xs. decimal 0 ++ xs) none ∙ append-nil (decimal 0)

          at_end : rest_of u ≡ [] → BeginsWithDigit more ⊎ BeginsWithoutDigit more → Still (TooLarge s.1) t.0 more → below_zero s.1 (whole_at limit (grown more t)) ≡ Err (TooLarge s.1)
          at_end none (inl digit) still =
              let numeral = decimal_is_IsNumeral_wide 0 (omega arith) in
              let number : drop s.1 t.0 ≡ 45 ∷ decimal 0 = ap (λ (xs : List ℕ). drop s.1 xs) same_text ∙ front ∙ ap (λ xs. 45 ∷ xs) (alone none) in
              absurd (still_shorter s.1 t.0 more still (subst AreOfNumber (sym number) (inr refl, of_number (decimal 0) numeral.0.1), digit))
          at_end none (inr ended) still =
              ap (λ r. below_zero s.1 r) (number_read limit 0 more (grown more t) (omega arith) (omega arith) (rest_of-grown more t within ∙ ap (λ xs. xs ++ more) (alone none)) ended).0

          by_rest : (rest : List ℕ) → rest_of u ≡ rest → Still (TooLarge s.1) t.0 more → below_zero s.1 (whole_at limit (grown more t)) ≡ Err (TooLarge s.1)
          by_rest [] none still = at_end none (digit_or_not more) still
          by_rest (b ∷ bs) more_left still = ap (λ r. below_zero s.1 r) (stay.3 (λ none. absurd (let same : b ∷ bs ≡ [] = sym more_left ∙ none in cc)))
      by (Err (NotWhole there)) is stay = (stay.0, λ no_end still. ap (λ r. below_zero s.1 r) (stay.1 no_end tt))
      by (Err (TooLarge there)) is stay = (stay.0, λ no_end still. ap (λ r. below_zero s.1 r) (stay.1 no_end tt))
      by (Err (Word there)) is stay = (stay.0, λ no_end still. ap (λ r. below_zero s.1 r) (stay.1 no_end tt))
      by (Err (End there)) is stay = (stay.0, λ no_end still. absurd no_end)

  signed_stays : (more : List ℕ) (s : List ℕ × ℕ) → Within s → Stays Still more s (signed_at limit s) (signed_at limit (grown more s))
  signed_stays more s within =
      stays-then Still more s (optional_at (45 ∷ []) s) (optional_at (45 ∷ []) (grown more s)) (with_sign limit s.1) (with_sign limit s.1)
      (stays-of_keeps Still more s (optional_at (45 ∷ []) s) (optional_at (45 ∷ []) (grown more s)) (keeps-optional 45 more s within))
      (λ minus t is inside. by minus t is inside)
    where
      by : (minus : Bool) (t : List ℕ × ℕ) → optional_at (45 ∷ []) s ≡ Ok (minus, t) → Within t → Stays Still more t (with_sign limit s.1 (minus, t)) (with_sign limit s.1 (minus, grown more t))
      by true t mark inside =
          let taken = optional_taken (45 ∷ []) s t mark in
          negative_stays more s t inside taken.0 (ap (λ (u : List ℕ × ℕ). u.0) taken.1)
      by false t mark inside =
          stays-then Still more t (whole_at limit t) (whole_at limit (grown more t)) (λ found. Ok (pos found.0, found.1)) (λ found. Ok (pos found.0, found.1))
          (stays-of_keeps Still more t (whole_at limit t) (whole_at limit (grown more t)) (keeps-whole limit more t inside))
          (λ n u is still. (refl, still, λ none. none, λ left. refl))

  signed_mended : (s : List ℕ × ℕ) (fault : TextFault) → signed_at limit s ≡ Err fault → IsMended Language s fault
  signed_mended s fault is = elim (fault_of_two (optional_at (45 ∷ []) s) (with_sign limit s.1) fault is) [
    | inl none ↦ absurd (optional_never_fails (45 ∷ []) s fault none)
    | inr h ↦ by h.0.0 h.0.1 h.1 h.2
  ]
    where
      at_sign : (bad : TextFault) → TooLarge s.1 ≡ bad → IsMended Language s bad
      at_sign bad same = mended-here Language s bad (decimal 0) (pos 0, omega arith, refl) (ap fault_place (sym same)) (λ end. absurd (end (subst IsNoEnd same tt)))

      behind_sign : (t : List ℕ × ℕ) (bad : TextFault) → optional_at (45 ∷ []) s ≡ Ok (true, t) → whole_at limit t ≡ Err bad → IsMended Language s bad
      behind_sign t bad mark found =
          let taken = optional_taken (45 ∷ []) s t mark in
          mended-behind Language s bad (45 ∷ []) t taken.0 (ap (λ (u : List ℕ × ℕ). u.1) taken.1)
          (mended-whole (behind (45 ∷ []) Language) t bad limit (decimal 1) found (negsuc 0, some, refl))

      negative : (t : List ℕ × ℕ) (r : Result (ℕ × (List ℕ × ℕ)) TextFault) → optional_at (45 ∷ []) s ≡ Ok (true, t) → whole_at limit t ≡ r → below_zero s.1 r ≡ Err fault → IsMended Language s fault
      negative t (Ok (zero, u)) mark found e = at_sign fault (let same : TooLarge s.1 ≡ fault = cc in same)
      negative t (Ok (suc n, u)) mark found e = absurd (Err-ne-Ok fault (negsuc n, u) (sym e))
      negative t (Err (NotWhole there)) mark found e = let same : NotWhole there ≡ fault = cc in behind_sign t fault mark (found ∙ ap (λ f. Err f) same)
      negative t (Err (TooLarge there)) mark found e = at_sign fault (let same : TooLarge s.1 ≡ fault = cc in same)
      negative t (Err (Word there)) mark found e = let same : Word there ≡ fault = cc in behind_sign t fault mark (found ∙ ap (λ f. Err f) same)
      negative t (Err (End there)) mark found e = let same : End there ≡ fault = cc in behind_sign t fault mark (found ∙ ap (λ f. Err f) same)

      by : (minus : Bool) (t : List ℕ × ℕ) → optional_at (45 ∷ []) s ≡ Ok (minus, t) → with_sign limit s.1 (minus, t) ≡ Err fault → IsMended Language s fault
      by true t mark e = negative t (whole_at limit t) mark refl e
      by false t mark e = elim (fault_of_two (whole_at limit t) (λ found. Ok (pos found.0, found.1)) fault e) [
        | inl none ↦
            let here : t ≡ s = optional_left (45 ∷ []) s t mark in
            mended-whole Language s fault limit (decimal 0) (ap (λ u. whole_at limit u) (sym here) ∙ none) (pos 0, omega arith, refl)
        | inr h ↦ absurd (Err-ne-Ok fault (pos h.0.0, h.0.1) (sym h.2))
      ]

  pub reads-signed : Reads Still (signed_at limit) signed_decimal (λ z. unsigned_abs z ≤ limit) (λ z. unsigned_abs z ≤ limit) (λ z rest. BeginsWithoutDigit rest)
  reads-signed = record {
    example = (pos 0, omega arith);
    loose = λ z within. within;
    standing = signed_stands;
    taken = signed_taken;
    stays = signed_stays;
    mended = λ s fault within is. signed_mended s fault is;
  }
