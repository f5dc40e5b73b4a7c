-- A number in a text that goes on is read as before, if something stood behind it.
use Rattle.std.proofs.Common.{◌≡◌, ◌≢◌, ◌∙◌, ℕ, ◌^◌, ◌<◌, ◌≤◌, Bool, true, false, not, List, [], ◌∷◌, ◌++◌, length, drop, decimal, Result, Ok, Err, nat_eq, refl, sym, ap, subst, append_assoc, append-nil, arith, if◌then◌else◌}
use Rattle.std.specs.Char.{digit_value}
use Rattle.std.specs.Str.Parse.{AllDigits, digits_value}
use Rattle.std.proofs.lemmas.Bool.{eqb-true, false≢true, ne_eqb}
use Rattle.std.proofs.Math.Seq.{take-append_seam}
use Rattle.std.proofs.lemmas.Fmt.{decimal_digit}
use Rattle.std.proofs.lemmas.Str.Parse.{digits_value-take-le}
use Rattle.ev_text.specs.Numerals.{BeginsWithoutDigit, leading_digits, is_canonical}
use Rattle.ev_text.specs.Scans.{and_then, past, rest_of, whole_at}
use Rattle.ev_text.specs.declared.TextFault.{TextFault}
use Rattle.ev_text.specs.declared.TextFault.TheVariants.{NotWhole, TooLarge}
use Rattle.ev_text.proofs.DigitRuns.{AllDigits-leading_digits, leading_digits-append, run_and_rest, run_has_ended, test_from_digit, leading_digits-cons}
use Rattle.ev_text.proofs.Readings.{TakesNumber-from_whole_at, rest_of-past, whole_at-cases}
use Rattle.ev_text.specs.Readers.{positive_at}
use Rattle.ev_text.proofs.Grown.{Keeps, Within, grown, past_within, rest_of-grown}

-- the digits in front of a text that goes on
record GoesOn (text more : List ℕ) : Type 0 where
  extra : List ℕ
  digits : leading_digits (text ++ more) ≡ leading_digits text ++ extra
  only_at_end : drop (length (leading_digits text)) text ≢ [] → extra ≡ []

digits_before : (ds rest : List ℕ) → AllDigits 10 ds → leading_digits (ds ++ rest) ≡ ds ++ leading_digits rest
digits_before [] rest all = refl
digits_before (d ∷ ds) rest all =
    leading_digits-cons d (ds ++ rest) ∙ rw (test_from_digit d all.0) (ap (λ xs. d ∷ xs) (digits_before ds rest all.1))

goes_on : (text more : List ℕ) → GoesOn text more
goes_on text more =
    let ds = leading_digits text in
    let rest = drop (length ds) text in
    record {
      extra = leading_digits (rest ++ more);
      digits = ap (λ xs. leading_digits (xs ++ more)) (run_and_rest text) ∙ ap leading_digits (append_assoc ds rest more) ∙ digits_before ds (rest ++ more) (AllDigits-leading_digits text);
      only_at_end = none_behind rest (run_has_ended text);
    }
  where
    none_behind : (rest : List ℕ) → BeginsWithoutDigit rest → rest ≢ [] → leading_digits (rest ++ more) ≡ []
    none_behind [] ended some = absurd (some refl)
    none_behind (b ∷ bs) ended some = leading_digits-append [] ((b ∷ bs) ++ more) tt ended

canonical_front : (ds extra : List ℕ) → is_canonical (ds ++ extra) ≡ true → (ds ≡ [] → extra ≡ []) → is_canonical ds ≡ true
canonical_front [] extra canonical none = subst (λ (xs : List ℕ). is_canonical xs ≡ true) (none refl) canonical
canonical_front (d ∷ []) extra canonical none = refl
canonical_front (d ∷ e ∷ ds) extra canonical none = canonical

-- a number past a limit is no `0`, so further digits may follow
canonical_further : (limit : ℕ) (ds extra : List ℕ) → is_canonical ds ≡ true → limit < digits_value 10 ds → is_canonical (ds ++ extra) ≡ true
canonical_further limit [] extra canonical large = absurd (cc)
canonical_further limit (d ∷ []) [] canonical large = refl
canonical_further limit (d ∷ []) (e ∷ es) canonical large =
    ap not (ne_eqb d 48 (λ same. let none : digit_value d ≡ 0 = ap digit_value same in absurd (omega arith)))
canonical_further limit (d ∷ e ∷ ds) extra canonical large = canonical

no_less : (ds extra : List ℕ) → digits_value 10 ds ≤ digits_value 10 (ds ++ extra)
no_less ds extra = subst (λ (xs : List ℕ). digits_value 10 xs ≤ digits_value 10 (ds ++ extra)) (take-append_seam ds extra) (digits_value-take-le 10 (ds ++ extra) (length ds) (omega arith))

no_digits : (xs : List ℕ) → xs ≡ [] → is_canonical (leading_digits xs) ≡ true → ⊥
no_digits [] none canonical = cc
no_digits (x ∷ xs) none canonical = cc

some_front : (xs ys : List ℕ) → xs ≢ [] → xs ++ ys ≢ []
some_front [] ys some none = some refl
some_front (x ∷ xs) ys some none = cc

module _ (limit : ℕ) (more : List ℕ) (s : List ℕ × ℕ) (within : Within s) where
  later_digits : leading_digits (rest_of (grown more s)) ≡ leading_digits (rest_of s) ++ (goes_on (rest_of s) more).extra
  later_digits = ap leading_digits (rest_of-grown more s within) ∙ (goes_on (rest_of s) more).digits

  still_not_whole : rest_of s ≢ [] → is_canonical (leading_digits (rest_of s)) ≡ false → whole_at limit (grown more s) ≡ Err (NotWhole s.1)
  still_not_whole some spoiled =
      let before : is_canonical (leading_digits (rest_of (grown more s))) ≡ true → ⊥ = λ canonical.
      let own = canonical_front (leading_digits (rest_of s)) (goes_on (rest_of s) more).extra (sym (ap is_canonical later_digits) ∙ canonical) (λ none. (goes_on (rest_of s) more).only_at_end (λ empty. some (run_and_rest (rest_of s) ∙ ap (λ ds. ds ++ drop (length (leading_digits (rest_of s))) (rest_of s)) none ∙ empty))) in
      false≢true (sym spoiled ∙ own) in
      whole_at-cases limit (grown more s) (λ r. r ≡ Err (NotWhole s.1))
      (λ none. absurd (some_front (rest_of s) more some (sym (rest_of-grown more s within) ∙ none)))
      (λ there still. refl)
      (λ canonical large. absurd (before canonical))
      (λ canonical fits. absurd (before canonical))

  still_too_large : is_canonical (leading_digits (rest_of s)) ≡ true → limit < digits_value 10 (leading_digits (rest_of s)) → whole_at limit (grown more s) ≡ Err (TooLarge s.1)
  still_too_large canonical large =
      let ds = leading_digits (rest_of s) in
      let extra = (goes_on (rest_of s) more).extra in
      let later : is_canonical (leading_digits (rest_of (grown more s))) ≡ true = ap is_canonical later_digits ∙ canonical_further limit ds extra canonical large in
      let value : digits_value 10 (leading_digits (rest_of (grown more s))) ≡ digits_value 10 (ds ++ extra) = ap (digits_value 10) later_digits in
      whole_at-cases limit (grown more s) (λ r. r ≡ Err (TooLarge s.1))
      (λ none. absurd (no_digits (rest_of (grown more s)) none later))
      (λ there spoiled. absurd (false≢true (sym spoiled ∙ later)))
      (λ still past. refl)
      (λ still fits. absurd (omega (arith, fits, value, large, no_less ds extra)))

  still_taken : is_canonical (leading_digits (rest_of s)) ≡ true → digits_value 10 (leading_digits (rest_of s)) ≤ limit → rest_of (past (leading_digits (rest_of s)) s) ≢ []
      → whole_at limit (grown more s) ≡ Ok (digits_value 10 (leading_digits (rest_of s)), grown more (past (leading_digits (rest_of s)) s))
  still_taken canonical fits some =
      let ds = leading_digits (rest_of s) in
      let left : rest_of (past ds s) ≡ drop (length ds) (rest_of s) = rest_of-past ds (drop (length ds) (rest_of s)) s (run_and_rest (rest_of s)) in
      let none_more = (goes_on (rest_of s) more).only_at_end (λ none. some (left ∙ none)) in
      let same : leading_digits (rest_of (grown more s)) ≡ ds = later_digits ∙ ap (λ xs. ds ++ xs) none_more ∙ append-nil ds in
      let later : is_canonical (leading_digits (rest_of (grown more s))) ≡ true = ap is_canonical same ∙ canonical in
      let value : digits_value 10 (leading_digits (rest_of (grown more s))) ≡ digits_value 10 ds = ap (digits_value 10) same in
      whole_at-cases limit (grown more s) (λ r. r ≡ Ok (digits_value 10 ds, grown more (past ds s)))
      (λ none. absurd (no_digits (rest_of (grown more s)) none later))
      (λ there spoiled. absurd (false≢true (sym spoiled ∙ later)))
      (λ still large. absurd (omega (arith, large, value, fits)))
      (λ still small. λ i. Ok (value i, past (same i) (grown more s)))

  pub keeps-whole : Keeps more s (whole_at limit s) (whole_at limit (grown more s))
  keeps-whole =
      whole_at-cases limit s (λ r. Keeps more s r (whole_at limit (grown more s)))
      (λ none. (λ _ no_end. no_end, λ no_end always. absurd no_end))
      (λ some spoiled. (λ none no_end. some none, λ no_end always. still_not_whole some spoiled))
      (λ canonical large. (λ none no_end. no_digits (rest_of s) none canonical, λ no_end always. still_too_large canonical large))
      (λ canonical fits. (
        refl,
        past_within (leading_digits (rest_of s)) (drop (length (leading_digits (rest_of s))) (rest_of s)) s within (run_and_rest (rest_of s)),
        λ none. absurd (no_digits (rest_of s) none canonical),
        still_taken canonical fits,
      ))

-- a numeral that begins with `0` is no other number
zero_in_front : (xs : List ℕ) → is_canonical (leading_digits (48 ∷ xs)) ≡ true → digits_value 10 (leading_digits (48 ∷ xs)) ≡ 0
zero_in_front xs canonical = ap (digits_value 10) run ∙ by (leading_digits xs) (sym (ap is_canonical run) ∙ canonical)
  where
    run : leading_digits (48 ∷ xs) ≡ 48 ∷ leading_digits xs
    run = digits_before (48 ∷ []) xs (omega arith, tt)

    by : (ds : List ℕ) → is_canonical (48 ∷ ds) ≡ true → digits_value 10 (48 ∷ ds) ≡ 0
    by [] is = refl
    by (d ∷ ds) is = absurd (false≢true is)

abbrev pub unless_zero : List ℕ × ℕ → ℕ × (List ℕ × ℕ) → Result (ℕ × (List ℕ × ℕ)) TextFault
unless_zero s found = if nat_eq found.0 0 then Err (NotWhole s.1) else Ok found

-- a positive number doesn't begin with `0`
no_positive : (limit : ℕ) (xs : List ℕ) (s : List ℕ × ℕ) → rest_of s ≡ 48 ∷ xs → positive_at limit s ≡ Err (NotWhole s.1)
no_positive limit xs s e =
    whole_at-cases limit s (λ r. and_then r (unless_zero s) ≡ Err (NotWhole s.1))
    (λ none. absurd (let same : 48 ∷ xs ≡ [] = sym e ∙ none in cc))
    (λ some spoiled. refl)
    (λ canonical large. absurd (let value = zero canonical in omega arith))
    (λ canonical fits. let value = zero canonical in λ i. if nat_eq (value i) 0 then Err (NotWhole s.1) else Ok (value i, past (leading_digits (rest_of s)) s))
  where
    zero : is_canonical (leading_digits (rest_of s)) ≡ true → digits_value 10 (leading_digits (rest_of s)) ≡ 0
    zero canonical =
        ap (λ ds. digits_value 10 (leading_digits ds)) e ∙ zero_in_front xs (subst (λ (ds : List ℕ). is_canonical (leading_digits ds) ≡ true) e canonical)

pub keeps-positive : (limit : ℕ) (more : List ℕ) (s : List ℕ × ℕ) → limit < 10 ^ 64 → Within s → Keeps more s (positive_at limit s) (positive_at limit (grown more s))
keeps-positive limit more s small_limit within = by (whole_at limit s) refl (keeps-whole limit more s within)
  where
    by : (answer : Result (ℕ × (List ℕ × ℕ)) TextFault) → whole_at limit s ≡ answer → Keeps more s answer (whole_at limit (grown more s)) → Keeps more s (and_then answer (unless_zero s)) (positive_at limit (grown more s))
    by (Err fault) is keeps = (keeps.0, λ no_end always. ap (λ r. and_then r (unless_zero s)) (keeps.1 no_end always))
    by (Ok (n, t)) is keeps = by_value (nat_eq n 0) refl
      where
        by_value : (none : Bool) → nat_eq n 0 ≡ none → Keeps more s (if none then Err (NotWhole s.1) else Ok (n, t)) (positive_at limit (grown more s))
        by_value false some = (
          keeps.0,
          keeps.1,
          keeps.2,
          λ left. ap (λ r. and_then r (unless_zero s)) (keeps.3 left) ∙ ap (λ (b : Bool). if b then Err (NotWhole s.1) else Ok (n, grown more t)) some,
        )
        by_value true none =
            let takes = TakesNumber-from_whole_at limit s n t small_limit is in
            let digit : rest_of s ≡ 48 ∷ rest_of t = takes.number.spelled ∙ ap (λ m. decimal m ++ rest_of t) (eqb-true n 0 none) ∙ ap (λ ds. ds ++ rest_of t) (decimal_digit 0 (omega arith)) in (
              λ empty no_end. let same : 48 ∷ rest_of t ≡ [] = sym digit ∙ empty in cc,
              λ no_end always. no_positive limit (rest_of t ++ more) (grown more s) (rest_of-grown more s within ∙ ap (λ xs. xs ++ more) digit),
            )
