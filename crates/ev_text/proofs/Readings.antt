-- What `whole_at` and `word_at` answer, in both directions: the laws by which readers of longer texts compose.
use Rattle.std.proofs.Common.{◌≡◌, ◌≢◌, ◌∙◌, ◌↔◌, ℕ, ◌+◌, ◌^◌, ◌<◌, ◌≤◌, ◌==◌, Bool, true, false, not, List, [], ◌∷◌, ◌++◌, length, drop, nat_eq, nat_lt, if◌then◌else◌, decimal, Ok, Err, arith, refl, sym, ap, subst, length-append}
use Rattle.std.specs.Prelude.{Result}
use Rattle.std.specs.Char.{is_ascii_digit}
use Rattle.std.specs.List.{starts_with}
use Rattle.std.specs.Str.Parse.{AllDigits, digits_value}
use Rattle.std.proofs.Math.Seq.{drop-append_seam}
use Rattle.std.proofs.lemmas.Bool.Decides.{nat_tests, Decides-eqb}
use Rattle.std.proofs.lemmas.Fmt.{decimal_is_IsNumeral_wide}
use Rattle.std.proofs.lemmas.List.{drop-drop, append-nil, append_cancel_left, length-drop}
use Rattle.std.proofs.lemmas.Slice.Eq.{starts_is}
use Rattle.ev_text.specs.declared.TextFault.{TextFault}
use Rattle.ev_text.specs.declared.TextFault.TheVariants.{NotWhole, TooLarge, Word, End}
use Rattle.ev_text.specs.Numerals.{leading_digits, is_canonical, BeginsWithoutDigit, BeginsWithNumber, StandsInFront}
use Rattle.ev_text.specs.Scans.{rest_of, past, whole_at, word_at, IsPrefixOf, IsProperPrefix, TakesNumber, TakesWord}
use Rattle.ev_text.proofs.DigitRuns.{test_from_digit, AllDigits-leading_digits, run_has_ended, run_and_rest, leading_digits-append}
use Rattle.ev_text.proofs.DecimalSpellings.{is_canonical-decimal, decimal-digits_value, decimal_injective}

-- the place behind a word that stands in front leaves what follows the word
pub rest_of-past : (word rest : List ℕ) (s : List ℕ × ℕ) → rest_of s ≡ word ++ rest → rest_of (past word s) ≡ rest
rest_of-past word rest s e = sym (drop-drop (length word) s.1 s.0) ∙ ap (λ text. drop (length word) text) e ∙ drop-append_seam word rest

-- the place behind two words in a row
pub past-append : (front back : List ℕ) (s : List ℕ × ℕ) → past (front ++ back) s ≡ past back (past front s)
past-append front back s =
    let same : s.1 + length (front ++ back) ≡ s.1 + length front + length back = omega (arith, length-append front back) in
    ap (λ (n : ℕ). let t : List ℕ × ℕ = (s.0, n) in t) same

-- the run of digits before a number's end is its spelling
pub digits_of_number : (text : List ℕ) (n : ℕ) (rest : List ℕ) → n < 10 ^ 64 → BeginsWithNumber text n rest → leading_digits text ≡ decimal n
digits_of_number text n rest small h = ap leading_digits h.spelled ∙ leading_digits-append (decimal n) rest (decimal_is_IsNumeral_wide n small).0.1 h.ended

-- a canonical run is the spelling of its value
pub number_of_digits : (text : List ℕ) → is_canonical (leading_digits text) ≡ true → digits_value 10 (leading_digits text) < 10 ^ 64 → decimal (digits_value 10 (leading_digits text)) ≡ leading_digits text
number_of_digits text canonical small = decimal-digits_value (leading_digits text) (AllDigits-leading_digits text) canonical small

-- a text begins with at most one number, and one rest follows it
pub same_number : (text : List ℕ) (m n : ℕ) (rest more : List ℕ) → m < 10 ^ 64 → n < 10 ^ 64 → BeginsWithNumber text m rest → BeginsWithNumber text n more → (m ≡ n) × (rest ≡ more)
same_number text m n rest more small_m small_n p q =
    let numerals : decimal m ≡ decimal n = sym (digits_of_number text m rest small_m p) ∙ digits_of_number text n more small_n q in
    (decimal_injective m n small_m small_n numerals, append_cancel_left (decimal n) rest more (ap (λ x. x ++ rest) (sym numerals) ∙ sym p.spelled ∙ q.spelled))

-- the number that stands in front is that of the run of digits, which is canonical
pub run_of_number : (n : ℕ) (text : List ℕ) → StandsInFront n text → (is_canonical (leading_digits text) ≡ true) × (digits_value 10 (leading_digits text) ≡ n)
run_of_number n text h =
    let run : leading_digits text ≡ h.numeral = ap leading_digits h.parts ∙ leading_digits-append h.numeral h.rest h.spelling.digits.1 h.ended in
    (ap is_canonical run ∙ h.spelling.canonical, ap (digits_value 10) run ∙ h.spelling.value)

-- and a canonical run is a number that stands in front
pub StandsInFront-run : (text : List ℕ) → is_canonical (leading_digits text) ≡ true → StandsInFront (digits_value 10 (leading_digits text)) text
StandsInFront-run text canonical = record {
  numeral = leading_digits text;
  rest = drop (length (leading_digits text)) text;
  parts = run_and_rest text;
  spelling = record { digits = (some (leading_digits text) canonical, AllDigits-leading_digits text); canonical = canonical; value = refl };
  ended = run_has_ended text;
}
  where
    some : (ds : List ℕ) → is_canonical ds ≡ true → 0 < length ds
    some [] e = absurd (cc)
    some (d ∷ ds) e = omega arith

-- `whole_at` by its three tests
whole_at_by : (limit : ℕ) (s : List ℕ × ℕ) (none spoiled large : Bool) → (length (rest_of s) == 0) ≡ none → not (is_canonical (leading_digits (rest_of s))) ≡ spoiled
    → nat_lt limit (digits_value 10 (leading_digits (rest_of s))) ≡ large
    → whole_at limit s ≡ (if none then Err (End s.1) else if spoiled then Err (NotWhole s.1) else if large then Err (TooLarge s.1) else Ok (digits_value 10 (leading_digits (rest_of s)), past (leading_digits (rest_of s)) s))
whole_at_by limit s none spoiled large e f g = λ i.
    if e i then Err (End s.1) else if f i then Err (NotWhole s.1) else if g i then Err (TooLarge s.1) else Ok (digits_value 10 (leading_digits (rest_of s)), past (leading_digits (rest_of s)) s)

-- the four answers of `whole_at`, each with what it says of the text
pub whole_at-cases : (limit : ℕ) (s : List ℕ × ℕ) (P : Result (ℕ × (List ℕ × ℕ)) TextFault → Type 0)
    → (rest_of s ≡ [] → P (Err (End s.1)))
    → (rest_of s ≢ [] → is_canonical (leading_digits (rest_of s)) ≡ false → P (Err (NotWhole s.1)))
    → (is_canonical (leading_digits (rest_of s)) ≡ true → limit < digits_value 10 (leading_digits (rest_of s)) → P (Err (TooLarge s.1)))
    → (is_canonical (leading_digits (rest_of s)) ≡ true → digits_value 10 (leading_digits (rest_of s)) ≤ limit → P (Ok (digits_value 10 (leading_digits (rest_of s)), past (leading_digits (rest_of s)) s)))
    → P (whole_at limit s)
whole_at-cases limit s P ended spoiled large number = by (length (rest_of s) == 0) (not (is_canonical (leading_digits (rest_of s)))) (nat_lt limit (digits_value 10 (leading_digits (rest_of s)))) refl refl refl
  where
    empty : (xs : List ℕ) → (length xs == 0) ≡ true → xs ≡ []
    empty [] e = refl
    empty (x ∷ xs) e = absurd (grind (arith, nat_tests))

    filled : (xs : List ℕ) → (length xs == 0) ≡ false → xs ≢ []
    filled [] e same = absurd (cc)
    filled (x ∷ xs) e same = absurd (cc)

    canonical : (b : Bool) → not b ≡ false → b ≡ true
    canonical true e = refl
    canonical false e = absurd (cc)

    not_canonical : (b : Bool) → not b ≡ true → b ≡ false
    not_canonical true e = absurd (cc)
    not_canonical false e = refl

    by : (a b c : Bool) → (length (rest_of s) == 0) ≡ a → not (is_canonical (leading_digits (rest_of s))) ≡ b → nat_lt limit (digits_value 10 (leading_digits (rest_of s))) ≡ c → P (whole_at limit s)
    by true b c e f g = subst P (sym (whole_at_by limit s true b c e f g)) (ended (empty _ e))
    by false true c e f g = subst P (sym (whole_at_by limit s false true c e f g)) (spoiled (filled _ e) (not_canonical _ f))
    by false false true e f g = subst P (sym (whole_at_by limit s false false true e f g)) (large (canonical _ f) (grind (arith, nat_tests)))
    by false false false e f g = subst P (sym (whole_at_by limit s false false false e f g)) (number (canonical _ f) (grind (arith, nat_tests)))

-- the number of a canonical run is taken
own_number : (limit : ℕ) (s : List ℕ × ℕ) → limit < 10 ^ 64 → is_canonical (leading_digits (rest_of s)) ≡ true → digits_value 10 (leading_digits (rest_of s)) ≤ limit
    → TakesNumber limit (digits_value 10 (leading_digits (rest_of s))) s (past (leading_digits (rest_of s)) s)
own_number limit s small canonical fits =
    let digits = leading_digits (rest_of s) in
    let is : decimal (digits_value 10 digits) ≡ digits = number_of_digits (rest_of s) canonical (omega arith) in
    let after : rest_of (past digits s) ≡ drop (length digits) (rest_of s) = rest_of-past digits _ s (run_and_rest (rest_of s)) in
    record {
      within = fits;
      number = record {
        spelled = run_and_rest (rest_of s) ∙ ap (λ x. x ++ drop (length digits) (rest_of s)) (sym is) ∙ ap (λ x. decimal (digits_value 10 digits) ++ x) (sym after);
        ended = subst BeginsWithoutDigit (sym after) (run_has_ended (rest_of s));
      };
      moved = ap (λ x. past x s) (sym is);
    }

ok_injective : (p q : ℕ × (List ℕ × ℕ)) → (let r : Result (ℕ × (List ℕ × ℕ)) TextFault = Ok p in r) ≡ Ok q → p ≡ q
ok_injective p q e = cc

-- a number that is taken stands there in its one spelling, up to a byte that is no digit
pub TakesNumber-from_whole_at : (limit : ℕ) (s : List ℕ × ℕ) (n : ℕ) (t : List ℕ × ℕ) → limit < 10 ^ 64 → whole_at limit s ≡ Ok (n, t) → TakesNumber limit n s t
TakesNumber-from_whole_at limit s n t small = whole_at-cases limit s (λ r. r ≡ Ok (n, t) → TakesNumber limit n s t)
    (λ none e. absurd (cc))
    (λ some spoiled e. absurd (cc))
    (λ canonical large e. absurd (cc))
    (λ canonical fits e.
    let same = ok_injective (digits_value 10 (leading_digits (rest_of s)), past (leading_digits (rest_of s)) s) (n, t) e in
    let value : digits_value 10 (leading_digits (rest_of s)) ≡ n = ap (λ p. p.0) same in
    let place : past (leading_digits (rest_of s)) s ≡ t = ap (λ p. p.1) same in
    subst (λ (m : ℕ). TakesNumber limit m s t) value (subst (λ (u : List ℕ × ℕ). TakesNumber limit (digits_value 10 (leading_digits (rest_of s))) s u) place (own_number limit s small canonical fits)))

-- an empty text has no canonical run
no_run : (xs : List ℕ) → xs ≡ [] → is_canonical (leading_digits xs) ≡ true → ⊥
no_run [] e canonical = cc
no_run (x ∷ xs) e canonical = cc

-- a number within the limit that stands there is taken, up to the end of its spelling
pub whole_at-number : (limit : ℕ) (s : List ℕ × ℕ) (n : ℕ) (rest : List ℕ) → n < 10 ^ 64 → n ≤ limit → BeginsWithNumber (rest_of s) n rest → whole_at limit s ≡ Ok (n, past (decimal n) s)
whole_at-number limit s n rest small fits h =
    let run : leading_digits (rest_of s) ≡ decimal n = digits_of_number (rest_of s) n rest small h in
    let canonical : is_canonical (leading_digits (rest_of s)) ≡ true = ap is_canonical run ∙ is_canonical-decimal n small in
    let value : digits_value 10 (leading_digits (rest_of s)) ≡ n = ap (digits_value 10) run ∙ (decimal_is_IsNumeral_wide n small).1 in
    whole_at-cases limit s (λ r. r ≡ Ok (n, past (decimal n) s))
    (λ none. absurd (no_run _ none canonical))
    (λ some spoiled. absurd (cc))
    (λ is large. absurd (omega arith))
    (λ is within. λ i. Ok (value i, past (run i) s))

-- `word_at` by its two tests
word_at_by : (word : List ℕ) (s : List ℕ × ℕ) (stands cut : Bool) → starts_with nat_eq (rest_of s) word ≡ stands → starts_with nat_eq word (rest_of s) ≡ cut
    → word_at word s ≡ (if stands then Ok (past word s) else if cut then Err (End s.1) else Err (Word s.1))
word_at_by word s stands cut e f = λ i. if e i then Ok (past word s) else if f i then Err (End s.1) else Err (Word s.1)

-- the test of a prefix
prefix_from_test : (text word : List ℕ) → starts_with nat_eq text word ≡ true → IsPrefixOf word text
prefix_from_test text word e = (drop (length word) text, (starts_is Decides-eqb text word (starts_with nat_eq text word) refl).0 e)

test_from_prefix : (text word : List ℕ) → IsPrefixOf word text → starts_with nat_eq text word ≡ true
test_from_prefix text word h = (starts_is Decides-eqb text word (starts_with nat_eq text word) refl).1 h.0 h.1

-- a text that is the word cut off does not begin with the word
proper_prefix_is_shorter : (text word : List ℕ) → IsProperPrefix text word → IsPrefixOf word text → ⊥
proper_prefix_is_shorter text word cut stands = by cut.0 cut.1 cut.2
  where
    by : (more : List ℕ) → word ≡ text ++ more → more ≢ [] → ⊥
    by [] e some = some refl
    by (x ∷ xs) e some = omega (arith, ap length e, ap length stands.1, length-append text (x ∷ xs), length-append word stands.0)

-- a word that begins with the text, and does not stand in it, is cut off
proper_prefix_from_tests : (text word : List ℕ) → starts_with nat_eq text word ≡ false → IsPrefixOf text word → IsProperPrefix text word
proper_prefix_from_tests text word e h = (h.0, h.1, λ none. same (h.1 ∙ ap (λ x. text ++ x) none ∙ append-nil text))
  where
    same : word ≡ text → ⊥
    same is = let test : starts_with nat_eq text word ≡ true = test_from_prefix text word ([], sym is ∙ sym (append-nil word)) in cc

-- the three answers of `word_at`, each with what it says of the text
pub word_at-cases : (word : List ℕ) (s : List ℕ × ℕ) (P : Result (List ℕ × ℕ) TextFault → Type 0)
    → (IsPrefixOf word (rest_of s) → P (Ok (past word s)))
    → (IsProperPrefix (rest_of s) word → P (Err (End s.1)))
    → (¬ (IsPrefixOf word (rest_of s)) → ¬ (IsProperPrefix (rest_of s) word) → P (Err (Word s.1)))
    → P (word_at word s)
word_at-cases word s P stands cut differs = by (starts_with nat_eq (rest_of s) word) (starts_with nat_eq word (rest_of s)) refl refl
  where
    by : (a b : Bool) → starts_with nat_eq (rest_of s) word ≡ a → starts_with nat_eq word (rest_of s) ≡ b → P (word_at word s)
    by true b e f = subst P (sym (word_at_by word s true b e f)) (stands (prefix_from_test _ _ e))
    by false true e f = subst P (sym (word_at_by word s false true e f)) (cut (proper_prefix_from_tests _ _ e (prefix_from_test _ _ f)))
    by false false e f = subst P (sym (word_at_by word s false false e f))
        (differs (λ h. let test : starts_with nat_eq (rest_of s) word ≡ true = test_from_prefix _ _ h in cc) (λ h. let test : starts_with nat_eq word (rest_of s) ≡ true = test_from_prefix _ _ (h.0, h.1) in cc))

-- a word that stands there is taken
pub word_at-word : (word rest : List ℕ) (s : List ℕ × ℕ) → rest_of s ≡ word ++ rest → word_at word s ≡ Ok (past word s)
word_at-word word rest s e = word_at_by word s true _ (test_from_prefix (rest_of s) word (rest, e)) refl

-- a word that is taken stands there
pub TakesWord-from_word_at : (word : List ℕ) (s t : List ℕ × ℕ) → word_at word s ≡ Ok t → TakesWord word s t
TakesWord-from_word_at word s t = word_at-cases word s (λ r. r ≡ Ok t → TakesWord word s t)
    (λ stands e.
    let place : past word s ≡ t = cc in
    subst (λ (u : List ℕ × ℕ). TakesWord word s u) place (record { standing = stands.1 ∙ ap (λ x. word ++ x) (sym (rest_of-past word stands.0 s stands.1)); moved = refl }))
    (λ cut e. absurd (cc))
    (λ differs uncut e. absurd (cc))

-- when `whole_at` gives each of its answers

pub whole_at-taken : (limit n : ℕ) (s t : List ℕ × ℕ) → limit < 10 ^ 64 → (whole_at limit s ≡ Ok (n, t)) ↔ TakesNumber limit n s t
whole_at-taken limit n s t small = (
  TakesNumber-from_whole_at limit s n t small,
  λ h. let within = h.within in whole_at-number limit s n (rest_of t) (omega arith) within h.number ∙ ap (λ (u : List ℕ × ℕ). let r : Result (ℕ × (List ℕ × ℕ)) TextFault = Ok (n, u) in r) (sym h.moved),
)

pub whole_at-end : (limit : ℕ) (s : List ℕ × ℕ) → (whole_at limit s ≡ Err (End s.1)) ↔ (rest_of s ≡ [])
whole_at-end limit s = whole_at-cases limit s (λ r. (r ≡ Err (End s.1)) ↔ (rest_of s ≡ []))
    (λ none. (λ e. none, λ _. refl))
    (λ some spoiled. (λ e. absurd (cc), λ none. absurd (some none)))
    (λ canonical large. (λ e. absurd (cc), λ none. absurd (no_run _ none canonical)))
    (λ canonical fits. (λ e. absurd (cc), λ none. absurd (no_run _ none canonical)))

pub whole_at-not_whole : (limit : ℕ) (s : List ℕ × ℕ) → (whole_at limit s ≡ Err (NotWhole s.1)) ↔ ((rest_of s ≢ []) × ((n : ℕ) → ¬ (StandsInFront n (rest_of s))))
whole_at-not_whole limit s = whole_at-cases limit s (λ r. (r ≡ Err (NotWhole s.1)) ↔ ((rest_of s ≢ []) × ((n : ℕ) → ¬ (StandsInFront n (rest_of s)))))
    (λ none. (λ e. absurd (cc), λ h. absurd (h.0 none)))
    (λ some spoiled. (λ e. (some, λ n stands. let canonical = (run_of_number n (rest_of s) stands).0 in cc), λ _. refl))
    (λ canonical large. (λ e. absurd (cc), λ h. absurd (h.1 _ (StandsInFront-run (rest_of s) canonical))))
    (λ canonical fits. (λ e. absurd (cc), λ h. absurd (h.1 _ (StandsInFront-run (rest_of s) canonical))))

pub whole_at-too_large : (limit : ℕ) (s : List ℕ × ℕ) → (whole_at limit s ≡ Err (TooLarge s.1)) ↔ ((n : ℕ) × StandsInFront n (rest_of s) × (limit < n))
whole_at-too_large limit s = whole_at-cases limit s (λ r. (r ≡ Err (TooLarge s.1)) ↔ ((n : ℕ) × StandsInFront n (rest_of s) × (limit < n)))
    (λ none. (λ e. absurd (cc), λ h. absurd (no_run _ none (run_of_number h.0 (rest_of s) h.1).0)))
    (λ some spoiled. (λ e. absurd (cc), λ h. absurd (let canonical = (run_of_number h.0 (rest_of s) h.1).0 in cc)))
    (λ canonical large. (λ e. (_, StandsInFront-run (rest_of s) canonical, large), λ _. refl))
    (λ canonical fits. (λ e. absurd (cc), λ h. absurd (let value = (run_of_number h.0 (rest_of s) h.1).1 in let past_it = h.2 in omega arith)))

-- when `word_at` gives each of its answers

pub word_at-taken : (word : List ℕ) (s t : List ℕ × ℕ) → (word_at word s ≡ Ok t) ↔ TakesWord word s t
word_at-taken word s t = (
  TakesWord-from_word_at word s t,
  λ h. word_at-word word (rest_of t) s h.standing ∙ ap (λ (u : List ℕ × ℕ). let r : Result (List ℕ × ℕ) TextFault = Ok u in r) (sym h.moved),
)

pub word_at-end : (word : List ℕ) (s : List ℕ × ℕ) → (word_at word s ≡ Err (End s.1)) ↔ IsProperPrefix (rest_of s) word
word_at-end word s = word_at-cases word s (λ r. (r ≡ Err (End s.1)) ↔ IsProperPrefix (rest_of s) word)
    (λ stands. (λ e. absurd (cc), λ cut. absurd (proper_prefix_is_shorter (rest_of s) word cut stands)))
    (λ cut. (λ e. cut, λ _. refl))
    (λ other uncut. (λ e. absurd (cc), λ cut. absurd (uncut cut)))

pub word_at-differs : (word : List ℕ) (s : List ℕ × ℕ) → (word_at word s ≡ Err (Word s.1)) ↔ (¬ (IsPrefixOf word (rest_of s)) × ¬ (IsProperPrefix (rest_of s) word))
word_at-differs word s = word_at-cases word s (λ r. (r ≡ Err (Word s.1)) ↔ (¬ (IsPrefixOf word (rest_of s)) × ¬ (IsProperPrefix (rest_of s) word)))
    (λ stands. (λ e. absurd (cc), λ h. absurd (h.0 stands)))
    (λ cut. (λ e. absurd (cc), λ h. absurd (h.1 cut)))
    (λ other uncut. (λ e. (other, uncut), λ _. refl))

-- where readers read on: a part that stands at the place is taken, and what follows it stands at the new place

pub number_read : (limit n : ℕ) (rest : List ℕ) (s : List ℕ × ℕ) → n < 10 ^ 64 → n ≤ limit → rest_of s ≡ decimal n ++ rest → BeginsWithoutDigit rest
    → (whole_at limit s ≡ Ok (n, past (decimal n) s)) × (rest_of (past (decimal n) s) ≡ rest)
number_read limit n rest s small fits e ended = (whole_at-number limit s n rest small fits (record { spelled = e; ended = ended }), rest_of-past (decimal n) rest s e)

pub word_read : (word rest : List ℕ) (s : List ℕ × ℕ) → rest_of s ≡ word ++ rest → (word_at word s ≡ Ok (past word s)) × (rest_of (past word s) ≡ rest)
word_read word rest s e = (word_at-word word rest s e, rest_of-past word rest s e)

-- where readers choose between words and a number

-- a word with another first byte than the text is refused
pub word_at-other_byte : (b c : ℕ) (word rest : List ℕ) (s : List ℕ × ℕ) → rest_of s ≡ c ∷ rest → c ≢ b → word_at (b ∷ word) s ≡ Err (Word s.1)
word_at-other_byte b c word rest s e other = (word_at-differs (b ∷ word) s).1 (
  λ h. other (first_byte (sym e ∙ h.1)),
  λ h. other (first_byte (sym (h.1 ∙ ap (λ x. x ++ h.0) e))),
)
  where
    first_byte : {xs ys : List ℕ} → c ∷ xs ≡ b ∷ ys → c ≡ b
    first_byte same = cc

-- and each word that is not empty at the end of the text
pub word_at-at_end : (b : ℕ) (word : List ℕ) (s : List ℕ × ℕ) → rest_of s ≡ [] → word_at (b ∷ word) s ≡ Err (End s.1)
word_at-at_end b word s e = (word_at-end (b ∷ word) s).1 (b ∷ word, ap (λ x. x ++ (b ∷ word)) (sym e), λ none. absurd (cc))

-- a number begins with a digit
pub first_digit : (n : ℕ) → n < 10 ^ 64 → (d : ℕ) × (ds : List ℕ) × (decimal n ≡ d ∷ ds) × (is_ascii_digit d ≡ true)
first_digit n small = let numeral = (decimal_is_IsNumeral_wide n small).0 in by (decimal n) numeral.0 numeral.1 refl
  where
    by : (xs : List ℕ) → 0 < length xs → AllDigits 10 xs → decimal n ≡ xs → (d : ℕ) × (ds : List ℕ) × (decimal n ≡ d ∷ ds) × (is_ascii_digit d ≡ true)
    by [] some all e = absurd (omega arith)
    by (d ∷ ds) some all e = (d, ds, e, test_from_digit d all.0)

-- so a word that begins otherwise is refused before it
pub word_at-number : (b : ℕ) (word : List ℕ) (s : List ℕ × ℕ) (n : ℕ) (rest : List ℕ) → is_ascii_digit b ≡ false → n < 10 ^ 64 → rest_of s ≡ decimal n ++ rest → word_at (b ∷ word) s ≡ Err (Word s.1)
word_at-number b word s n rest no_digit small e =
    let front = first_digit n small in
    word_at-other_byte b front.0 word (front.1 ++ rest) s (e ∙ ap (λ x. x ++ rest) front.2)
    (λ same. let digit : is_ascii_digit b ≡ true = ap is_ascii_digit (sym same) ∙ front.3 in cc)

-- a scan at the end of its text
pub at_end : (text : List ℕ) (place : ℕ) → place ≤ length text → (place ≡ length text) ↔ (drop place text ≡ [])
at_end text place within = (
  λ same. by (drop place text) (omega (arith, length-drop place text)),
  λ none. let left = ap length none in omega (arith, length-drop place text),
)
  where
    by : (xs : List ℕ) → length xs ≡ 0 → xs ≡ []
    by [] e = refl
    by (x ∷ xs) e = absurd (omega arith)
