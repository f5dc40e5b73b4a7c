-- Runs of digits in front of a text.
use Rattle.std.proofs.Common.{◌≡◌, ◌∙◌, ℕ, ◌+◌, ◌-◌, ◌*◌, ◌<◌, ◌≤◌, Bool, true, false, cond, List, [], ◌∷◌, ◌++◌, length, take, drop, arith, refl, sym, ap, subst, add-one, get_or, drop-cons}
use Rattle.std.specs.Char.{is_ascii_digit, digit_value}
use Rattle.std.specs.Str.Parse.{AllDigits, digits_value_after}
use Rattle.std.proofs.lemmas.Bool.Decides.{nat_tests}
use Rattle.std.proofs.lemmas.List.Sums.{take_while-cons}
use Rattle.std.proofs.lemmas.List.Folds.{length-prefix_len}
use Rattle.std.proofs.lemmas.Str.Parse.{digit_from_value, digit_at}
use Rattle.std.proofs.lemmas.Str.{digit_value_digit}
use Rattle.ev_text.specs.Numerals.{leading_digits, BeginsWithoutDigit}

-- the test of one byte, and its value in base ten
pub digit_from_test : (b : ℕ) → is_ascii_digit b ≡ true → digit_value b < 10
digit_from_test b h = grind (arith, nat_tests)

pub test_from_digit : (b : ℕ) → digit_value b < 10 → is_ascii_digit b ≡ true
test_from_digit b h = let range = digit_from_value b h in grind (arith, nat_tests)

pub leading_digits-cons : (b : ℕ) (bs : List ℕ) → leading_digits (b ∷ bs) ≡ cond (is_ascii_digit b) (b ∷ leading_digits bs) []
leading_digits-cons b bs = take_while-cons is_ascii_digit b bs

-- the front of a text whose first byte is a digit, and of one whose first byte is none
front_more : (b : ℕ) (bs : List ℕ) → is_ascii_digit b ≡ true → leading_digits (b ∷ bs) ≡ b ∷ leading_digits bs
front_more b bs is = leading_digits-cons b bs ∙ ap (λ (t : Bool). cond t (b ∷ leading_digits bs) []) is

front_none : (b : ℕ) (bs : List ℕ) → is_ascii_digit b ≡ false → leading_digits (b ∷ bs) ≡ []
front_none b bs is = leading_digits-cons b bs ∙ ap (λ (t : Bool). cond t (b ∷ leading_digits bs) []) is

-- the bytes of the run are digits
pub AllDigits-leading_digits : (text : List ℕ) → AllDigits 10 (leading_digits text)
AllDigits-leading_digits [] = tt
AllDigits-leading_digits (b ∷ bs) = by (is_ascii_digit b) refl (AllDigits-leading_digits bs)
  where
    by : (t : Bool) → is_ascii_digit b ≡ t → AllDigits 10 (leading_digits bs) → AllDigits 10 (leading_digits (b ∷ bs))
    by true is more = subst (AllDigits 10) (sym (front_more b bs is)) (digit_from_test b is, more)
    by false is more = subst (AllDigits 10) (sym (front_none b bs is)) tt

-- what follows the run begins with no digit
pub run_has_ended : (text : List ℕ) → BeginsWithoutDigit (drop (length (leading_digits text)) text)
run_has_ended [] = tt
run_has_ended (b ∷ bs) = by (is_ascii_digit b) refl (run_has_ended bs)
  where
    by : (t : Bool) → is_ascii_digit b ≡ t → BeginsWithoutDigit (drop (length (leading_digits bs)) bs) → BeginsWithoutDigit (drop (length (leading_digits (b ∷ bs))) (b ∷ bs))
    by true is more = subst (λ ds. BeginsWithoutDigit (drop (length ds) (b ∷ bs))) (sym (front_more b bs is)) more
    by false is more = subst (λ ds. BeginsWithoutDigit (drop (length ds) (b ∷ bs))) (sym (front_none b bs is)) is

-- a text is its run of digits and what follows
pub run_and_rest : (text : List ℕ) → text ≡ leading_digits text ++ drop (length (leading_digits text)) text
run_and_rest [] = refl
run_and_rest (b ∷ bs) = by (is_ascii_digit b) refl (run_and_rest bs)
  where
    Is : List ℕ → Type 0
    Is ds = b ∷ bs ≡ ds ++ drop (length ds) (b ∷ bs)

    by : (t : Bool) → is_ascii_digit b ≡ t → bs ≡ leading_digits bs ++ drop (length (leading_digits bs)) bs → Is (leading_digits (b ∷ bs))
    by true is more = subst Is (sym (front_more b bs is)) (ap (λ x. b ∷ x) more)
    by false is more = subst Is (sym (front_none b bs is)) refl

-- digits, and then no digit, are the run and what follows
pub leading_digits-append : (ds rest : List ℕ) → AllDigits 10 ds → BeginsWithoutDigit rest → leading_digits (ds ++ rest) ≡ ds
leading_digits-append [] [] all ended = refl
leading_digits-append [] (b ∷ bs) all ended = front_none b bs ended
leading_digits-append (d ∷ ds) rest all ended = front_more d (ds ++ rest) (test_from_digit d all.0) ∙ ap (λ x. d ∷ x) (leading_digits-append ds rest all.1 ended)

-- the first bytes, as many as the run has, are the run
pub take-length-leading_digits : (text : List ℕ) → take (length (leading_digits text)) text ≡ leading_digits text
take-length-leading_digits text = ap (λ n. take n text) (length-prefix_len is_ascii_digit text)

pub AllDigits-take : (text : List ℕ) (n : ℕ) → n ≡ length (leading_digits text) → AllDigits 10 (take n text)
AllDigits-take text n e = subst (AllDigits 10) (sym (take-length-leading_digits text) ∙ ap (λ k. take k text) (sym e)) (AllDigits-leading_digits text)

-- further digits make no smaller number
pub le_digits_value_after : (n : ℕ) (ds : List ℕ) → n ≤ digits_value_after 10 n ds
le_digits_value_after n [] = omega arith
le_digits_value_after n (d ∷ ds) = omega (arith, le_digits_value_after (n * 10 + digit_value d) ds)

-- one digit more
pub digits_value_after-drop : (n next total : ℕ) (ds : List ℕ) (i : ℕ) → i < length ds → next ≡ n * 10 + digit_value (get_or ds i 0) → digits_value_after 10 n (drop i ds) ≡ total → digits_value_after 10 next (drop (i + 1) ds) ≡ total
digits_value_after-drop n next total ds i lt is told =
    let step : digits_value_after 10 n (drop i ds) ≡ digits_value_after 10 (n * 10 + digit_value (get_or ds i 0)) (drop (i + 1) ds) = rw (add-one, drop-cons ds i 0) refl in
    ap (λ m. digits_value_after 10 m (drop (i + 1) ds)) is ∙ sym step ∙ told

-- a digit that leads past the limit shows that the whole number is past it
pub past_by_a_digit : (n limit total : ℕ) (ds : List ℕ) (i : ℕ) → i < length ds → limit < n * 10 + digit_value (get_or ds i 0) → digits_value_after 10 n (drop i ds) ≡ total → limit < total
past_by_a_digit n limit total ds i lt big told =
    let next = n * 10 + digit_value (get_or ds i 0) in
    omega (arith, le_digits_value_after next (drop (i + 1) ds), digits_value_after-drop n next total ds i lt refl told)

-- a digit at a place of the run, and its value
pub digit_code : (ds : List ℕ) (i : ℕ) → AllDigits 10 ds → i < length ds → (48 ≤ get_or ds i 0) × (digit_value (get_or ds i 0) ≡ get_or ds i 0 - 48)
digit_code ds i all lt =
    let range = digit_at ds i all lt in
    let code = digit_value_digit (get_or ds i 0) range in
    (omega arith, omega arith)
