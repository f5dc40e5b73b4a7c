-- The token in front of a text is a token, and the text is its spelling and what follows it.
use Rattle.std.proofs.Common.{◌≡◌, ℕ, ◌<◌, ◌==◌, ◌||◌, ◌&&◌, nat_lt, List, [], ◌∷◌, ◌++◌, length, drop, arith, refl, sym, ap, ◌∙◌, cond, Bool, true, false, Option, Some, None, append_assoc, length-append}
use Rattle.std.proofs.lemmas.List.{take-append-drop}
use Rattle.std.proofs.lemmas.Bool.{and_parts, and_from, eqb-true, ltb-true}
use Rattle.std.specs.List.{list_all}
use Rattle.decimal_import.specs.Digits.{is_digit, digits_in_front}
use Rattle.decimal_import.specs.Literal.{Literal, Exponent, minus_text, fraction_text, sign_text, exponent_text, literal_text, run_in_front, minus_in_front, whole_in_front, fraction_in_front, sign_in_front, exponent_in_front, literal_in_front}
use Rattle.decimal_import.specs.Grammar.{are_digits, is_whole, is_sign, is_exponent, is_literal}
use Rattle.decimal_import.proofs.DigitRuns.{take_digits}

-- Splits on a test inside a goal.
pub cond_cases : {X : Type 0} (P : X → Type 0) (c : Bool) (x y : X) → (c ≡ true → P x) → (c ≡ false → P y) → P (cond c x y)
cond_cases P true x y at_true at_false = at_true refl
cond_cases P false x y at_true at_false = at_false refl

-- Digits.

pub list_all-digits_in_front : (bs : List ℕ) → list_all is_digit (digits_in_front bs) ≡ true
list_all-digits_in_front [] = refl
list_all-digits_in_front (b ∷ bs) = cond_cases (λ (ds : List ℕ). list_all is_digit ds ≡ true) (is_digit b) (b ∷ digits_in_front bs) [] (λ digit. and_from (is_digit b) (list_all is_digit (digits_in_front bs)) digit (list_all-digits_in_front bs)) (λ _. refl)

pub run_is : (bs : List ℕ) → bs ≡ digits_in_front bs ++ drop (length (digits_in_front bs)) bs
run_is bs = sym (take-append-drop (length (digits_in_front bs)) bs) ∙ ap (λ (ds : List ℕ). ds ++ drop (length (digits_in_front bs)) bs) (take_digits bs)

pub are_digits_from : (ds : List ℕ) → 0 < length ds → list_all is_digit ds ≡ true → are_digits ds ≡ true
are_digits_from [] some all = absurd (omega arith)
are_digits_from (d ∷ ds) some all = all

-- Parts of a literal: each is in the grammar, and the text is its spelling and what follows it.

minus_is : (bs : List ℕ) → bs ≡ minus_text (minus_in_front bs).0 ++ (minus_in_front bs).1
minus_is [] = refl
minus_is (b ∷ bs) = cond_cases (λ (p : Bool × List ℕ). b ∷ bs ≡ minus_text p.0 ++ p.1) (b == 45) (true, bs) (false, b ∷ bs) (λ is. ap (λ n. n ∷ bs) (eqb-true b 45 is)) (λ _. refl)

whole_is : (bs : List ℕ) → bs ≡ (whole_in_front bs).0 ++ (whole_in_front bs).1
whole_is [] = refl
whole_is (b ∷ bs) = cond_cases (λ (p : List ℕ × List ℕ). b ∷ bs ≡ p.0 ++ p.1) (b == 48) (48 ∷ [], bs) (run_in_front (b ∷ bs)) (λ is. ap (λ n. n ∷ bs) (eqb-true b 48 is)) (λ _. run_is (b ∷ bs))

is_whole-from : (b : ℕ) (bs : List ℕ) → (b == 48) ≡ false → 0 < length (digits_in_front (b ∷ bs)) → is_whole (digits_in_front (b ∷ bs)) ≡ true
is_whole-from b bs other some = cond_cases (λ (ds : List ℕ). 0 < length ds → list_all is_digit ds ≡ true → is_whole ds ≡ true) (is_digit b) (b ∷ digits_in_front bs) [] (λ _ _ all. rw other all) (λ _ none _. absurd (omega arith)) some (list_all-digits_in_front (b ∷ bs))

whole_whole : (bs : List ℕ) → 0 < length (whole_in_front bs).0 → is_whole (whole_in_front bs).0 ≡ true
whole_whole [] = λ some. absurd (omega arith)
whole_whole (b ∷ bs) = cond_cases (λ (p : List ℕ × List ℕ). 0 < length p.0 → is_whole p.0 ≡ true) (b == 48) (48 ∷ [], bs) (run_in_front (b ∷ bs)) (λ is some. refl) (λ other some. is_whole-from b bs other some)

point_text : (ds : List ℕ) → 0 < length ds → fraction_text ds ≡ 46 ∷ ds
point_text [] some = absurd (omega arith)
point_text (d ∷ ds) some = refl

pub fraction_is : (bs : List ℕ) → bs ≡ fraction_text (fraction_in_front bs).0 ++ (fraction_in_front bs).1
fraction_is [] = refl
fraction_is (b ∷ bs) = cond_cases (λ (p : List ℕ × List ℕ). b ∷ bs ≡ fraction_text p.0 ++ p.1) ((b == 46) && nat_lt 0 (length (digits_in_front bs))) (run_in_front bs) ([], b ∷ bs)
    (λ both. let parts = and_parts (b == 46) (nat_lt 0 (length (digits_in_front bs))) both in
    let some : 0 < length (digits_in_front bs) = ltb-true 0 (length (digits_in_front bs)) parts.1 in
    rw (point_text (digits_in_front bs) some) (ap (λ n. n ∷ bs) (eqb-true b 46 parts.0) ∙ ap (λ (more : List ℕ). 46 ∷ more) (run_is bs)))
    (λ _. refl)

fraction_digits : (bs : List ℕ) → list_all is_digit (fraction_in_front bs).0 ≡ true
fraction_digits [] = refl
fraction_digits (b ∷ bs) = cond_cases (λ (p : List ℕ × List ℕ). list_all is_digit p.0 ≡ true) ((b == 46) && nat_lt 0 (length (digits_in_front bs))) (run_in_front bs) ([], b ∷ bs) (λ _. list_all-digits_in_front bs) (λ _. refl)

sign_is : (bs : List ℕ) → bs ≡ sign_text (sign_in_front bs).0 ++ (sign_in_front bs).1
sign_is [] = refl
sign_is (b ∷ bs) = cond_cases (λ (p : Option ℕ × List ℕ). b ∷ bs ≡ sign_text p.0 ++ p.1) ((b == 43) || (b == 45)) (Some b, bs) (None, b ∷ bs) (λ is. refl) (λ _. refl)

sign_sign : (bs : List ℕ) → is_sign (sign_in_front bs).0 ≡ true
sign_sign [] = refl
sign_sign (b ∷ bs) = cond_cases (λ (p : Option ℕ × List ℕ). is_sign p.0 ≡ true) ((b == 43) || (b == 45)) (Some b, bs) (None, b ∷ bs) (λ is. is) (λ _. refl)

pub exponent_is : (bs : List ℕ) → bs ≡ exponent_text (exponent_in_front bs).0 ++ (exponent_in_front bs).1
exponent_is [] = refl
exponent_is (b ∷ bs) =
    let signed = sign_in_front bs in
    let run = run_in_front signed.1 in
    cond_cases (λ (p : Option Exponent × List ℕ). b ∷ bs ≡ exponent_text p.0 ++ p.1) (((b == 101) || (b == 69)) && nat_lt 0 (length run.0)) (Some (record { letter = b; sign = signed.0; digits = run.0 }), run.1) (None, b ∷ bs)
    (λ _. ap (λ (more : List ℕ). b ∷ more) (sign_is bs ∙ (ap (λ (more : List ℕ). sign_text signed.0 ++ more) (run_is signed.1) ∙ sym (append_assoc (sign_text signed.0) run.0 run.1))))
    (λ _. refl)

exponent_exponent : (bs : List ℕ) → is_exponent (exponent_in_front bs).0 ≡ true
exponent_exponent [] = refl
exponent_exponent (b ∷ bs) =
    let signed = sign_in_front bs in
    let run = run_in_front signed.1 in
    cond_cases (λ (p : Option Exponent × List ℕ). is_exponent p.0 ≡ true) (((b == 101) || (b == 69)) && nat_lt 0 (length run.0)) (Some (record { letter = b; sign = signed.0; digits = run.0 }), run.1) (None, b ∷ bs)
    (λ both. let parts = and_parts ((b == 101) || (b == 69)) (nat_lt 0 (length run.0)) both in
    and_from ((b == 101) || (b == 69)) (is_sign signed.0 && are_digits run.0) parts.0
    (and_from (is_sign signed.0) (are_digits run.0) (sign_sign bs) (are_digits_from run.0 (ltb-true 0 (length run.0) parts.1) (list_all-digits_in_front signed.1))))
    (λ _. refl)

-- A literal.

pub record IsLiteralInFront (bs : List ℕ) (l : Literal) (rest : List ℕ) : Type 0 where
  pub literal : is_literal l ≡ true
  pub in_front : bs ≡ literal_text l ++ rest
  pub some : 0 < length (literal_text l)

pub literal_stands : (bs : List ℕ) (l : Literal) (rest : List ℕ) → literal_in_front bs ≡ Some (l, rest) → IsLiteralInFront bs l rest
literal_stands bs =
    let minus = minus_in_front bs in
    let whole = whole_in_front minus.1 in
    let fraction = fraction_in_front whole.1 in
    let exponent = exponent_in_front fraction.1 in
    let found : Literal = record { is_negative = minus.0; whole = whole.0; fraction = fraction.0; exponent = exponent.0 } in
    cond_cases (λ (o : Option (Literal × List ℕ)). (l : Literal) (rest : List ℕ) → o ≡ Some (l, rest) → IsLiteralInFront bs l rest) (nat_lt 0 (length whole.0)) (Some (found, exponent.1)) None
    (λ more l rest is.
    let pair : (found, exponent.1) ≡ (l, rest) = cc in
    let same_literal = ap (λ (p : Literal × List ℕ). p.0) pair in
    let same_rest = ap (λ (p : Literal × List ℕ). p.1) pair in
    let some : 0 < length whole.0 = ltb-true 0 (length whole.0) more in
    rw (← same_literal, ← same_rest)
    (record {
      literal = and_from (is_whole whole.0) (list_all is_digit fraction.0 && is_exponent exponent.0) (whole_whole minus.1 some) (and_from (list_all is_digit fraction.0) (is_exponent exponent.0) (fraction_digits whole.1) (exponent_exponent fraction.1));
      in_front = simp append_assoc (minus_is bs ∙ ap (λ (xs : List ℕ). minus_text minus.0 ++ xs) (whole_is minus.1 ∙ ap (λ (xs : List ℕ). whole.0 ++ xs) (fraction_is whole.1 ∙ ap (λ (xs : List ℕ). fraction_text fraction.0 ++ xs) (exponent_is fraction.1))));
      some = simp length-append (omega arith);
    }))
    (λ _ l rest is. absurd (cc))
