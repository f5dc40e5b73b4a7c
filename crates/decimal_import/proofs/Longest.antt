-- Where a token of the grammar stands in front of a text, one at least as long is found there.
use Rattle.std.proofs.Common.{◌≡◌, ℕ, zero, suc, ◌+◌, ◌<◌, ◌≤◌, ◌==◌, ◌||◌, ◌&&◌, nat_lt, List, [], ◌∷◌, ◌++◌, length, take, drop, arith, refl, sym, ap, ◌∙◌, subst, Bool, true, false, Option, Some, None, append_assoc, length-append, inl, inr, ◌⊎◌}
use Rattle.std.proofs.lemmas.List.{length-drop}
use Rattle.std.proofs.Math.Seq.{drop-append-add}
use Rattle.std.proofs.lemmas.Bool.{and_parts, and_from, or_cases, eqb-true, lt-ltb, both_ways, cases_Bool}
use Rattle.std.specs.List.{list_all}
use Rattle.std.specs.Option.{option_map}
use Rattle.decimal_import.specs.Digits.{is_digit, digits_in_front}
use Rattle.decimal_import.specs.Literal.{Literal, Exponent, minus_text, fraction_text, sign_text, exponent_text, literal_text, run_in_front, minus_in_front, whole_in_front, fraction_in_front, sign_in_front, exponent_in_front, literal_in_front}
use Rattle.decimal_import.specs.Token.{Token, Opening, Closing, Comma, Colon, Blank, Named, Text, Number, token_text, word_text, is_blank, closing_quote, number_in_front, token_in_front, cut}
use Rattle.decimal_import.specs.Grammar.{are_digits, is_whole, is_sign, is_exponent, is_literal, is_text, is_token, IsLongestInFront, NoTokenInFront, IsCutInto}
use Rattle.decimal_import.specs.declared.token.Bracket.TheVariants.{Brace, Square}
use Rattle.decimal_import.specs.declared.token.Word.TheVariants.{True, False, Null}
use Rattle.decimal_import.proofs.Tokens.{cond_cases, fraction_is, exponent_is}
use Rattle.decimal_import.proofs.Fronts.{token_stands}
use Rattle.decimal_import.proofs.Cuts.{cut-some, cut-none, token_in_front-shorter}

-- A digit is no other byte.
digit_not : (b n : ℕ) → is_digit b ≡ true → is_digit n ≡ false → (b == n) ≡ false
digit_not b n digit other = elim (cases_Bool (b == n)) [
  | inl is ↦ absurd (both_ways (is_digit n) other (ap is_digit (sym (eqb-true b n is)) ∙ digit))
  | inr no_such ↦ no_such
]

-- Runs of digits.

digits_in_front-append : (ds bs : List ℕ) → list_all is_digit ds ≡ true → digits_in_front (ds ++ bs) ≡ ds ++ digits_in_front bs
digits_in_front-append [] bs all = refl
digits_in_front-append (d ∷ ds) bs all =
    let parts = and_parts (is_digit d) (list_all is_digit ds) all in
    let digit = parts.0 in
    rw digit (ap (λ (xs : List ℕ). d ∷ xs) (digits_in_front-append ds bs parts.1))

abbrev after_run : List ℕ → List ℕ
after_run bs = (run_in_front bs).1

run_in_front-append : (ds bs : List ℕ) → list_all is_digit ds ≡ true → run_in_front (ds ++ bs) ≡ (ds ++ digits_in_front bs, after_run bs)
run_in_front-append ds bs all =
    let run : digits_in_front (ds ++ bs) ≡ ds ++ digits_in_front bs = digits_in_front-append ds bs all in
    rw (run, length-append, drop-append-add) refl

after_run-shorter : (bs : List ℕ) → length (after_run bs) ≤ length bs
after_run-shorter bs = omega (arith, length-drop (length (digits_in_front bs)) bs)

after_run-other : (b : ℕ) (bs : List ℕ) → is_digit b ≡ false → after_run (b ∷ bs) ≡ b ∷ bs
after_run-other b bs other = rw other refl

-- Parts of a literal.

minus_found : (d : ℕ) (bs : List ℕ) → is_digit d ≡ true → minus_in_front (d ∷ bs) ≡ (false, d ∷ bs)
minus_found d bs digit = let other = digit_not d 45 digit refl in rw other refl

-- the digits before the point are found, and no more is left than they leave, or than a longer run of digits leaves
record LeavesWhole (bs behind : List ℕ) : Type 0 where
  pub some : 0 < length (whole_in_front bs).0
  pub rest : ((whole_in_front bs).1 ≡ behind) ⊎ ((whole_in_front bs).1 ≡ after_run behind)

whole_found : (ds behind : List ℕ) → is_whole ds ≡ true → LeavesWhole (ds ++ behind) behind
whole_found [] behind whole = absurd (cc)
whole_found (d ∷ ds) behind whole = elim (cases_Bool (d == 48)) [
  | inl zero_alone ↦ alone ds (rw zero_alone at whole) (eqb-true d 48 zero_alone)
  | inr other ↦
      let all : list_all is_digit (d ∷ ds) ≡ true = rw other at whole in
      let step : whole_in_front (d ∷ (ds ++ behind)) ≡ run_in_front (d ∷ (ds ++ behind)) = rw other refl in
      let front : whole_in_front (d ∷ (ds ++ behind)) ≡ ((d ∷ ds) ++ digits_in_front behind, after_run behind) = step ∙ run_in_front-append (d ∷ ds) behind all in
      record {
        some = subst (λ (p : List ℕ × List ℕ). 0 < length p.0) (sym front) (omega arith);
        rest = inr (ap (λ (p : List ℕ × List ℕ). p.1) front);
      }
]
  where
    alone : (xs : List ℕ) → is_whole (48 ∷ xs) ≡ true → d ≡ 48 → LeavesWhole (d ∷ (xs ++ behind)) behind
    alone [] is same = rw same (record { some = omega arith; rest = inl refl })
    alone (x ∷ xs) is same = absurd (cc)

-- what is left behind the fraction and the exponent in front
abbrev tail : List ℕ → List ℕ
tail bs = (exponent_in_front (fraction_in_front bs).1).1

exponent-shorter : (bs : List ℕ) → length (exponent_in_front bs).1 ≤ length bs
exponent-shorter bs = omega (arith, ap length (exponent_is bs) ∙ length-append (exponent_text (exponent_in_front bs).0) (exponent_in_front bs).1)

fraction-shorter : (bs : List ℕ) → length (fraction_in_front bs).1 ≤ length bs
fraction-shorter bs = omega (arith, ap length (fraction_is bs) ∙ length-append (fraction_text (fraction_in_front bs).0) (fraction_in_front bs).1)

tail-shorter : (bs : List ℕ) → length (tail bs) ≤ length bs
tail-shorter bs = let first = fraction-shorter bs in let second = exponent-shorter (fraction_in_front bs).1 in omega arith

-- a letter of an exponent is no digit, no point
letter_digit : (b : ℕ) → ((b == 101) || (b == 69)) ≡ true → is_digit b ≡ false
letter_digit b letter = elim (or_cases (b == 101) (b == 69) letter) [ inl is ↦ rw (eqb-true b 101 is) refl | inr is ↦ rw (eqb-true b 69 is) refl ]

letter_point : (b : ℕ) → ((b == 101) || (b == 69)) ≡ true → (b == 46) ≡ false
letter_point b letter = elim (or_cases (b == 101) (b == 69) letter) [ inl is ↦ rw (eqb-true b 101 is) refl | inr is ↦ rw (eqb-true b 69 is) refl ]

-- the digits of an exponent are found behind its sign
signed_found : (sign : Option ℕ) (ds behind : List ℕ) → is_sign sign ≡ true → are_digits ds ≡ true → sign_in_front (sign_text sign ++ (ds ++ behind)) ≡ (sign, ds ++ behind)
signed_found (Some s) ds behind is digits = rw is refl
signed_found None [] behind is digits = absurd (cc)
signed_found None (d ∷ ds) behind is digits =
    let digit = (and_parts (is_digit d) (list_all is_digit ds) digits).0 in
    let no_plus = digit_not d 43 digit refl in
    let no_minus = digit_not d 45 digit refl in
    rw (no_plus, no_minus) refl

digits_some : (ds behind : List ℕ) → are_digits ds ≡ true → (list_all is_digit ds ≡ true) × (0 < length (ds ++ behind))
digits_some [] behind digits = absurd (cc)
digits_some (d ∷ ds) behind digits = (digits, omega arith)

exponent_step : (b : ℕ) (bs : List ℕ) (signed : Option ℕ × List ℕ) (run : List ℕ × List ℕ) → sign_in_front bs ≡ signed → run_in_front signed.1 ≡ run → ((b == 101) || (b == 69)) ≡ true → nat_lt 0 (length run.0) ≡ true → (exponent_in_front (b ∷ bs)).1 ≡ run.1
exponent_step b bs signed run signed_is run_is letter some =
    let here = run_in_front (sign_in_front bs).1 in
    let same : here ≡ run = ap (λ (q : Option ℕ × List ℕ). run_in_front q.1) signed_is ∙ run_is in
    let some_here : nat_lt 0 (length here.0) ≡ true = ap (λ (p : List ℕ × List ℕ). nat_lt 0 (length p.0)) same ∙ some in
    cond_cases (λ (p : Option Exponent × List ℕ). p.1 ≡ run.1) (((b == 101) || (b == 69)) && nat_lt 0 (length here.0)) (Some (record { letter = b; sign = (sign_in_front bs).0; digits = here.0 }), here.1) (None, b ∷ bs)
    (λ _. ap (λ (p : List ℕ × List ℕ). p.1) same)
    (λ not_so. absurd (both_ways (((b == 101) || (b == 69)) && nat_lt 0 (length here.0)) not_so (and_from ((b == 101) || (b == 69)) (nat_lt 0 (length here.0)) letter some_here)))

exponent_found : (e : Exponent) (behind : List ℕ) → is_exponent (Some e) ≡ true → length (exponent_in_front (e.letter ∷ (sign_text e.sign ++ (e.digits ++ behind)))).1 ≤ length behind
exponent_found e behind is =
    let parts = and_parts ((e.letter == 101) || (e.letter == 69)) (is_sign e.sign && are_digits e.digits) is in
    let letter = parts.0 in
    let more = and_parts (is_sign e.sign) (are_digits e.digits) parts.1 in
    let all = digits_some e.digits (digits_in_front behind) more.1 in
    let signed = signed_found e.sign e.digits behind more.0 more.1 in
    let run = run_in_front-append e.digits behind all.0 in
    let test : nat_lt 0 (length (e.digits ++ digits_in_front behind)) ≡ true = lt-ltb 0 (length (e.digits ++ digits_in_front behind)) all.1 in
    let left = exponent_step e.letter (sign_text e.sign ++ (e.digits ++ behind)) (e.sign, e.digits ++ behind) (e.digits ++ digits_in_front behind, after_run behind) signed run letter test in
    subst (λ (xs : List ℕ). length xs ≤ length behind) (sym left) (after_run-shorter behind)

-- what an exponent or none leaves
abbrev before_exponent : Option Exponent → List ℕ → List ℕ
before_exponent e behind = exponent_text e ++ behind

spelled : (e : Exponent) (behind : List ℕ) → exponent_text (Some e) ++ behind ≡ e.letter ∷ (sign_text e.sign ++ (e.digits ++ behind))
spelled e behind = ap (λ (xs : List ℕ). e.letter ∷ xs) (append_assoc (sign_text e.sign) e.digits behind)

exponent_left : (e : Option Exponent) (behind : List ℕ) → is_exponent e ≡ true → length (exponent_in_front (exponent_text e ++ behind)).1 ≤ length behind
exponent_left None behind is = exponent-shorter behind
exponent_left (Some e) behind is = subst (λ (xs : List ℕ). length (exponent_in_front xs).1 ≤ length behind) (sym (spelled e behind)) (exponent_found e behind is)

exponent_left_behind_run : (e : Option Exponent) (behind : List ℕ) → is_exponent e ≡ true → length (exponent_in_front (after_run (exponent_text e ++ behind))).1 ≤ length behind
exponent_left_behind_run None behind is = let first = after_run-shorter behind in let second = exponent-shorter (after_run behind) in omega arith
exponent_left_behind_run (Some e) behind is =
    let letter = (and_parts ((e.letter == 101) || (e.letter == 69)) (is_sign e.sign && are_digits e.digits) is).0 in
    let same = after_run-other e.letter (sign_text e.sign ++ (e.digits ++ behind)) (letter_digit e.letter letter) in
    subst (λ (xs : List ℕ). length (exponent_in_front (after_run xs)).1 ≤ length behind) (sym (spelled e behind))
    (subst (λ (xs : List ℕ). length (exponent_in_front xs).1 ≤ length behind) (sym same) (exponent_found e behind is))

-- what a fraction and an exponent leave, and what they leave behind a run of digits
tail_left : (f : List ℕ) (e : Option Exponent) (behind : List ℕ) → list_all is_digit f ≡ true → is_exponent e ≡ true → (length (tail (fraction_text f ++ (exponent_text e ++ behind))) ≤ length behind) × (length (tail (after_run (fraction_text f ++ (exponent_text e ++ behind)))) ≤ length behind)
tail_left [] None behind all is = (tail-shorter behind, let first = after_run-shorter behind in let second = tail-shorter (after_run behind) in omega arith)
tail_left [] (Some e) behind all is =
    let letter = (and_parts ((e.letter == 101) || (e.letter == 69)) (is_sign e.sign && are_digits e.digits) is).0 in
    let same = after_run-other e.letter (sign_text e.sign ++ (e.digits ++ behind)) (letter_digit e.letter letter) in
    let no_point = letter_point e.letter letter in
    let none : (fraction_in_front (e.letter ∷ (sign_text e.sign ++ (e.digits ++ behind)))).1 ≡ e.letter ∷ (sign_text e.sign ++ (e.digits ++ behind)) = rw no_point refl in
    let left : length (tail (e.letter ∷ (sign_text e.sign ++ (e.digits ++ behind)))) ≤ length behind = subst (λ (xs : List ℕ). length (exponent_in_front xs).1 ≤ length behind) (sym none) (exponent_found e behind is) in (
      subst (λ (xs : List ℕ). length (tail xs) ≤ length behind) (sym (spelled e behind)) left,
      subst (λ (xs : List ℕ). length (tail (after_run xs)) ≤ length behind) (sym (spelled e behind)) (subst (λ (xs : List ℕ). length (tail xs) ≤ length behind) (sym same) left),
    )
tail_left (d ∷ ds) e behind all is =
    let run = run_in_front-append (d ∷ ds) (exponent_text e ++ behind) all in
    let some : nat_lt 0 (length (digits_in_front (d ∷ (ds ++ (exponent_text e ++ behind))))) ≡ true = subst (λ (p : List ℕ × List ℕ). nat_lt 0 (length p.0) ≡ true) (sym run) (lt-ltb 0 (length ((d ∷ ds) ++ digits_in_front (exponent_text e ++ behind))) (omega arith)) in
    let step : fraction_in_front (46 ∷ (d ∷ (ds ++ (exponent_text e ++ behind)))) ≡ run_in_front (d ∷ (ds ++ (exponent_text e ++ behind))) = rw some refl in
    let front = step ∙ run in
    let left : length (tail (46 ∷ (d ∷ (ds ++ (exponent_text e ++ behind))))) ≤ length behind = subst (λ (p : List ℕ × List ℕ). length (exponent_in_front p.1).1 ≤ length behind) (sym front) (exponent_left_behind_run e behind is) in
    (left, left)

-- A literal.

pub record LeavesLiteral (bs behind : List ℕ) : Type 0 where
  pub literal : Literal
  pub rest : List ℕ
  pub found : literal_in_front bs ≡ Some (literal, rest)
  pub no_more : length rest ≤ length behind

abbrev behind_whole : Literal → List ℕ → List ℕ
behind_whole l behind = fraction_text l.fraction ++ (exponent_text l.exponent ++ behind)

unsigned_found : (l : Literal) (bs behind : List ℕ) (n : Bool) → is_literal l ≡ true → minus_in_front bs ≡ (n, l.whole ++ behind_whole l behind) → LeavesLiteral bs behind
unsigned_found l bs behind n is minus =
    let parts = and_parts (is_whole l.whole) (list_all is_digit l.fraction && is_exponent l.exponent) is in
    let more = and_parts (list_all is_digit l.fraction) (is_exponent l.exponent) parts.1 in
    let whole = whole_found l.whole (behind_whole l behind) parts.0 in
    let left = tail_left l.fraction l.exponent behind more.0 more.1 in
    let front = whole_in_front (l.whole ++ behind_whole l behind) in
    let some : nat_lt 0 (length front.0) ≡ true = lt-ltb 0 (length front.0) whole.some in
    let fraction = fraction_in_front front.1 in
    let exponent = exponent_in_front fraction.1 in
    record {
      literal = record { is_negative = n; whole = front.0; fraction = fraction.0; exponent = exponent.0 };
      rest = exponent.1;
      found = rw (minus, some) refl;
      no_more = elim whole.rest [ inl same ↦ rw same left.0 | inr longer ↦ rw longer left.1 ];
    }

-- a whole begins with a digit
first_digit : (d : ℕ) (ds : List ℕ) → is_whole (d ∷ ds) ≡ true → is_digit d ≡ true
first_digit d ds whole = elim (cases_Bool (d == 48)) [ inl zero_first ↦ ap is_digit (eqb-true d 48 zero_first) | inr other ↦ (and_parts (is_digit d) (list_all is_digit ds) (rw other at whole)).0 ]

pub literal_found : (l : Literal) (behind : List ℕ) → is_literal l ≡ true → LeavesLiteral (literal_text l ++ behind) behind
literal_found l behind is =
    let spelling : literal_text l ++ behind ≡ minus_text l.is_negative ++ (l.whole ++ behind_whole l behind) = simp append_assoc in
    rw spelling (from l.is_negative l.whole refl (and_parts (is_whole l.whole) (list_all is_digit l.fraction && is_exponent l.exponent) is).0)
  where
    from : (n : Bool) (ws : List ℕ) → l.whole ≡ ws → is_whole l.whole ≡ true → LeavesLiteral (minus_text n ++ (l.whole ++ behind_whole l behind)) behind
    from true ws same whole = unsigned_found l (45 ∷ (l.whole ++ behind_whole l behind)) behind true is refl
    from false [] same whole = absurd (let none = rw same at whole in cc)
    from false (d ∷ ds) same whole = unsigned_found l (l.whole ++ behind_whole l behind) behind false is (rw same (minus_found d (ds ++ behind_whole l behind) (first_digit d ds (rw same at whole))))

-- A token is found, and no more is left than behind the one that stands there.
pub record Leaves (bs behind : List ℕ) : Type 0 where
  pub token : Token
  pub rest : List ℕ
  pub found : token_in_front bs ≡ Some (token, rest)
  pub no_more : length rest ≤ length behind

leaves : (bs behind : List ℕ) (t : Token) → token_in_front bs ≡ Some (t, behind) → Leaves bs behind
leaves bs behind t found = record { token = t; rest = behind; found = found; no_more = omega arith }

blank_found : (b : ℕ) (behind : List ℕ) → is_blank b ≡ true → Leaves (b ∷ behind) behind
blank_found b behind blank = elim (or_cases (b == 32) ((b == 9) || ((b == 10) || (b == 13))) blank) [
  | inl is ↦ at_byte 32 (eqb-true b 32 is) (leaves (32 ∷ behind) behind (Blank 32) refl)
  | inr tab ↦ elim (or_cases (b == 9) ((b == 10) || (b == 13)) tab) [
    | inl is ↦ at_byte 9 (eqb-true b 9 is) (leaves (9 ∷ behind) behind (Blank 9) refl)
    | inr end ↦ elim (or_cases (b == 10) (b == 13) end) [
      | inl is ↦ at_byte 10 (eqb-true b 10 is) (leaves (10 ∷ behind) behind (Blank 10) refl)
      | inr is ↦ at_byte 13 (eqb-true b 13 is) (leaves (13 ∷ behind) behind (Blank 13) refl)
    ]
  ]
]
  where
    at_byte : (n : ℕ) → b ≡ n → Leaves (n ∷ behind) behind → Leaves (b ∷ behind) behind
    at_byte n is there = subst (λ (q : ℕ). Leaves (q ∷ behind) behind) (sym is) there

or_false : (x y : Bool) → (x || y) ≡ false → (x ≡ false) × (y ≡ false)
or_false true y none = absurd (cc)
or_false false y none = (refl, none)

closing_quote_found : (is_escaped : Bool) (n : ℕ) (body behind : List ℕ) → is_text is_escaped body ≡ true → closing_quote is_escaped n (body ++ 34 ∷ behind) ≡ Some (n + length body)
closing_quote_found true n [] behind text = absurd (cc)
closing_quote_found false n [] behind text = let place : n ≡ n + 0 = omega arith in ap Some place
closing_quote_found true n (b ∷ body) behind text =
    let place : n + 1 + length body ≡ n + suc (length body) = omega arith in
    closing_quote_found false (n + 1) body behind text ∙ ap Some place
closing_quote_found false n (b ∷ body) behind text = elim (cases_Bool ((b == 34) || nat_lt b 32)) [
  | inl ends ↦ absurd (let none = rw ends at text in cc)
  | inr goes_on ↦
      let none = or_false (b == 34) (nat_lt b 32) goes_on in
      let quote = none.0 in
      let low = none.1 in
      let place : n + 1 + length body ≡ n + suc (length body) = omega arith in
      let step : closing_quote false n (b ∷ (body ++ 34 ∷ behind)) ≡ closing_quote (b == 92) (n + 1) (body ++ 34 ∷ behind) = rw (quote, low) refl in
      step ∙ (closing_quote_found (b == 92) (n + 1) body behind (rw goes_on at text) ∙ ap Some place)
]

text_found : (body behind : List ℕ) → is_text false body ≡ true → Leaves (34 ∷ ((body ++ 34 ∷ []) ++ behind)) behind
text_found body behind text =
    let bs : List ℕ = body ++ 34 ∷ behind in
    let same : (body ++ 34 ∷ []) ++ behind ≡ body ++ 34 ∷ behind = append_assoc body (34 ∷ []) behind in
    let place : closing_quote false 0 (body ++ 34 ∷ behind) ≡ Some (0 + length body) = closing_quote_found false 0 body behind text in
    let shorter : length (drop (0 + length body + 1) (body ++ 34 ∷ behind)) ≤ length behind = omega (arith, length-drop (0 + length body + 1) (body ++ 34 ∷ behind), length-append body (34 ∷ behind)) in
    subst (λ (xs : List ℕ). Leaves (34 ∷ xs) behind) (sym same)
    (record {
      token = Text (take (0 + length body) (body ++ 34 ∷ behind));
      rest = drop (0 + length body + 1) (body ++ 34 ∷ behind);
      found = ap (λ (o : Option ℕ). option_map (λ n. (Text (take n (body ++ 34 ∷ behind)), drop (n + 1) (body ++ 34 ∷ behind))) o) place;
      no_more = shorter;
    })

digit_number : (b : ℕ) (bs : List ℕ) → is_digit b ≡ true → token_in_front (b ∷ bs) ≡ number_in_front (b ∷ bs)
digit_number b bs digit =
    let n123 = digit_not b 123 digit refl in
    let n91 = digit_not b 91 digit refl in
    let n125 = digit_not b 125 digit refl in
    let n93 = digit_not b 93 digit refl in
    let n44 = digit_not b 44 digit refl in
    let n58 = digit_not b 58 digit refl in
    let n32 = digit_not b 32 digit refl in
    let n9 = digit_not b 9 digit refl in
    let n10 = digit_not b 10 digit refl in
    let n13 = digit_not b 13 digit refl in
    let n34 = digit_not b 34 digit refl in
    let n116 = digit_not b 116 digit refl in
    let n102 = digit_not b 102 digit refl in
    let n110 = digit_not b 110 digit refl in
    rw (n123, n91, n125, n93, n44, n58, n32, n9, n10, n13, n34, n116, n102, n110) refl

number_found : (bs behind : List ℕ) → token_in_front bs ≡ number_in_front bs → LeavesLiteral bs behind → Leaves bs behind
number_found bs behind is there = record {
  token = Number there.literal;
  rest = there.rest;
  found = is ∙ ap (λ (o : Option (Literal × List ℕ)). option_map (λ p. (Number p.0, p.1)) o) there.found;
  no_more = there.no_more;
}

literal_first : (l : Literal) (behind : List ℕ) → is_literal l ≡ true → token_in_front (literal_text l ++ behind) ≡ number_in_front (literal_text l ++ behind)
literal_first l behind is = from l.is_negative l.whole refl (and_parts (is_whole l.whole) (list_all is_digit l.fraction && is_exponent l.exponent) is).0
  where
    from : (n : Bool) (ws : List ℕ) → l.whole ≡ ws → is_whole l.whole ≡ true → token_in_front ((minus_text n ++ (l.whole ++ (fraction_text l.fraction ++ exponent_text l.exponent))) ++ behind) ≡ number_in_front ((minus_text n ++ (l.whole ++ (fraction_text l.fraction ++ exponent_text l.exponent))) ++ behind)
    from true ws same whole = refl
    from false [] same whole = absurd (let none = rw same at whole in cc)
    from false (d ∷ ds) same whole = rw same (digit_number d _ (first_digit d ds (rw same at whole)))

token_found : (t : Token) (behind : List ℕ) → is_token t ≡ true → Leaves (token_text t ++ behind) behind
token_found (Opening Brace) behind is = leaves (123 ∷ behind) behind (Opening Brace) refl
token_found (Opening Square) behind is = leaves (91 ∷ behind) behind (Opening Square) refl
token_found (Closing Brace) behind is = leaves (125 ∷ behind) behind (Closing Brace) refl
token_found (Closing Square) behind is = leaves (93 ∷ behind) behind (Closing Square) refl
token_found Comma behind is = leaves (44 ∷ behind) behind Comma refl
token_found Colon behind is = leaves (58 ∷ behind) behind Colon refl
token_found (Blank b) behind is = blank_found b behind is
token_found (Named True) behind is = leaves (word_text True ++ behind) behind (Named True) refl
token_found (Named False) behind is = leaves (word_text False ++ behind) behind (Named False) refl
token_found (Named Null) behind is = leaves (word_text Null ++ behind) behind (Named Null) refl
token_found (Text body) behind is = text_found body behind is
token_found (Number l) behind is = number_found (literal_text l ++ behind) behind (literal_first l behind is) (literal_found l behind is)

-- The token that is found is the longest.
pub token_longest : (bs : List ℕ) (t : Token) (rest : List ℕ) → token_in_front bs ≡ Some (t, rest) → IsLongestInFront bs t rest
token_longest bs t rest is =
    let stands = token_stands bs t rest is in
    record {
      token = stands.token;
      in_front = stands.in_front;
      longest = λ other behind proper there.
          let found = subst (λ (xs : List ℕ). Leaves xs behind) (sym there) (token_found other behind proper) in
          let same : (found.token, found.rest) ≡ (t, rest) = let both : Some (found.token, found.rest) ≡ Some (t, rest) = sym found.found ∙ is in cc in
          let same_rest = ap (λ (p : Token × List ℕ). p.1) same in
          let ours : length bs ≡ length (token_text t) + length rest = ap length stands.in_front ∙ length-append (token_text t) rest in
          let theirs : length bs ≡ length (token_text other) + length behind = ap length there ∙ length-append (token_text other) behind in
          let less = found.no_more in
          omega (arith, ap length same_rest);
    }

pub no_token : (bs : List ℕ) → token_in_front bs ≡ None → NoTokenInFront bs
no_token bs none other behind proper there =
    let found = subst (λ (xs : List ℕ). Leaves xs behind) (sym there) (token_found other behind proper) in
    absurd (cc (found.found, none))

-- A text is cut into its longest tokens.

cut_longest_step : (bs : List ℕ) → ((rest : List ℕ) → length rest < length bs → IsCutInto rest (cut rest).0 (cut rest).1) → (o : Option (Token × List ℕ)) → token_in_front bs ≡ o → IsCutInto bs (cut bs).0 (cut bs).1
cut_longest_step bs later None is = subst (λ (c : List Token × List ℕ). IsCutInto bs c.0 c.1) (sym (cut-none bs is)) (refl, no_token bs is)
cut_longest_step bs later (Some p) is =
    let some = (token_stands bs p.0 p.1 is).some in
    let less : length p.1 < length bs = omega (arith, token_in_front-shorter bs p.0 p.1 is) in
    subst (λ (c : List Token × List ℕ). IsCutInto bs c.0 c.1) (sym (cut-some bs p.0 p.1 is)) (p.1, (token_longest bs p.0 p.1 is, later p.1 less))

cut_longest_within : (most : ℕ) (bs : List ℕ) → length bs ≤ most → IsCutInto bs (cut bs).0 (cut bs).1
cut_longest_within zero bs short = cut_longest_step bs (λ rest less. absurd (omega arith)) (token_in_front bs) refl
cut_longest_within (suc most) bs short = cut_longest_step bs (λ rest less. cut_longest_within most rest (omega arith)) (token_in_front bs) refl

pub cut_longest : (bs : List ℕ) → IsCutInto bs (cut bs).0 (cut bs).1
cut_longest bs = cut_longest_within (length bs) bs (omega arith)
