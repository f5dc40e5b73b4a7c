-- Cutting a text into tokens.
use Rattle.std.proofs.Common.{◌≡◌, ℕ, zero, suc, ◌+◌, ◌<◌, ◌≤◌, ◌==◌, nat_eq, List, [], ◌∷◌, length, take, drop, ◌||◌, arith, refl, sym, ap, ◌∙◌, Bool, true, false, Option, Some, None, length-append, inl, inr}
use Rattle.std.proofs.lemmas.Bool.{eqb-true, or_cases}
use Rattle.std.specs.List.{starts_with}
use Rattle.std.specs.Option.{option_map, option_map_or}
use Rattle.decimal_import.specs.Literal.{Literal, literal_in_front}
use Rattle.decimal_import.specs.Token.{Token, Named, Text, Number, token_text, word_text, is_blank, closing_quote, text_in_front, word_in_front, number_in_front, token_in_front, is_colon_next_in, cut_within, cut}
use Rattle.decimal_import.specs.Conversion.{is_colon_next}
use Rattle.decimal_import.specs.declared.token.Word.{Word}
use Rattle.decimal_import.specs.declared.token.Word.TheVariants.{True, False, Null}
use Rattle.decimal_import.proofs.Tokens.{cond_cases}
use Rattle.decimal_import.proofs.Fronts.{token_stands}

-- What follows a token is shorter.
pub token_in_front-shorter : (bs : List ℕ) (t : Token) (rest : List ℕ) → token_in_front bs ≡ Some (t, rest) → length (token_text t) + length rest ≡ length bs
token_in_front-shorter bs t rest is = let stands = token_stands bs t rest is in sym (ap length stands.in_front ∙ length-append (token_text t) rest)

abbrev AreShorter : ℕ → Option (Token × List ℕ) → Type 0
AreShorter n o = (t : Token) (rest : List ℕ) → o ≡ Some (t, rest) → length rest < n

are_shorter : (bs : List ℕ) → AreShorter (length bs) (token_in_front bs)
are_shorter bs t rest is = let some = (token_stands bs t rest is).some in omega (arith, token_in_front-shorter bs t rest is)

abbrev cut_step : ℕ → List ℕ → Option (Token × List ℕ) → List Token × List ℕ
cut_step most bs o = option_map_or (λ p. (p.0 ∷ (cut_within most p.1).0, (cut_within most p.1).1)) o ([], bs)

-- as many steps as there are bytes are as good as more
cut_within-enough : (n m : ℕ) (bs : List ℕ) → length bs ≤ n → length bs ≤ m → cut_within n bs ≡ cut_within m bs
unfolding cut_within
cut_within-enough zero zero bs short also = refl
cut_within-enough zero (suc m) [] short also = refl
cut_within-enough zero (suc m) (b ∷ bs) short also = absurd (omega arith)
cut_within-enough (suc n) zero [] short also = refl
cut_within-enough (suc n) zero (b ∷ bs) short also = absurd (omega arith)
cut_within-enough (suc n) (suc m) bs short also = from (token_in_front bs) (are_shorter bs) (λ rest less. cut_within-enough n m rest (omega arith) (omega arith))
  where
    from : (o : Option (Token × List ℕ)) → AreShorter (length bs) o → ((rest : List ℕ) → length rest < length bs → cut_within n rest ≡ cut_within m rest) → cut_step n bs o ≡ cut_step m bs o
    from None later same = refl
    from (Some p) later same =
        let again = same p.1 (later p.0 p.1 refl) in
        rw again refl

cut_within-some : (n : ℕ) (bs : List ℕ) (t : Token) (rest : List ℕ) → length bs ≤ suc n → token_in_front bs ≡ Some (t, rest) → cut_within (suc n) bs ≡ (t ∷ (cut rest).0, (cut rest).1)
unfolding cut_within
cut_within-some n bs t rest short is =
    let less : length rest < length bs = are_shorter bs t rest is in
    let same : cut_within n rest ≡ cut rest = cut_within-enough n (length rest) rest (omega arith) (omega arith) in
    rw (is, same) refl

-- a text with a token in front
pub cut-some : (bs : List ℕ) (t : Token) (rest : List ℕ) → token_in_front bs ≡ Some (t, rest) → cut bs ≡ (t ∷ (cut rest).0, (cut rest).1)
cut-some [] t rest is = absurd (cc)
cut-some (b ∷ bs) t rest is = cut_within-some (length bs) (b ∷ bs) t rest (omega arith) is

-- a text with no token in front
pub cut-none : (bs : List ℕ) → token_in_front bs ≡ None → cut bs ≡ ([], bs)
unfolding cut_within
cut-none [] is = refl
cut-none (b ∷ bs) is = rw is refl

-- Whether a colon follows, blanks aside.

abbrev colon_of : Option (Token × List ℕ) → Bool
colon_of None = false
colon_of (Some p) = is_colon_next (p.0 ∷ (cut p.1).0)

colon_of-front : (bs : List ℕ) → is_colon_next (cut bs).0 ≡ colon_of (token_in_front bs)
colon_of-front bs = from (token_in_front bs) refl
  where
    from : (o : Option (Token × List ℕ)) → token_in_front bs ≡ o → is_colon_next (cut bs).0 ≡ colon_of o
    from None is = rw (cut-none bs is) refl
    from (Some p) is = rw (cut-some bs p.0 p.1 is) refl

colon_of-text : (bs : List ℕ) → colon_of (text_in_front bs) ≡ false
colon_of-text bs = from (closing_quote false 0 bs)
  where
    from : (o : Option ℕ) → colon_of (option_map (λ n. (Text (take n bs), drop (n + 1) bs)) o) ≡ false
    from None = refl
    from (Some n) = refl

colon_of-word : (w : Word) (bs : List ℕ) → colon_of (word_in_front w bs) ≡ false
colon_of-word w bs = cond_cases (λ (o : Option (Token × List ℕ)). colon_of o ≡ false) (starts_with nat_eq bs (word_text w)) (Some (Named w, drop (length (word_text w)) bs)) None (λ _. refl) (λ _. refl)

colon_of-number : (bs : List ℕ) → colon_of (number_in_front bs) ≡ false
colon_of-number bs = from (literal_in_front bs)
  where
    from : (o : Option (Literal × List ℕ)) → colon_of (option_map (λ p. (Number p.0, p.1)) o) ≡ false
    from None = refl
    from (Some p) = refl

colon_of-blank : (b : ℕ) (bs : List ℕ) → is_blank b ≡ true → colon_of (token_in_front (b ∷ bs)) ≡ is_colon_next (cut bs).0
colon_of-blank b bs blank = elim (or_cases (b == 32) ((b == 9) || ((b == 10) || (b == 13))) blank) [
  | inl is ↦ rw (eqb-true b 32 is) refl
  | inr tab ↦ elim (or_cases (b == 9) ((b == 10) || (b == 13)) tab) [
    | inl is ↦ rw (eqb-true b 9 is) refl
    | inr end ↦ elim (or_cases (b == 10) (b == 13) end) [ inl is ↦ rw (eqb-true b 10 is) refl | inr is ↦ rw (eqb-true b 13 is) refl ]
  ]
]

not_colon : (b n : ℕ) (c : Bool) → (b == n) ≡ true → c ≡ (n == 58) → c ≡ (b == 58)
not_colon b n c is same = rw (eqb-true b n is) same

colon_of-other : (b : ℕ) (bs : List ℕ) → is_blank b ≡ false → colon_of (token_in_front (b ∷ bs)) ≡ (b == 58)
colon_of-other b bs other =
    let P : Option (Token × List ℕ) → Type 0 = λ o. colon_of o ≡ (b == 58) in
    cond_cases P (b == 123) _ _ (λ is. not_colon b 123 false is refl) (λ _.
    cond_cases P (b == 91) _ _ (λ is. not_colon b 91 false is refl) (λ _.
    cond_cases P (b == 125) _ _ (λ is. not_colon b 125 false is refl) (λ _.
    cond_cases P (b == 93) _ _ (λ is. not_colon b 93 false is refl) (λ _.
    cond_cases P (b == 44) _ _ (λ is. not_colon b 44 false is refl) (λ _.
    cond_cases P (b == 58) _ _ (λ is. not_colon b 58 true is refl) (λ colon.
    cond_cases P (is_blank b) _ _ (λ is. absurd (cc)) (λ _.
    cond_cases P (b == 34) _ _ (λ _. colon_of-text bs ∙ sym colon) (λ _.
    cond_cases P (b == 116) _ _ (λ _. colon_of-word True (b ∷ bs) ∙ sym colon) (λ _.
    cond_cases P (b == 102) _ _ (λ _. colon_of-word False (b ∷ bs) ∙ sym colon) (λ _.
    cond_cases P (b == 110) _ _ (λ _. colon_of-word Null (b ∷ bs) ∙ sym colon) (λ _. colon_of-number (b ∷ bs) ∙ sym colon)))))))))))

pub is_colon_next_cut : (bs : List ℕ) → is_colon_next (cut bs).0 ≡ is_colon_next_in bs
is_colon_next_cut [] = colon_of-front []
is_colon_next_cut (b ∷ bs) = colon_of-front (b ∷ bs) ∙ cond_cases (λ (c : Bool). colon_of (token_in_front (b ∷ bs)) ≡ c) (is_blank b) (is_colon_next_in bs) (b == 58) (λ blank. colon_of-blank b bs blank ∙ is_colon_next_cut bs) (λ other. colon_of-other b bs other)
