-- The token in front of a text is a token of the grammar, and the text is its spelling and what follows it.
use Rattle.std.proofs.Common.{◌≡◌, ℕ, suc, ◌+◌, ◌<◌, ◌==◌, nat_lt, nat_eq, List, [], ◌∷◌, ◌++◌, length, take, drop, arith, refl, sym, ap, ◌∙◌, add-one, subst, cond, append_assoc, Bool, true, false, Option, Some, None}
use Rattle.std.proofs.lemmas.List.{take-append-drop}
use Rattle.std.proofs.lemmas.Bool.{eqb-true}
use Rattle.std.specs.Cmp.Lexicographic.{same_text}
use Rattle.std.specs.List.{starts_with}
use Rattle.std.specs.Option.{option_map}
use Rattle.decimal_import.specs.Literal.{Literal, literal_in_front}
use Rattle.decimal_import.specs.Token.{Token, Opening, Closing, Comma, Colon, Blank, Named, Text, Number, token_text, word_text, is_blank, closing_quote, text_in_front, word_in_front, number_in_front, token_in_front}
use Rattle.decimal_import.specs.Grammar.{is_text, is_token}
use Rattle.decimal_import.specs.declared.token.Bracket.TheVariants.{Brace, Square}
use Rattle.decimal_import.specs.declared.token.Word.{Word}
use Rattle.decimal_import.specs.declared.token.Word.TheVariants.{True, False, Null}
use Rattle.decimal_import.proofs.Tokens.{cond_cases, IsLiteralInFront, literal_stands}

-- The closing quote of a string stands k bytes behind its opening one.
pub record IsQuoted (is_escaped : Bool) (bs : List ℕ) (k : ℕ) : Type 0 where
  pub text : is_text is_escaped (take k bs) ≡ true
  pub quote : bs ≡ take k bs ++ 34 ∷ drop (suc k) bs

abbrev IsQuotedAt : Bool → ℕ → List ℕ → Option ℕ → Type 0
IsQuotedAt is_escaped n bs o = (m : ℕ) → o ≡ Some m → (k : ℕ) × ((m ≡ n + k) × IsQuoted is_escaped bs k)

quoted_further : (n b : ℕ) (bs : List ℕ) (is_escaped after : Bool) → ((xs : List ℕ) → is_text is_escaped (b ∷ xs) ≡ is_text after xs) → (o : Option ℕ) → IsQuotedAt after (n + 1) bs o → IsQuotedAt is_escaped n (b ∷ bs) o
quoted_further n b bs is_escaped after text o later m is =
    let found = later m is in
    let k : ℕ = found.0 in
    let place : m ≡ n + 1 + k = found.1.0 in
    let quoted : IsQuoted after bs k = found.1.1 in
    (suc k, (omega arith, record { text = text (take k bs) ∙ quoted.text; quote = ap (λ (xs : List ℕ). b ∷ xs) quoted.quote }))

pub closing_quote_is : (is_escaped : Bool) (n : ℕ) (bs : List ℕ) → IsQuotedAt is_escaped n bs (closing_quote is_escaped n bs)
closing_quote_is is_escaped n [] = λ m is. absurd (cc)
closing_quote_is true n (b ∷ bs) = quoted_further n b bs true false (λ xs. refl) (closing_quote false (n + 1) bs) (closing_quote_is false (n + 1) bs)
closing_quote_is false n (b ∷ bs) =
    cond_cases (IsQuotedAt false n (b ∷ bs)) (b == 34) (Some n) (cond (nat_lt b 32) None (closing_quote (b == 92) (n + 1) bs))
    (λ is m found. let same : n ≡ m = cc in (0, (omega arith, record { text = refl; quote = ap (λ q. q ∷ bs) (eqb-true b 34 is) })))
    (λ other. cond_cases (IsQuotedAt false n (b ∷ bs)) (nat_lt b 32) None (closing_quote (b == 92) (n + 1) bs)
    (λ low m found. absurd (cc))
    (λ high. quoted_further n b bs false (b == 92) (λ xs. rw (other, high) refl) (closing_quote (b == 92) (n + 1) bs) (closing_quote_is (b == 92) (n + 1) bs)))

-- What stands in front is a token of the grammar.
pub record Stands (bs : List ℕ) (t : Token) (rest : List ℕ) : Type 0 where
  pub token : is_token t ≡ true
  pub in_front : bs ≡ token_text t ++ rest
  pub some : 0 < length (token_text t)

abbrev AreSound : List ℕ → Option (Token × List ℕ) → Type 0
AreSound bs o = (t : Token) (rest : List ℕ) → o ≡ Some (t, rest) → Stands bs t rest

sound_some : (bs : List ℕ) (u : Token) (more : List ℕ) → Stands bs u more → AreSound bs (Some (u, more))
sound_some bs u more stands t rest is =
    let pair : (u, more) ≡ (t, rest) = cc in
    let same_token = ap (λ (p : Token × List ℕ). p.0) pair in
    let same_rest = ap (λ (p : Token × List ℕ). p.1) pair in
    rw (← same_token, ← same_rest) stands

sound_none : (bs : List ℕ) → AreSound bs None
sound_none bs t rest is = absurd (cc)

sound_text : (bs : List ℕ) → AreSound (34 ∷ bs) (text_in_front bs)
sound_text bs = from (closing_quote false 0 bs) (closing_quote_is false 0 bs)
  where
    from : (o : Option ℕ) → IsQuotedAt false 0 bs o → AreSound (34 ∷ bs) (option_map (λ n. (Text (take n bs), drop (n + 1) bs)) o)
    from None later = sound_none (34 ∷ bs)
    from (Some n) later =
        let found = later n refl in
        let k : ℕ = found.0 in
        let same : k ≡ n = omega (arith, found.1.0) in
        let quoted = subst (λ (i : ℕ). IsQuoted false bs i) same found.1.1 in
        sound_some (34 ∷ bs) (Text (take n bs)) (drop (n + 1) bs)
        (record {
          token = quoted.text;
          in_front = rw (add-one, append_assoc (take n bs) (34 ∷ []) (drop (suc n) bs)) (ap (λ (xs : List ℕ). 34 ∷ xs) quoted.quote);
          some = omega arith;
        })

word_some : (w : Word) → 0 < length (word_text w)
word_some True = omega arith
word_some False = omega arith
word_some Null = omega arith

sound_word : (w : Word) (bs : List ℕ) → AreSound bs (word_in_front w bs)
sound_word w bs = cond_cases (AreSound bs) (starts_with nat_eq bs (word_text w)) (Some (Named w, drop (length (word_text w)) bs)) None
    (λ starts. let same : word_text w ≡ take (length (word_text w)) bs = same_text (word_text w) (take (length (word_text w)) bs) (sym starts) in
    sound_some bs (Named w) (drop (length (word_text w)) bs)
    (record { token = refl; in_front = sym (take-append-drop (length (word_text w)) bs) ∙ ap (λ (xs : List ℕ). xs ++ drop (length (word_text w)) bs) (sym same); some = word_some w }))
    (λ _. sound_none bs)

sound_number : (bs : List ℕ) → AreSound bs (number_in_front bs)
sound_number bs = from (literal_in_front bs) (literal_stands bs)
  where
    from : (o : Option (Literal × List ℕ)) → ((l : Literal) (rest : List ℕ) → o ≡ Some (l, rest) → IsLiteralInFront bs l rest) → AreSound bs (option_map (λ p. (Number p.0, p.1)) o)
    from None later = sound_none bs
    from (Some p) later =
        let stands = later p.0 p.1 refl in
        sound_some bs (Number p.0) p.1 (record { token = stands.literal; in_front = stands.in_front; some = stands.some })

sound_byte : (b n : ℕ) (bs : List ℕ) (t : Token) → (b == n) ≡ true → is_token t ≡ true → token_text t ≡ n ∷ [] → AreSound (b ∷ bs) (Some (t, bs))
sound_byte b n bs t is token text = sound_some (b ∷ bs) t bs (record { token = token; in_front = rw text (ap (λ q. q ∷ bs) (eqb-true b n is)); some = rw text (omega arith) })

pub token_stands : (bs : List ℕ) → AreSound bs (token_in_front bs)
token_stands [] = sound_none []
token_stands (b ∷ bs) =
    let P : Option (Token × List ℕ) → Type 0 = AreSound (b ∷ bs) in
    cond_cases P (b == 123) _ _ (λ is. sound_byte b 123 bs (Opening Brace) is refl refl) (λ _.
    cond_cases P (b == 91) _ _ (λ is. sound_byte b 91 bs (Opening Square) is refl refl) (λ _.
    cond_cases P (b == 125) _ _ (λ is. sound_byte b 125 bs (Closing Brace) is refl refl) (λ _.
    cond_cases P (b == 93) _ _ (λ is. sound_byte b 93 bs (Closing Square) is refl refl) (λ _.
    cond_cases P (b == 44) _ _ (λ is. sound_byte b 44 bs Comma is refl refl) (λ _.
    cond_cases P (b == 58) _ _ (λ is. sound_byte b 58 bs Colon is refl refl) (λ _.
    cond_cases P (is_blank b) _ _ (λ is. sound_some (b ∷ bs) (Blank b) bs (record { token = is; in_front = refl; some = omega arith })) (λ _.
    cond_cases P (b == 34) _ _ (λ is. subst (λ (q : ℕ). AreSound (q ∷ bs) (text_in_front bs)) (sym (eqb-true b 34 is)) (sound_text bs)) (λ _.
    cond_cases P (b == 116) _ _ (λ _. sound_word True (b ∷ bs)) (λ _.
    cond_cases P (b == 102) _ _ (λ _. sound_word False (b ∷ bs)) (λ _.
    cond_cases P (b == 110) _ _ (λ _. sound_word Null (b ∷ bs)) (λ _. sound_number (b ∷ bs))))))))))))
