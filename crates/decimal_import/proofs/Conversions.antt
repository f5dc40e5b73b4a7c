-- What the definition of the converted text says in the words of the subject.
use Rattle.std.proofs.Common.{◌≡◌, ℕ, ◌+◌, ◌*◌, ◌^◌, ◌≤◌, ◌==◌, List, [], ◌∷◌, ◌++◌, length, arith, refl, sym, ap, subst, Option, Some, None, Result, Ok, Err, nat_lt, inl, inr}
use Rattle.std.specs.Prelude.{decimal}
use Rattle.std.proofs.lemmas.Bool.{eqb-true, ltb-false}
use Rattle.decimal_import.specs.Literal.{Literal, literal_text}
use Rattle.decimal_import.specs.Rounding.{coefficient, over, under, tens_over, tens_under, IsCeiling, least_whole, whole_number}
use Rattle.decimal_import.specs.Token.{Token, Opening, Closing, Comma, Colon, Blank, Named, Text, Number, token_text, cut}
use Rattle.decimal_import.specs.Grammar.{IsCutInto}
use Rattle.decimal_import.specs.Nesting.{unit_here}
use Rattle.decimal_import.specs.Conversion.{and_then, ok_or, nested, number_text, converted_token, converted_tokens, converted_from, finished, digits_of}
use Rattle.decimal_import.specs.Converted.{IsLeastWhole, NumberBecomes, TokenBecomes, Becomes, IsConverted}
use Rattle.decimal_import.specs.declared.fault.ImportFault.{ImportFault}
use Rattle.decimal_import.specs.declared.fault.ImportFault.TheVariants as faults
use Rattle.decimal_import.specs.declared.nesting.Open.{Open}
use Rattle.decimal_import.specs.declared.nesting.Unit.{Unit as Measure}
use Rattle.decimal_import.specs.declared.conversion.UnitDigits.{UnitDigits}
use Rattle.decimal_import.proofs.Tokens.{cond_cases}
use Rattle.decimal_import.proofs.Ceilings.{IsCeiling-ceiling, IsCeiling-exact, pow_pos}
use Rattle.decimal_import.proofs.Longest.{cut_longest}

pub least_whole-IsCeiling : (digits : ℕ) (l : Literal) → IsCeiling (over digits l) (under l) (least_whole digits l)
unfolding under
least_whole-IsCeiling digits l = IsCeiling-ceiling (over digits l) (under l) (pow_pos (tens_under l))

-- nothing is the least whole number of a literal of 0
zero_least : (digits : ℕ) (l : Literal) → coefficient l ≡ 0 → IsLeastWhole digits l 0
unfolding over under
zero_least digits l none = record {
  sign = inl none;
  least = let nothing : coefficient l * 10 ^ tens_over digits l ≡ 0 * under l = rw none (omega arith) in
      subst (λ (a : ℕ). IsCeiling a (under l) 0) (sym nothing) (IsCeiling-exact 0 (under l) (pow_pos (tens_under l)));
}

-- What is answered as a whole number is the least one.
pub whole_number-least : (digits at : ℕ) (l : Literal) (n : ℕ) → whole_number digits at l ≡ Ok n → IsLeastWhole digits l n × (n ≤ 10 ^ 18)
whole_number-least digits at l =
    let P : Result ℕ ImportFault → Type 0 = λ r. (n : ℕ) → r ≡ Ok n → IsLeastWhole digits l n × (n ≤ 10 ^ 18) in
    cond_cases P (coefficient l == 0) _ _
    (λ zero_all n is. let same : 0 ≡ n = cc in (subst (λ (m : ℕ). IsLeastWhole digits l m) same (zero_least digits l (eqb-true (coefficient l) 0 zero_all)), omega arith))
    (λ some. cond_cases P l.is_negative _ _ (λ negative n is. absurd (cc)) (λ positive.
    cond_cases P (nat_lt (10 ^ 18) (least_whole digits l)) _ _ (λ past n is. absurd (cc)) (λ within n is.
    let same : least_whole digits l ≡ n = cc in
    let small : least_whole digits l ≤ 10 ^ 18 = ltb-false (10 ^ 18) (least_whole digits l) within in
    (subst (λ (m : ℕ). IsLeastWhole digits l m) same (record { sign = inr positive; least = least_whole-IsCeiling digits l }), omega arith))))

number_becomes : (digits : UnitDigits) (at : ℕ) (unit : Option Measure) (l : Literal) (piece : List ℕ) → number_text digits at unit l ≡ Ok piece → NumberBecomes digits unit l piece
number_becomes digits at None l piece is = let same : literal_text l ≡ piece = cc in sym same
number_becomes digits at (Some unit) l piece is = from (whole_number (digits_of digits unit) at l) refl is
  where
    from : (r : Result ℕ ImportFault) → whole_number (digits_of digits unit) at l ≡ r → and_then r (λ n. Ok (decimal n)) ≡ Ok piece → NumberBecomes digits (Some unit) l piece
    from (Ok n) whole told = let same : decimal n ≡ piece = cc in let least = whole_number-least (digits_of digits unit) at l n whole in (n, (least.0, (least.1, sym same)))
    from (Err fault) whole told = absurd (cc)

abbrev done : List ℕ → Result (List ℕ) ImportFault
done text = Ok text

done_injective : (xs ys : List ℕ) → done xs ≡ done ys → xs ≡ ys
done_injective xs ys is = cc

other_stays : (t : Token) (piece : List ℕ) → done (token_text t) ≡ done piece → piece ≡ token_text t
other_stays t piece is = sym (done_injective (token_text t) piece is)

token_becomes : (digits : UnitDigits) (at : ℕ) (unit : Option Measure) (t : Token) (piece : List ℕ) → converted_token digits at unit t ≡ Ok piece → TokenBecomes digits unit t piece
token_becomes digits at unit (Number l) piece is = number_becomes digits at unit l piece is
token_becomes digits at unit (Opening b) piece is = other_stays (Opening b) piece is
token_becomes digits at unit (Closing b) piece is = other_stays (Closing b) piece is
token_becomes digits at unit Comma piece is = other_stays Comma piece is
token_becomes digits at unit Colon piece is = other_stays Colon piece is
token_becomes digits at unit (Blank b) piece is = other_stays (Blank b) piece is
token_becomes digits at unit (Named w) piece is = other_stays (Named w) piece is
token_becomes digits at unit (Text bytes) piece is = other_stays (Text bytes) piece is

-- what a chain of results that is Ok says of each
and_then-ok : {A B : Type 0} (r : Result A ImportFault) (f : A → Result B ImportFault) (y : B) → and_then r f ≡ Ok y → (x : A) × ((r ≡ Ok x) × (f x ≡ Ok y))
and_then-ok (Ok x) f y is = (x, (refl, is))
and_then-ok (Err fault) f y is = absurd (cc)

ok_or-ok : {A : Type 0} (o : Option A) (fault : ImportFault) (x : A) → ok_or o fault ≡ Ok x → o ≡ Some x
ok_or-ok (Some z) fault x is = let same : z ≡ x = cc in ap Some same
ok_or-ok None fault x is = absurd (cc)

finished-ok : (at : ℕ) (opens : List Open) (left text : List ℕ) → finished at opens left ≡ Ok text → (left ≡ []) × ((opens ≡ []) × (text ≡ []))
finished-ok at [] [] text is = let same : [] ≡ text = cc in (refl, (refl, sym same))
finished-ok at [] (b ∷ bs) text is = absurd (cc)
finished-ok at (o ∷ os) left text is = absurd (cc)

tokens_become : (digits : UnitDigits) (at : ℕ) (opens : List Open) (ts : List Token) (left text : List ℕ) → converted_tokens digits at opens ts left ≡ Ok text → (left ≡ []) × Becomes digits opens ts text
tokens_become digits at opens [] left text is = finished-ok at opens left text is
tokens_become digits at opens (t ∷ ts) left text is =
    let first = and_then-ok (ok_or (nested opens t ts) (faults.Token at)) _ text is in
    let inner : List Open = first.0 in
    let second = and_then-ok (converted_token digits at (unit_here opens) t) _ text first.1.1 in
    let piece : List ℕ = second.0 in
    let third = and_then-ok (converted_tokens digits (at + length (token_text t)) inner ts left) _ text second.1.1 in
    let more : List ℕ = third.0 in
    let rest = tokens_become digits (at + length (token_text t)) inner ts left more third.1.0 in
    let same : piece ++ more ≡ text = done_injective (piece ++ more) text third.1.1 in
    (rest.0, (inner, (piece, (more, (ok_or-ok (nested opens t ts) (faults.Token at) inner first.1.0, (token_becomes digits at (unit_here opens) t piece second.1.0, (rest.1, sym same)))))))

-- A converted text is what the bytes become.
pub converted_from-IsConverted : (time energy : ℕ) (bytes text : List ℕ) → converted_from (record { time = time; energy = energy }) 0 [] bytes ≡ Ok text → IsConverted time energy bytes text
unfolding converted_from
converted_from-IsConverted time energy bytes text is =
    let become = tokens_become (record { time = time; energy = energy }) 0 [] (cut bytes).0 (cut bytes).1 text is in
    ((cut bytes).0, (subst (λ (left : List ℕ). IsCutInto bytes (cut bytes).0 left) become.0 (cut_longest bytes), become.1))
