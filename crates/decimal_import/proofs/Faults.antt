-- A conversion's faults are those of bytes.
use Rattle.std.proofs.Common.{ℕ, ◌+◌, ◌^◌, ◌==◌, List, [], ◌∷◌, length, subst, Option, Some, None, Result, Ok, Err, nat_lt}
use Rattle.std.specs.Prelude.{IfErr, IsErrOf, decimal}
use Rattle.decimal_import.specs.Literal.{Literal}
use Rattle.decimal_import.specs.Rounding.{whole_number, coefficient, least_whole}
use Rattle.decimal_import.specs.Token.{Token, Opening, Closing, Comma, Colon, Blank, Named, Text, Number, token_text, cut}
use Rattle.decimal_import.specs.Nesting.{unit_here}
use Rattle.decimal_import.specs.Conversion.{and_then, ok_or, nested, number_text, converted_token, converted_tokens, converted_from, finished, digits_of, Refuses}
use Rattle.decimal_import.specs.declared.fault.ImportFault.{ImportFault}
use Rattle.decimal_import.specs.declared.fault.ImportFault.TheVariants as faults
use Rattle.decimal_import.specs.declared.nesting.Open.{Open}
use Rattle.decimal_import.specs.declared.nesting.Unit.{Unit as Measure}
use Rattle.decimal_import.specs.declared.conversion.UnitDigits.{UnitDigits}
use Rattle.decimal_import.proofs.Tokens.{cond_cases}

abbrev IsOfByte : ImportFault → Type 0
IsOfByte (faults.Token at) = Unit {0}
IsOfByte (faults.Negative at) = Unit {0}
IsOfByte (faults.TooLarge at) = Unit {0}
IsOfByte faults.Digits = ⊥
IsOfByte (faults.TooLong len) = ⊥
IsOfByte faults.Memory = Unit {0}

abbrev AreOfByte : {A : Type 0} → Result A ImportFault → Type 0
AreOfByte result = IfErr result IsOfByte

and_then-AreOfByte : {A B : Type 0} (result : Result A ImportFault) (f : A → Result B ImportFault) → AreOfByte result → ((x : A) → AreOfByte (f x)) → AreOfByte (and_then result f)
and_then-AreOfByte (Ok x) f first second = second x
and_then-AreOfByte (Err fault) f first second = first

ok_or-AreOfByte : {A : Type 0} (o : Option A) (at : ℕ) → AreOfByte (ok_or o (faults.Token at))
ok_or-AreOfByte (Some x) at = tt
ok_or-AreOfByte None at = tt

whole_number-AreOfByte : (digits at : ℕ) (l : Literal) → AreOfByte (whole_number digits at l)
whole_number-AreOfByte digits at l =
    let P : Result ℕ ImportFault → Type 0 = λ r. AreOfByte r in
    cond_cases P (coefficient l == 0) _ _ (λ _. tt) (λ _.
    cond_cases P l.is_negative _ _ (λ _. tt) (λ _.
    cond_cases P (nat_lt (10 ^ 18) (least_whole digits l)) _ _ (λ _. tt) (λ _. tt)))

number_text-AreOfByte : (digits : UnitDigits) (at : ℕ) (unit : Option Measure) (l : Literal) → AreOfByte (number_text digits at unit l)
number_text-AreOfByte digits at None l = tt
number_text-AreOfByte digits at (Some unit) l = and_then-AreOfByte (whole_number (digits_of digits unit) at l) (λ n. Ok (decimal n)) (whole_number-AreOfByte (digits_of digits unit) at l) (λ n. tt)

converted_token-AreOfByte : (digits : UnitDigits) (at : ℕ) (unit : Option Measure) (t : Token) → AreOfByte (converted_token digits at unit t)
converted_token-AreOfByte digits at unit (Number l) = number_text-AreOfByte digits at unit l
converted_token-AreOfByte digits at unit (Opening b) = tt
converted_token-AreOfByte digits at unit (Closing b) = tt
converted_token-AreOfByte digits at unit Comma = tt
converted_token-AreOfByte digits at unit Colon = tt
converted_token-AreOfByte digits at unit (Blank b) = tt
converted_token-AreOfByte digits at unit (Named w) = tt
converted_token-AreOfByte digits at unit (Text bytes) = tt

finished-AreOfByte : (at : ℕ) (opens : List Open) (left : List ℕ) → AreOfByte (finished at opens left)
finished-AreOfByte at [] [] = tt
finished-AreOfByte at [] (b ∷ bs) = tt
finished-AreOfByte at (o ∷ os) left = tt

converted_tokens-AreOfByte : (digits : UnitDigits) (at : ℕ) (opens : List Open) (ts : List Token) (left : List ℕ) → AreOfByte (converted_tokens digits at opens ts left)
converted_tokens-AreOfByte digits at opens [] left = finished-AreOfByte at opens left
converted_tokens-AreOfByte digits at opens (t ∷ ts) left =
    and_then-AreOfByte (ok_or (nested opens t ts) (faults.Token at)) _ (ok_or-AreOfByte (nested opens t ts) at) (λ inner.
    and_then-AreOfByte (converted_token digits at (unit_here opens) t) _ (converted_token-AreOfByte digits at (unit_here opens) t) (λ text.
    and_then-AreOfByte (converted_tokens digits (at + length (token_text t)) inner ts left) _ (converted_tokens-AreOfByte digits (at + length (token_text t)) inner ts left) (λ more. tt)))

converted_from-AreOfByte : (digits : UnitDigits) (at : ℕ) (opens : List Open) (bs : List ℕ) → AreOfByte (converted_from digits at opens bs)
unfolding converted_from
converted_from-AreOfByte digits at opens bs = converted_tokens-AreOfByte digits at opens (cut bs).0 (cut bs).1

-- a conversion of tokens answers neither of the first two faults

pub not_too_long : (digits : UnitDigits) (bs : List ℕ) (len : ℕ) (A : Type 0) (result : Result A ImportFault) → IfErr result (λ fault. Refuses fault (converted_from digits 0 [] bs)) → IsErrOf result (faults.TooLong len) → ⊥
not_too_long digits bs len A result refuses is =
    let told = subst (λ (r : Result A ImportFault). IfErr r (λ fault. Refuses fault (converted_from digits 0 [] bs))) is refuses in
    subst (λ (r : Result (List ℕ) ImportFault). AreOfByte r) told (converted_from-AreOfByte digits 0 [] bs)

pub not_digits : (digits : UnitDigits) (bs : List ℕ) (A : Type 0) (result : Result A ImportFault) → IfErr result (λ fault. Refuses fault (converted_from digits 0 [] bs)) → IsErrOf result faults.Digits → ⊥
not_digits digits bs A result refuses is =
    let told = subst (λ (r : Result A ImportFault). IfErr r (λ fault. Refuses fault (converted_from digits 0 [] bs))) is refuses in
    subst (λ (r : Result (List ℕ) ImportFault). AreOfByte r) told (converted_from-AreOfByte digits 0 [] bs)
