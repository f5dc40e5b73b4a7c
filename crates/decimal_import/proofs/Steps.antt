-- A conversion, a token at a time.
use Rattle.std.proofs.Common.{◌≡◌, ℕ, ◌+◌, ◌-◌, ◌<◌, List, [], ◌∷◌, ◌++◌, length, take, arith, refl, sym, ap, Some, None, Result, Ok, Err, append_assoc, length-append}
use Rattle.std.proofs.lemmas.List.{append-nil}
use Rattle.decimal_import.specs.Token.{Token, token_text, token_in_front, cut_within, cut}
use Rattle.decimal_import.specs.Nesting.{unit_here}
use Rattle.decimal_import.specs.Conversion.{and_then, ok_or, nested, converted_token, converted_from, finished, Refuses}
use Rattle.decimal_import.specs.declared.fault.ImportFault.{ImportFault}
use Rattle.decimal_import.specs.declared.fault.ImportFault.TheVariants as faults
use Rattle.decimal_import.specs.declared.nesting.Open.{Open}
use Rattle.decimal_import.specs.declared.conversion.UnitDigits.{UnitDigits}
use Rattle.decimal_import.proofs.Cuts.{cut-some, cut-none, token_in_front-shorter}
use Rattle.std.proofs.Math.Seq.{take-append_seam}

-- Nothing in front of a result changes nothing.
pub and_then-nothing : (result : Result (List ℕ) ImportFault) → and_then result (λ (more : List ℕ). Ok ([] ++ more)) ≡ result
and_then-nothing (Ok text) = refl
and_then-nothing (Err fault) = refl

-- What stands in front of a result goes to its front.
pub and_then-front : (front piece : List ℕ) (result : Result (List ℕ) ImportFault) → and_then (and_then result (λ (more : List ℕ). Ok (piece ++ more))) (λ (more : List ℕ). Ok (front ++ more)) ≡ and_then result (λ (more : List ℕ). Ok ((front ++ piece) ++ more))
and_then-front front piece (Ok text) = ap Ok (sym (append_assoc front piece text))
and_then-front front piece (Err fault) = refl

-- A token whose brace or bracket matches, and that has a text.
pub converted_from-some : (digits : UnitDigits) (at : ℕ) (opens inner : List Open) (bs : List ℕ) (t : Token) (rest piece : List ℕ) → token_in_front bs ≡ Some (t, rest) → nested opens t (cut rest).0 ≡ Some inner → converted_token digits at (unit_here opens) t ≡ Ok piece → converted_from digits at opens bs ≡ and_then (converted_from digits (at + length (token_text t)) inner rest) (λ (more : List ℕ). Ok (piece ++ more))
unfolding converted_from
converted_from-some digits at opens inner bs t rest piece is nests becomes = rw (cut-some bs t rest is, nests, becomes) refl

-- A token that closes what isn't open.
pub converted_from-unmatched : (digits : UnitDigits) (at : ℕ) (opens : List Open) (bs : List ℕ) (t : Token) (rest : List ℕ) (fault : ImportFault) → token_in_front bs ≡ Some (t, rest) → ok_or (nested opens t (cut rest).0) (faults.Token at) ≡ Err fault → converted_from digits at opens bs ≡ Err fault
unfolding converted_from
converted_from-unmatched digits at opens bs t rest fault is nests = rw (cut-some bs t rest is, nests) refl

-- A token without a text.
pub converted_from-refused : (digits : UnitDigits) (at : ℕ) (opens inner : List Open) (bs : List ℕ) (t : Token) (rest : List ℕ) (fault : ImportFault) → token_in_front bs ≡ Some (t, rest) → nested opens t (cut rest).0 ≡ Some inner → converted_token digits at (unit_here opens) t ≡ Err fault → converted_from digits at opens bs ≡ Err fault
unfolding converted_from
converted_from-refused digits at opens inner bs t rest fault is nests becomes = rw (cut-some bs t rest is, nests, becomes) refl

-- Bytes with no token in front.
pub converted_from-none : (digits : UnitDigits) (at : ℕ) (opens : List Open) (bs : List ℕ) → token_in_front bs ≡ None → 0 < length bs → converted_from digits at opens bs ≡ Err (faults.Token at)
unfolding converted_from
converted_from-none digits at opens [] is some = absurd (omega arith)
converted_from-none digits at [] (b ∷ bs) is some = rw (cut-none (b ∷ bs) is) refl
converted_from-none digits at (o ∷ os) (b ∷ bs) is some = rw (cut-none (b ∷ bs) is) refl

-- the end of a text
pub converted_from-end : (digits : UnitDigits) (at : ℕ) (opens : List Open) → converted_from digits at opens [] ≡ finished at opens []
unfolding converted_from cut_within
converted_from-end digits at opens = refl

-- A fault of a part is one of the whole.
pub Refuses-from : {A : Type 0} (part : Result A ImportFault) (whole : Result (List ℕ) ImportFault) (fault : ImportFault) → (part ≡ Err fault → whole ≡ Err fault) → Refuses fault part → Refuses fault whole
Refuses-from part whole (faults.Token at) from is = from is
Refuses-from part whole (faults.Negative at) from is = from is
Refuses-from part whole (faults.TooLarge at) from is = from is
Refuses-from part whole faults.Digits from is = from is
Refuses-from part whole (faults.TooLong len) from is = from is
Refuses-from part whole faults.Memory from is = tt

pub finished-open : (at : ℕ) (opens : List Open) → (opens ≡ [] → ⊥) → finished at opens [] ≡ Err (faults.Token at)
finished-open at [] some = absurd (some refl)
finished-open at (o ∷ os) some = refl

pub finished-closed : (at : ℕ) (opens : List Open) (text : List ℕ) → opens ≡ [] → and_then (finished at opens []) (λ (more : List ℕ). Ok (text ++ more)) ≡ Ok text
finished-closed at opens text closed = rw closed (ap Ok (append-nil text))

-- A step of a conversion, whose text stands in front of what is to come.

abbrev to_come : UnitDigits → ℕ → List Open → List ℕ → List ℕ → Result (List ℕ) ImportFault
to_come digits at opens bs front = and_then (converted_from digits at opens bs) (λ (more : List ℕ). Ok (front ++ more))

pub step-some : (digits : UnitDigits) (at : ℕ) (opens inner : List Open) (bs : List ℕ) (t : Token) (rest front text : List ℕ) → token_in_front bs ≡ Some (t, rest) → nested opens t (cut rest).0 ≡ Some inner → and_then (converted_token digits at (unit_here opens) t) (λ (piece : List ℕ). Ok (front ++ piece)) ≡ Ok text → to_come digits (at + (length bs - length rest)) inner rest text ≡ to_come digits at opens bs front
step-some digits at opens inner bs t rest front text is nests becomes = from (converted_token digits at (unit_here opens) t) refl becomes
  where
    from : (r : Result (List ℕ) ImportFault) → converted_token digits at (unit_here opens) t ≡ r → and_then r (λ (piece : List ℕ). Ok (front ++ piece)) ≡ Ok text → to_come digits (at + (length bs - length rest)) inner rest text ≡ to_come digits at opens bs front
    from (Ok piece) piece_is told =
        let text_is : front ++ piece ≡ text = cc in
        let place : length bs - length rest ≡ length (token_text t) = omega (arith, token_in_front-shorter bs t rest is) in
        rw (converted_from-some digits at opens inner bs t rest piece is nests piece_is, place, ← text_is) (sym (and_then-front front piece (converted_from digits (at + length (token_text t)) inner rest)))
    from (Err fault) piece_is told = absurd (cc)

pub step-unmatched : (digits : UnitDigits) (at : ℕ) (opens : List Open) (bs : List ℕ) (t : Token) (rest front : List ℕ) (fault : ImportFault) → token_in_front bs ≡ Some (t, rest) → Refuses fault (ok_or (nested opens t (cut rest).0) (faults.Token at)) → Refuses fault (to_come digits at opens bs front)
step-unmatched digits at opens bs t rest front fault is = Refuses-from (ok_or (nested opens t (cut rest).0) (faults.Token at)) (to_come digits at opens bs front) fault
    (λ refused. rw (converted_from-unmatched digits at opens bs t rest fault is refused) refl)

pub step-refused : (digits : UnitDigits) (at : ℕ) (opens inner : List Open) (bs : List ℕ) (t : Token) (rest front : List ℕ) (fault : ImportFault) → token_in_front bs ≡ Some (t, rest) → nested opens t (cut rest).0 ≡ Some inner → Refuses fault (converted_token digits at (unit_here opens) t) → Refuses fault (to_come digits at opens bs front)
step-refused digits at opens inner bs t rest front fault is nests = Refuses-from (converted_token digits at (unit_here opens) t) (to_come digits at opens bs front) fault
    (λ refused. rw (converted_from-refused digits at opens inner bs t rest fault is nests refused) refl)

-- the bytes of a token
pub take-front : (bs front rest : List ℕ) → bs ≡ front ++ rest → take (length bs - length rest) bs ≡ front
take-front bs front rest is =
    let count : length bs - length rest ≡ length front = rw (is, length-append) (omega arith) in
    rw (count, is) (take-append_seam front rest)
