-- Answers that are values or faults.
use Rattle.std.proofs.Common.{◌≡◌, ◌⊎◌, inl, inr, ℕ, List, [], ◌∷◌, length, Result, Ok, Err, refl, ap, arith}
use Rattle.std.specs.Result.{is_ok}
use Rattle.std.proofs.lemmas.Bool.{false≢true}
use Rattle.ev_text.specs.Scans.{and_then}

value_or : {A E : Type 0} → A → Result A E → A
value_or d (Ok a) = a
value_or d (Err fault) = d

pub Ok-injective : {A E : Type 0} (a b : A) → ◌≡◌ {A = Result A E} (Ok a) (Ok b) → a ≡ b
unfolding value_or
Ok-injective {A} {E} a b same = ap (λ (r : Result A E). value_or a r) same

pub Err-ne-Ok : {A E : Type 0} (fault : E) (a : A) → ◌≡◌ {A = Result A E} (Err fault) (Ok a) → ⊥
Err-ne-Ok {A} {E} fault a same = false≢true (ap (λ (r : Result A E). is_ok r) same)

pub and_then-ok : {A B E : Type 0} (r : Result A E) (next : A → Result B E) (v : B) → and_then r next ≡ Ok v → (a : A) × (r ≡ Ok a) × (next a ≡ Ok v)
and_then-ok (Ok a) next v is = (a, refl, is)
and_then-ok (Err fault) next v is = absurd (Err-ne-Ok fault v is)

-- which of two readers a fault comes from
pub fault_of_two : {A B E : Type 0} (answer : Result A E) (next : A → Result B E) (fault : E) → and_then answer next ≡ Err fault
    → (answer ≡ Err fault) ⊎ ((found : A) × (answer ≡ Ok found) × (next found ≡ Err fault))
fault_of_two (Ok found) next fault is = inr (found, refl, is)
fault_of_two (Err other) next fault is = inl (let same : other ≡ fault = cc in ap (λ f. Err f) same)

pub no_bytes : (xs : List ℕ) → length xs ≡ 0 → xs ≡ []
no_bytes [] none = refl
no_bytes (x ∷ xs) none = absurd (omega (arith, none))
