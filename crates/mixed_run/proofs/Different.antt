-- The files that are written are different ones.
use Rattle.std.proofs.Common.{◌≡◌, ◌≢◌, ◌||◌, ℕ, List, ◌∷◌, Bool, true, not, refl, subst}
use Rattle.std.proofs.lemmas.Bool.{false≢true}
use Rattle.std.proofs.lemmas.Slice.Eq.{bytes_eq-Decides}
use Rattle.std.specs.Str.{bytes_eq}
use Rattle.command_line.proofs.Tested.{both_true}
use Rattle.call_words.specs.Names.{are_different, is_listed}

-- the first two of different names are different
pub first_differ : (plan cert : List ℕ) (files : List (List ℕ)) → are_different (plan ∷ cert ∷ files) ≡ true → plan ≢ cert
first_differ plan cert files is same =
    let other : not (bytes_eq cert plan || is_listed plan files) ≡ true = (both_true (not (is_listed plan (cert ∷ files))) (are_different (cert ∷ files)) is).0 in
    let equal : bytes_eq cert plan ≡ true = subst (λ (name : List ℕ). bytes_eq name plan ≡ true) same ((bytes_eq-Decides plan plan).1 refl) in
    false≢true (subst (λ (b : Bool). not (b || is_listed plan files) ≡ true) equal other)
