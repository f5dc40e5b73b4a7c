-- A text that was appended piece by piece.
use Rattle.std.proofs.Common.{◌≡◌, ◌∙◌, ℕ, ◌++◌, List, [], ◌∷◌, ap, append_assoc, refl, sym}
use Rattle.ev_text.specs.Texts.{joined_texts}

-- one piece behind others
pub join : (x y z a b : List ℕ) → y ≡ x ++ a → z ≡ y ++ b → z ≡ x ++ (a ++ b)
join x y z a b before piece = piece ∙ ap (λ w. w ++ b) before ∙ append_assoc x a b

-- one piece behind others, which is another one as well
pub join_by : (x y z a b b' : List ℕ) → y ≡ x ++ a → z ≡ y ++ b → b ≡ b' → z ≡ x ++ (a ++ b')
join_by x y z a b b' before piece is = join x y z a b before piece ∙ ap (λ w. x ++ (a ++ w)) is

-- the texts of items in two lists
pub joined_both : {A : Type 0} (text : A → List ℕ) (xs ys : List A) → joined_texts text (xs ++ ys) ≡ joined_texts text xs ++ joined_texts text ys
joined_both {A} text [] ys = refl
joined_both {A} text (a ∷ xs) ys =
    ap (λ (rest : List ℕ). text a ++ rest) (joined_both text xs ys) ∙ sym (append_assoc (text a) (joined_texts text xs) (joined_texts text ys))
