-- The open braces and brackets, kept with the innermost last.
use Rattle.std.proofs.Common.{◌≡◌, ℕ, ◌-◌, ◌<◌, List, [], ◌∷◌, ◌++◌, length, reverse, refl, set, get_or, arith, sym, ap, ◌∙◌, length-append}
use Rattle.std.proofs.Math.Seq.{set-append_seam, get_or-append_seam}
use Rattle.std.proofs.lemmas.List.{reverse-append, reverse-reverse, length-reverse}
use Rattle.decimal_import.specs.Nesting.{under_key, unit_of_key}
use Rattle.decimal_import.specs.declared.nesting.Open.{Open}

pub reverse-cons : {A : Type 0} (x : A) (xs : List A) → reverse (x ∷ xs) ≡ reverse xs ++ x ∷ []
reverse-cons x xs = reverse-append (x ∷ []) xs

-- what changes the last item changes the first from the other end
pub reverse-set_last : {A : Type 0} (f : A → A) (d x : A) (xs items : List A) → items ≡ reverse (x ∷ xs) → reverse (set items (length items - 1) (f (get_or items (length items - 1) d))) ≡ f x ∷ xs
reverse-set_last f d x xs items is =
    let split : items ≡ reverse xs ++ x ∷ [] = is ∙ reverse-cons x xs in
    let last : length items - 1 ≡ length (reverse xs) = rw (split, length-append (reverse xs) (x ∷ [])) (omega arith) in
    rw (last, split, get_or-append_seam (reverse xs) x [] d, set-append_seam (reverse xs) x [] (f x), reverse-append (reverse xs) (f x ∷ []), reverse-reverse xs) refl

-- the key of the innermost is that of the last
pub under_key-last : (key : List ℕ) (d : Open) (opens : List Open) (items : List Open) → reverse items ≡ opens → 0 < length items → reverse (set items (length items - 1) (record { bracket = (get_or items (length items - 1) d).bracket; unit = unit_of_key key })) ≡ under_key key opens
under_key-last key d [] items is some = absurd (let none : length items ≡ 0 = sym (length-reverse items) ∙ ap length is in omega arith)
under_key-last key d (o ∷ os) items is some =
    reverse-set_last (λ (q : Open). record { bracket = q.bracket; unit = unit_of_key key }) d o os items (sym (reverse-reverse items) ∙ ap reverse is)
