-- Going along a list, of whose items each is looked at as something else.
use Rattle.std.proofs.Common.{◌≡◌, ◌∙◌, ℕ, zero, suc, ◌+◌, ◌<◌, ◌≤◌, List, [], ◌∷◌, Some, length, get_or, map, slice_get, refl, sym, ap, subst, arith, inl, inr}
use Rattle.std.proofs.lemmas.Bool.{cases_eq}
use Rattle.std.proofs.lemmas.Option.{same_Some, slice_get_within}

module _ {A B : Type 0} (f : A → B) where
  there_from : (xs : List A) (i : ℕ) (x d : A) → i < length xs → get_or xs i d ≡ x → slice_get (map f xs) i ≡ Some (f x)
  there_from [] i x d less is = absurd (omega (arith, less))
  there_from (y ∷ xs) zero x d less is = ap (λ z. Some (f z)) is
  there_from (y ∷ xs) (suc i) x d less is = there_from xs i x d (omega (arith, less)) is

  pub there : (xs : List A) (i : ℕ) (x : A) → i < length xs → x ≡ get_or xs i x → slice_get (map f xs) i ≡ Some (f x)
  there xs i x less is = there_from xs i x x less (sym is)

  many : (xs : List A) → length (map f xs) ≡ length xs
  many [] = refl
  many (x ∷ xs) = ap suc (many xs)

module _ {A B : Type 0} (f : A → B) (P : B → Type 0) (xs : List A) (i : ℕ) where
  pub passed_more : (x : A) → i < length xs → x ≡ get_or xs i x → P (f x) → ((m : ℕ) (y : B) → m < i → slice_get (map f xs) m ≡ Some y → P y)
      → (m : ℕ) (y : B) → m < i + 1 → slice_get (map f xs) m ≡ Some y → P y
  passed_more x less is holds before m y low at = elim (cases_eq m i) [
    | inl same ↦ subst P (same_Some (f x) y (sym (there f xs i x less is) ∙ ap (slice_get (map f xs)) (sym same) ∙ at)) holds
    | inr other ↦ before m y (omega (arith, low, other)) at
  ]

  pub passed_all : length xs ≤ i → ((m : ℕ) (y : B) → m < i → slice_get (map f xs) m ≡ Some y → P y) → (m : ℕ) (y : B) → slice_get (map f xs) m ≡ Some y → P y
  passed_all past before m y at =
      let within = slice_get_within (map f xs) m y at in
      before m y (omega (arith, within, many f xs, past)) at
