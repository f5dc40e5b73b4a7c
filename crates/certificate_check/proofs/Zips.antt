-- Two lists side by side, the second made item by item.
use Rattle.std.proofs.Common.{◌≡◌, ℕ, zero, suc, ◌+◌, ◌<◌, ◌≤◌, List, [], ◌∷◌, ◌++◌, length, get_or, take, sym, subst, arith}
use Rattle.std.specs.List.{All, AllZip}
use Rattle.std.proofs.lemmas.List.{take_all}
use Rattle.std.proofs.lemmas.List.Elements.{All-cons, All-nil}

module _ {A B : Type 0} (R : A → B → Type 0) where
  more_from : (xs : List A) (i : ℕ) (x d : A) (ys : List B) (y : B) → i < length xs → get_or xs i d ≡ x → R x y → AllZip R (take i xs) ys → AllZip R (take (suc i) xs) (ys ++ y ∷ [])
  more_from [] i x d ys y less is holds zip = absurd (omega (arith, less))
  more_from (a ∷ xs) zero x d [] y less is holds zip = (subst (λ (z : A). R z y) (sym is) holds, tt)
  more_from (a ∷ xs) zero x d (b ∷ ys) y less is holds zip = absurd zip
  more_from (a ∷ xs) (suc i) x d [] y less is holds zip = absurd zip
  more_from (a ∷ xs) (suc i) x d (b ∷ ys) y less is holds zip = (zip.0, more_from xs i x d ys y (omega (arith, less)) is holds zip.1)

  -- one item more, and all of them
  pub zip_more : (xs : List A) (i : ℕ) (x : A) (ys : List B) (y : B) → i < length xs → x ≡ get_or xs i x → R x y → AllZip R (take i xs) ys → AllZip R (take (i + 1) xs) (ys ++ y ∷ [])
  zip_more xs i x ys y less is holds zip =
      let next : suc i ≡ i + 1 = omega arith in
      subst (λ (k : ℕ). AllZip R (take k xs) (ys ++ y ∷ [])) next (more_from xs i x x ys y less (sym is) holds zip)

  pub zip_whole : (xs : List A) (i : ℕ) (ys : List B) → length xs ≤ i → AllZip R (take i xs) ys → AllZip R xs ys
  zip_whole xs i ys past zip = subst (λ (zs : List A). AllZip R zs ys) (take_all i xs past) zip

  pub zip_right : (P : B → Type 0) → ((x : A) (y : B) → R x y → P y) → (xs : List A) (ys : List B) → AllZip R xs ys → All P ys
  zip_right P each [] [] zip = All-nil P
  zip_right P each [] (y ∷ ys) zip = absurd zip
  zip_right P each (x ∷ xs) [] zip = absurd zip
  zip_right P each (x ∷ xs) (y ∷ ys) zip = All-cons P y ys (each x y zip.0) (zip_right P each xs ys zip.1)

  pub zip_left : (P : A → Type 0) → ((x : A) (y : B) → R x y → P x) → (xs : List A) (ys : List B) → AllZip R xs ys → All P xs
  zip_left P each [] [] zip = All-nil P
  zip_left P each [] (y ∷ ys) zip = absurd zip
  zip_left P each (x ∷ xs) [] zip = absurd zip
  zip_left P each (x ∷ xs) (y ∷ ys) zip = All-cons P x xs (each x y zip.0) (zip_left P each xs ys zip.1)
