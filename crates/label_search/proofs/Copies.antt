-- The listed labels as a list of their own.
use Rattle.std.proofs.Common.{◌≡◌, ◌∙◌, ℕ, sym, ap, List, [], ◌∷◌, ◌++◌, length, inl, inr, Some}
use Rattle.std.specs.Prelude.{slice_get}
use Rattle.std.proofs.lemmas.Option.{same_Some}
use Rattle.label_pool.proofs.Elements.{appended_cases}
use Rattle.label_search.specs.Tree.{AreCopiesAt}
use Rattle.label_search.specs.declared.found.Found.{Found}

module _ {Label : Type 0} where
  -- one copy more
  pub copies_more : (found : List (Found Label)) (numbers : List ℕ) (labels new : List Label) (copy : Label) (i m : ℕ) (f : Found Label) → AreCopiesAt found numbers labels → length labels ≡ i → new ≡ labels ++ copy ∷ [] → slice_get numbers i ≡ Some m → slice_get found m ≡ Some f → copy ≡ f.label → AreCopiesAt found numbers new
  copies_more found numbers labels new copy i m f before count items number here is k n l at there =
      let behind : slice_get (labels ++ copy ∷ []) k ≡ Some l = ap (λ (ls : List Label). slice_get ls k) (sym items) ∙ there in
      elim (appended_cases labels copy l k behind) [
        | inl earlier ↦ before k n l at earlier
        | inr last ↦
            let place : k ≡ i = last.0 ∙ count in
            let same : m ≡ n = same_Some m n (sym number ∙ ap (λ j. slice_get numbers j) (sym place) ∙ at) in
            (f, ap (λ j. slice_get found j) (sym same) ∙ here, sym is ∙ last.1)
      ]
