-- Reading items that ask for others, one after another: those so far, in front of those that are read from here on, are all.
use Rattle.std.proofs.Common.{◌≡◌, ◌∙◌, ℕ, zero, suc, ◌<◌, List, [], ◌∷◌, ◌++◌, length, length-drop, Result, Ok, Err, refl, sym, ap, append-nil, arith}
use Rattle.ev_text.specs.Readers.{Reader}
use Rattle.ev_text.specs.Scans.{and_then, rest_of}
use Rattle.ev_text.specs.declared.TextFault.{TextFault}
use Rattle.ev_text.proofs.Loops.{in_front, in_front-none, in_front-twice}
use Rattle.tree_text.specs.Asked.{each_asked, few_asked}

module _ {A S : Type 0} (read : S → Reader A) (next : S → A → List S) where
  abbrev pub IsAskedTo : Result (List A × (List ℕ × ℕ)) TextFault → List A → List S → List ℕ × ℕ → Type 0
  IsAskedTo all items states s = (most : ℕ) × (length (rest_of s) < most) × (in_front items (few_asked read next most states s) ≡ all)

  pub asked-begins : (items : List A) (states : List S) (s : List ℕ × ℕ) → items ≡ [] → IsAskedTo (each_asked read next states s) items states s
  asked-begins items states s none =
      (suc (length s.0), omega (arith, length-drop s.1 s.0), ap (λ xs. in_front xs (few_asked read next (suc (length s.0)) states s)) none ∙ in_front-none (few_asked read next (suc (length s.0)) states s))

  step : (most : ℕ) (state : S) (states : List S) (s : List ℕ × ℕ) → length (rest_of s) < most
      → (fewer : ℕ) × (most ≡ suc fewer) × (few_asked read next most (state ∷ states) s ≡ and_then (read state s) (λ item. in_front (item.0 ∷ []) (few_asked read next fewer (next state item.0 ++ states) item.1)))
  step zero state states s less = absurd (omega (arith, less))
  step (suc most) state states s less = (most, refl, refl)

  pub asked-goes_on : (all : Result (List A × (List ℕ × ℕ)) TextFault) (state : S) (states later : List S) (s t : List ℕ × ℕ) (items more : List A) (item : A)
      → IsAskedTo all items (state ∷ states) s → read state s ≡ Ok (item, t) → length (rest_of t) < length (rest_of s) → more ≡ items ++ item ∷ [] → later ≡ next state item ++ states → IsAskedTo all more later t
  asked-goes_on all state states later s t items more item (most, less, is) found shorter more_is later_is =
      let after = step most state states s less in
      let fewer = after.0 in
      let rest = few_asked read next fewer (next state item ++ states) t in
      let one : few_asked read next most (state ∷ states) s ≡ in_front (item ∷ []) rest =
      after.2 ∙ ap (λ r. and_then r (λ item. in_front (item.0 ∷ []) (few_asked read next fewer (next state item.0 ++ states) item.1))) found in (
        fewer,
        omega (arith, less, after.1, shorter),
        ap (λ xs. in_front more (few_asked read next fewer xs t)) later_is ∙ ap (λ xs. in_front xs rest) more_is ∙ sym (in_front-twice items item rest) ∙ ap (λ r. in_front items r) (sym one) ∙ is,
      )

  pub asked-breaks : (all : Result (List A × (List ℕ × ℕ)) TextFault) (state : S) (states : List S) (s : List ℕ × ℕ) (items : List A) (fault : TextFault)
      → IsAskedTo all items (state ∷ states) s → read state s ≡ Err fault → all ≡ Err fault
  asked-breaks all state states s items fault (most, less, is) found =
      let after = step most state states s less in
      sym is ∙ ap (λ r. in_front items r) (after.2 ∙ ap (λ r. and_then r (λ item. in_front (item.0 ∷ []) (few_asked read next after.0 (next state item.0 ++ states) item.1))) found)

  pub asked-ends : (all : Result (List A × (List ℕ × ℕ)) TextFault) (states : List S) (s : List ℕ × ℕ) (items : List A) → states ≡ [] → IsAskedTo all items states s → all ≡ Ok (items, s)
  asked-ends all states s items none (most, less, is) =
      sym is ∙ ap (λ xs. in_front items (few_asked read next most xs s)) none ∙ last most
    where
      last : (most : ℕ) → in_front items (few_asked read next most [] s) ≡ Ok (items, s)
      last zero = ap (λ (xs : List A). Ok (xs, s)) (append-nil items)
      last (suc n) = ap (λ (xs : List A). Ok (xs, s)) (append-nil items)
