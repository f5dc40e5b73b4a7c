-- What a reader of items that ask for others owes.
use Rattle.std.proofs.Common.{◌≡◌, ◌∙◌, inl, inr, ℕ, zero, suc, ◌<◌, ◌≤◌, List, [], ◌∷◌, ◌++◌, length, length-append, length-drop, Result, Ok, Err, refl, sym, ap, subst, append_assoc, arith}
use Rattle.ev_text.specs.Readers.{Reader}
use Rattle.ev_text.specs.Scans.{and_then, rest_of}
use Rattle.ev_text.specs.Texts.{Begins, IsTextOf, joined_texts}
use Rattle.ev_text.specs.declared.TextFault.{TextFault}
use Rattle.ev_text.specs.declared.TextFault.TheVariants.{End}
use Rattle.ev_text.proofs.Grown.{Stays, Within, grown, stays-then}
use Rattle.ev_text.proofs.Mended.{IsMended, behind, mended-behind, mended-map}
use Rattle.ev_text.proofs.Numbers.{Anything}
use Rattle.ev_text.proofs.ReadingLaws.{Reads, Takes, reads-moves}
use Rattle.ev_text.proofs.Results.{Err-ne-Ok, Ok-injective, and_then-ok, fault_of_two}
use Rattle.tree_text.specs.Asked.{AllAsked, each_asked, few_asked}

module _ {A S : Type 0} (Still : TextFault → List ℕ → List ℕ → Type 0) (read : S → Reader A) (next : S → A → List S) (text : A → List ℕ) (Fits Loose : S → A → Type 0)
    (reader : (state : S) → Reads Still (read state) text (Fits state) (Loose state) Anything)
    (some : (state : S) → (a : A) × Loose state a × (next state a ≡ []))
    (bytes : (state : S) (a : A) → Fits state a → 0 < length (text a)) where
  abbrev others : ℕ → S → List S → A × (List ℕ × ℕ) → Result (List A × (List ℕ × ℕ)) TextFault
  others most state states item = and_then (few_asked read next most (next state item.0 ++ states) item.1) (λ items. Ok (item.0 ∷ items.0, items.1))

  loosely : (states : List S) (items : List A) → AllAsked Fits next states items → AllAsked Loose next states items
  loosely [] [] all = tt
  loosely [] (a ∷ items) all = absurd all
  loosely (state ∷ states) [] all = absurd all
  loosely (state ∷ states) (a ∷ items) all = ((reader state).loose a all.0, loosely (next state a ++ states) items all.1)

  -- what is asked for can be had
  completed : (states : List S) → (items : List A) × AllAsked Loose next states items
  completed [] = ([], tt)
  completed (state ∷ states) =
      let item = some state in
      let rest = completed states in
      (item.0 ∷ rest.0, (item.1, subst (λ (xs : List S). AllAsked Loose next (xs ++ states) rest.0) (sym item.2) rest.1))

  abbrev Stands : List S → List ℕ × ℕ → List A × (List ℕ × ℕ) → Type 0
  Stands states s found = AllAsked Fits next states found.0 × (rest_of s ≡ joined_texts text found.0 ++ rest_of found.1)

  -- what was taken stands there
  few_stand : (most : ℕ) (states : List S) (s t : List ℕ × ℕ) (items : List A) → few_asked read next most states s ≡ Ok (items, t) → AllAsked Fits next states items × (rest_of s ≡ joined_texts text items ++ rest_of t)
  few_stand most [] s t items is = subst (Stands [] s) {x = ([], s)} {y = (items, t)} (Ok-injective ([], s) (items, t) is) (tt, refl)
  few_stand zero (state ∷ states) s t items is = absurd (Err-ne-Ok (End s.1) (items, t) is)
  few_stand (suc most) (state ∷ states) s t items is =
      let item = and_then-ok (read state s) (others most state states) (items, t) is in
      let rest = and_then-ok (few_asked read next most (next state item.0.0 ++ states) item.0.1) (λ items. Ok (item.0.0 ∷ items.0, items.1)) (items, t) item.2 in
      let first = (reader state).standing s item.0.1 item.0.0 item.1 in
      let behind_it = few_stand most (next state item.0.0 ++ states) item.0.1 rest.0.1 rest.0.0 rest.1 in
      subst (Stands (state ∷ states) s) {x = (item.0.0 ∷ rest.0.0, rest.0.1)} {y = (items, t)} (Ok-injective (item.0.0 ∷ rest.0.0, rest.0.1) (items, t) rest.2) (
        (first.0, behind_it.0),
        first.1 ∙ ap (λ xs. text item.0.0 ++ xs) behind_it.1 ∙ sym (append_assoc (text item.0.0) (joined_texts text rest.0.0) (rest_of rest.0.1)),
      )

  -- what stands there is taken
  few_taken : (most : ℕ) (states : List S) (items : List A) (rest : List ℕ) (s : List ℕ × ℕ) → length items ≤ most → AllAsked Fits next states items → rest_of s ≡ joined_texts text items ++ rest → Takes (few_asked read next most states s) items rest
  few_taken most [] [] rest s fewer fits is = record { after = s; is = refl; left = is }
  few_taken most [] (a ∷ items) rest s fewer fits is = absurd fits
  few_taken most (state ∷ states) [] rest s fewer fits is = absurd fits
  few_taken zero (state ∷ states) (a ∷ items) rest s fewer fits is = absurd (omega (arith, fewer))
  few_taken (suc most) (state ∷ states) (a ∷ items) rest s fewer fits is =
      let first = (reader state).taken a (joined_texts text items ++ rest) s fits.0 tt (is ∙ append_assoc (text a) (joined_texts text items) rest) in
      let more = few_taken most (next state a ++ states) items rest first.after (omega (arith, fewer)) fits.1 first.left in
      record {
        after = more.after;
        is = ap (λ r. and_then r (others most state states)) first.is ∙ ap (λ r. and_then r (λ (items : List A × (List ℕ × ℕ)). Ok (a ∷ items.0, items.1))) more.is;
        left = more.left;
      }

  -- a text that goes on is read as before; a longer text allows more items
  few_stay : (most most_later : ℕ) (states : List S) (more : List ℕ) (s : List ℕ × ℕ) → most ≤ most_later → Within s → Stays Still more s (few_asked read next most states s) (few_asked read next most_later states (grown more s))
  few_stay most most_later [] more s le within = (refl, within, λ none. none, λ some. refl)
  few_stay zero most_later (state ∷ states) more s le within = (λ none no_end. no_end, λ no_end still. absurd no_end)
  few_stay (suc most) zero (state ∷ states) more s le within = absurd (omega (arith, le))
  few_stay (suc most) (suc most_later) (state ∷ states) more s le within =
      stays-then Still more s (read state s) (read state (grown more s)) (others most state states) (others most_later state states) ((reader state).stays more s within)
      (λ item u is inside. stays-then Still more u (few_asked read next most (next state item ++ states) u) (few_asked read next most_later (next state item ++ states) (grown more u)) (λ items. Ok (item ∷ items.0, items.1)) (λ items. Ok (item ∷ items.0, items.1))
      (few_stay most most_later (next state item ++ states) more u (omega (arith, le)) inside)
      (λ items v found last. (refl, last, λ none. none, λ some. refl)))

  abbrev Language : List S → List ℕ → Type 0
  Language states = IsTextOf (joined_texts text) (AllAsked Loose next states)

  -- what stands before a fault can be continued
  few_mended : (most : ℕ) (states : List S) (s : List ℕ × ℕ) (fault : TextFault) → Within s → length (rest_of s) < most → few_asked read next most states s ≡ Err fault → IsMended (Language states) s fault
  few_mended most [] s fault within less is = absurd (Err-ne-Ok fault ([], s) (sym is))
  few_mended zero (state ∷ states) s fault within less is = absurd (omega (arith, less))
  few_mended (suc most) (state ∷ states) s fault within less is = elim (fault_of_two (read state s) (others most state states) fault is) [
    | inl none ↦ mended-map (IsTextOf text (Loose state)) (Language (state ∷ states)) s fault alone ((reader state).mended s fault within none)
    | inr h ↦
        let item = h.0.0 in
        let u = h.0.1 in
        let first = (reader state).standing s u item h.1 in
        let moves = reads-moves Still (read state) text (Fits state) (Loose state) Anything (reader state) s u item within h.1 in
        let shorter = bytes state item first.0 in
        let few_left : length (rest_of u) < most = omega (arith, less, shorter, ap (λ xs. length xs) first.1, length-append (text item) (rest_of u)) in
        mended-behind (Language (state ∷ states)) s fault (text item) u first.1 moves.0
        (mended-map (Language (next state item ++ states)) (behind (text item) (Language (state ∷ states))) u fault (one_more item ((reader state).loose item first.0))
        (few_mended most (next state item ++ states) u fault moves.1 few_left (of_others item u h.2)))
  ]
    where
      alone : (front : List ℕ) → Begins (IsTextOf text (Loose state)) front → Begins (Language (state ∷ states)) front
      alone front begins =
          let item = begins.1.0 in
          let rest = completed (next state item ++ states) in (
            begins.0 ++ joined_texts text rest.0,
            (item ∷ rest.0, (begins.1.1, rest.1), ap (λ xs. xs ++ joined_texts text rest.0) begins.1.2 ∙ append_assoc front begins.0 (joined_texts text rest.0)),
          )

      one_more : (item : A) → Loose state item → (front : List ℕ) → Begins (Language (next state item ++ states)) front → Begins (behind (text item) (Language (state ∷ states))) front
      one_more item fit front begins = (begins.0, (item ∷ begins.1.0, (fit, begins.1.1), ap (λ xs. text item ++ xs) begins.1.2))

      of_others : (item : A) (u : List ℕ × ℕ) → others most state states (item, u) ≡ Err fault → few_asked read next most (next state item ++ states) u ≡ Err fault
      of_others item u refused = elim (fault_of_two (few_asked read next most (next state item ++ states) u) (λ items. Ok (item ∷ items.0, items.1)) fault refused) [ inl none ↦ none | inr h ↦ absurd (Err-ne-Ok fault (item ∷ h.0.0, h.0.1) (sym h.2)) ]

  fewer_than_bytes : (states : List S) (items : List A) (rest : List ℕ) → AllAsked Fits next states items → length items ≤ length (joined_texts text items ++ rest)
  fewer_than_bytes [] [] rest all = omega arith
  fewer_than_bytes [] (a ∷ items) rest all = absurd all
  fewer_than_bytes (state ∷ states) [] rest all = absurd all
  fewer_than_bytes (state ∷ states) (a ∷ items) rest all =
      let later = fewer_than_bytes (next state a ++ states) items rest all.1 in
      let own = bytes state a all.0 in
      omega (arith, later, own, ap (λ xs. length xs) (append_assoc (text a) (joined_texts text items) rest), length-append (text a) (joined_texts text items ++ rest))

  -- items until nothing is asked for any more
  pub reads-asked : (states : List S) → Reads Still (each_asked read next states) (joined_texts text) (AllAsked Fits next states) (AllAsked Loose next states) Anything
  reads-asked states = record {
    example = completed states;
    loose = loosely states;
    standing = λ s t items is. few_stand (suc (length s.0)) states s t items is;
    taken = λ items rest s fits before is.
        few_taken (suc (length s.0)) states items rest s (let fewer = fewer_than_bytes states items rest fits in omega (arith, fewer, ap (λ xs. length xs) is, length-drop s.1 s.0)) fits is;
    stays = λ more s within. few_stay (suc (length s.0)) (suc (length (s.0 ++ more))) states more s (omega (arith, length-append s.0 more)) within;
    mended = λ s fault within is. few_mended (suc (length s.0)) states s fault within (omega (arith, length-drop s.1 s.0)) is;
  }
