-- Invariants of the loops that read runs, where what is read depends on a state: the items so far, in front of those that are read
-- from here on, are what is read in all.
use Rattle.std.proofs.Common.{◌≡◌, ◌∙◌, ℕ, zero, suc, ◌<◌, ◌≤◌, true, false, List, [], ◌∷◌, ◌++◌, length, length-drop, Result, Ok, Err, refl, sym, ap, append-nil, arith}
use Rattle.ev_text.specs.Readers.{Reader, each_from, exactly_from, few_from, many_from, optional_at}
use Rattle.ev_text.specs.Scans.{and_then, rest_of, word_at}
use Rattle.ev_text.specs.declared.TextFault.{TextFault}
use Rattle.ev_text.specs.declared.TextFault.TheVariants.{End}
use Rattle.ev_text.proofs.ChoiceLaws.{optional_left, optional_taken}
use Rattle.ev_text.proofs.Loops.{in_front, in_front-none, in_front-twice}
use Rattle.ev_text.proofs.Readings.{word_at-at_end}
use Rattle.ev_text.proofs.Results.{no_bytes}

module _ {A S : Type 0} (read : S → Reader A) (next : S → A → S) where
  -- so many items: those so far, and those that are left
  abbrev pub IsRunTo : Result (List A × (List ℕ × ℕ)) TextFault → List A → ℕ → S → List ℕ × ℕ → Type 0
  IsRunTo all items left state s = in_front items (many_from read next left state s) ≡ all

  pub run-begins : (count left : ℕ) (items : List A) (state : S) (s : List ℕ × ℕ) → left ≡ count → items ≡ [] → IsRunTo (many_from read next count state s) items left state s
  run-begins count left items state s same none =
      ap (λ xs. in_front xs (many_from read next left state s)) none ∙ in_front-none (many_from read next left state s) ∙ ap (λ n. many_from read next n state s) same

  pub run-goes_on : (all : Result (List A × (List ℕ × ℕ)) TextFault) (s t : List ℕ × ℕ) (left fewer : ℕ) (state : S) (items more : List A) (item : A)
      → left ≡ suc fewer → IsRunTo all items left state s → read state s ≡ Ok (item, t) → more ≡ items ++ item ∷ [] → IsRunTo all more fewer (next state item) t
  run-goes_on all s t left fewer state items more item one so_far found more_is =
      let rest = many_from read next fewer (next state item) t in
      ap (λ xs. in_front xs rest) more_is ∙ sym (in_front-twice items item rest)
      ∙ ap (λ r. in_front items r) (sym (ap (λ r. and_then r (λ first. in_front (first.0 ∷ []) (many_from read next fewer (next state first.0) first.1))) found))
      ∙ ap (λ n. in_front items (many_from read next n state s)) (sym one) ∙ so_far

  pub run-breaks : (all : Result (List A × (List ℕ × ℕ)) TextFault) (s : List ℕ × ℕ) (left fewer : ℕ) (state : S) (items : List A) (fault : TextFault)
      → left ≡ suc fewer → IsRunTo all items left state s → read state s ≡ Err fault → all ≡ Err fault
  run-breaks all s left fewer state items fault one so_far found =
      sym so_far ∙ ap (λ n. in_front items (many_from read next n state s)) one
      ∙ ap (λ r. in_front items (and_then r (λ first. in_front (first.0 ∷ []) (many_from read next fewer (next state first.0) first.1)))) found

  pub run-ends : (all : Result (List A × (List ℕ × ℕ)) TextFault) (s : List ℕ × ℕ) (left : ℕ) (state : S) (items : List A) → left ≡ 0 → IsRunTo all items left state s → all ≡ Ok (items, s)
  run-ends all s left state items none so_far =
      sym so_far ∙ ap (λ n. in_front items (many_from read next n state s)) none ∙ ap (λ (xs : List A). Ok (xs, s)) (append-nil items)

module _ {A S : Type 0} (mark end : List ℕ) (read : S → Reader A) (next : S → A → S) where
  -- so many items, each behind a mark, and the word that ends them
  abbrev pub IsRowTo : Result (List A × (List ℕ × ℕ)) TextFault → List A → ℕ → S → List ℕ × ℕ → Type 0
  IsRowTo all items left state s = in_front items (exactly_from mark end read next left state s) ≡ all

  abbrev row_behind : ℕ → S → A × (List ℕ × ℕ) → Result (List A × (List ℕ × ℕ)) TextFault
  row_behind fewer state first = in_front (first.0 ∷ []) (exactly_from mark end read next fewer (next state first.0) first.1)

  pub row-goes_on : (all : Result (List A × (List ℕ × ℕ)) TextFault) (s t u : List ℕ × ℕ) (left fewer : ℕ) (state : S) (items more : List A) (item : A)
      → left ≡ suc fewer → IsRowTo all items left state s → word_at mark s ≡ Ok t → read state t ≡ Ok (item, u) → more ≡ items ++ item ∷ [] → IsRowTo all more fewer (next state item) u
  row-goes_on all s t u left fewer state items more item one so_far word found more_is =
      let rest = exactly_from mark end read next fewer (next state item) u in
      ap (λ xs. in_front xs rest) more_is ∙ sym (in_front-twice items item rest)
      ∙ ap (λ r. in_front items r) (sym (ap (λ r. and_then r (λ v. and_then (read state v) (row_behind fewer state))) word ∙ ap (λ r. and_then r (row_behind fewer state)) found))
      ∙ ap (λ n. in_front items (exactly_from mark end read next n state s)) (sym one) ∙ so_far

  pub row-no_mark : (all : Result (List A × (List ℕ × ℕ)) TextFault) (s : List ℕ × ℕ) (left fewer : ℕ) (state : S) (items : List A) (fault : TextFault)
      → left ≡ suc fewer → IsRowTo all items left state s → word_at mark s ≡ Err fault → all ≡ Err fault
  row-no_mark all s left fewer state items fault one so_far word =
      sym so_far ∙ ap (λ n. in_front items (exactly_from mark end read next n state s)) one
      ∙ ap (λ r. in_front items (and_then r (λ v. and_then (read state v) (row_behind fewer state)))) word

  pub row-breaks : (all : Result (List A × (List ℕ × ℕ)) TextFault) (s t : List ℕ × ℕ) (left fewer : ℕ) (state : S) (items : List A) (fault : TextFault)
      → left ≡ suc fewer → IsRowTo all items left state s → word_at mark s ≡ Ok t → read state t ≡ Err fault → all ≡ Err fault
  row-breaks all s t left fewer state items fault one so_far word found =
      sym so_far ∙ ap (λ n. in_front items (exactly_from mark end read next n state s)) one
      ∙ ap (λ r. in_front items (and_then r (λ v. and_then (read state v) (row_behind fewer state)))) word
      ∙ ap (λ r. in_front items (and_then r (row_behind fewer state))) found

  row_end : (all : Result (List A × (List ℕ × ℕ)) TextFault) (s : List ℕ × ℕ) (left : ℕ) (state : S) (items : List A) → left ≡ 0 → IsRowTo all items left state s → all ≡ and_then (word_at end s) (λ t. Ok (items, t))
  row_end all s left state items none so_far =
      sym so_far ∙ ap (λ n. in_front items (exactly_from mark end read next n state s)) none ∙ by (word_at end s)
    where
      by : (r : Result (List ℕ × ℕ) TextFault) → in_front items (and_then r (λ t. Ok ([], t))) ≡ and_then r (λ t. Ok (items, t))
      by (Ok t) = ap (λ (xs : List A). Ok (xs, t)) (append-nil items)
      by (Err fault) = refl

  pub row-ends : (all : Result (List A × (List ℕ × ℕ)) TextFault) (s t : List ℕ × ℕ) (left : ℕ) (state : S) (items : List A) → left ≡ 0 → IsRowTo all items left state s → word_at end s ≡ Ok t → all ≡ Ok (items, t)
  row-ends all s t left state items none so_far word = row_end all s left state items none so_far ∙ ap (λ r. and_then r (λ v. Ok (items, v))) word

  pub row-no_end : (all : Result (List A × (List ℕ × ℕ)) TextFault) (s : List ℕ × ℕ) (left : ℕ) (state : S) (items : List A) (fault : TextFault) → left ≡ 0 → IsRowTo all items left state s → word_at end s ≡ Err fault → all ≡ Err fault
  row-no_end all s left state items fault none so_far word = row_end all s left state items none so_far ∙ ap (λ r. and_then r (λ v. Ok (items, v))) word

-- each item behind a mark, up to the word that ends them
module _ {A S : Type 0} (b e : ℕ) (es : List ℕ) (read : S → Reader A) (next : S → A → S)
    (shorter : (state : S) (t u : List ℕ × ℕ) (item : A) → read state t ≡ Ok (item, u) → length (rest_of u) ≤ length (rest_of t)) where
  abbrev pub IsEachTo : Result (List A × (List ℕ × ℕ)) TextFault → List A → S → List ℕ × ℕ → Type 0
  IsEachTo all items state s = (most : ℕ) × (length (rest_of s) ≤ most) × (in_front items (few_from (b ∷ []) (e ∷ es) read next most state s) ≡ all)

  pub each_from-begins : (all : Result (List A × (List ℕ × ℕ)) TextFault) (items : List A) (state : S) (s : List ℕ × ℕ) → in_front items (each_from (b ∷ []) (e ∷ es) read next state s) ≡ all → IsEachTo all items state s
  each_from-begins all items state s is = (length s.0, omega (arith, length-drop s.1 s.0), is)

  -- a mark and an item leave less of the text
  pub each_from-shorter : (state : S) (s t u : List ℕ × ℕ) (item : A) → optional_at (b ∷ []) s ≡ Ok (true, t) → read state t ≡ Ok (item, u) → length (rest_of u) < length (rest_of s)
  each_from-shorter state s t u item mark found =
      let first : length (rest_of s) ≡ suc (length (rest_of t)) = ap (λ xs. length xs) (optional_taken (b ∷ []) s t mark).0 in
      let second = shorter state t u item found in
      omega arith

  behind : (most : ℕ) (state : S) (s t : List ℕ × ℕ) → length (rest_of s) ≤ most → optional_at (b ∷ []) s ≡ Ok (true, t)
      → (fewer : ℕ) × (most ≡ suc fewer) × (few_from (b ∷ []) (e ∷ es) read next most state s ≡ and_then (read state t) (λ item. in_front (item.0 ∷ []) (few_from (b ∷ []) (e ∷ es) read next fewer (next state item.0) item.1)))
  behind zero state s t le mark = absurd (omega (arith, le, ap (λ xs. length xs) (optional_taken (b ∷ []) s t mark).0))
  behind (suc most) state s t le mark = (most, refl, rw mark refl)

  pub each_from-goes_on : (all : Result (List A × (List ℕ × ℕ)) TextFault) (state : S) (s t u : List ℕ × ℕ) (items more : List A) (item : A)
      → IsEachTo all items state s → optional_at (b ∷ []) s ≡ Ok (true, t) → read state t ≡ Ok (item, u) → more ≡ items ++ item ∷ [] → IsEachTo all more (next state item) u
  each_from-goes_on all state s t u items more item (most, le, is) mark found more_is =
      let after = behind most state s t le mark in
      let fewer = after.0 in
      let rest = few_from (b ∷ []) (e ∷ es) read next fewer (next state item) u in
      let step : few_from (b ∷ []) (e ∷ es) read next most state s ≡ in_front (item ∷ []) rest =
      after.2 ∙ ap (λ r. and_then r (λ item. in_front (item.0 ∷ []) (few_from (b ∷ []) (e ∷ es) read next fewer (next state item.0) item.1))) found in (
        fewer,
        omega (arith, le, after.1, each_from-shorter state s t u item mark found),
        ap (λ xs. in_front xs rest) more_is ∙ sym (in_front-twice items item rest) ∙ ap (λ r. in_front items r) (sym step) ∙ is,
      )

  pub each_from-breaks : (all : Result (List A × (List ℕ × ℕ)) TextFault) (state : S) (s t : List ℕ × ℕ) (items : List A) (fault : TextFault)
      → IsEachTo all items state s → optional_at (b ∷ []) s ≡ Ok (true, t) → read state t ≡ Err fault → all ≡ Err fault
  each_from-breaks all state s t items fault (most, le, is) mark found =
      let after = behind most state s t le mark in
      sym is ∙ ap (λ r. in_front items r) (after.2 ∙ ap (λ r. and_then r (λ item. in_front (item.0 ∷ []) (few_from (b ∷ []) (e ∷ es) read next after.0 (next state item.0) item.1))) found)

  last : (most : ℕ) (state : S) (s t : List ℕ × ℕ) → length (rest_of s) ≤ most → optional_at (b ∷ []) s ≡ Ok (false, t) → few_from (b ∷ []) (e ∷ es) read next most state s ≡ and_then (word_at (e ∷ es) t) (λ u. Ok ([], u))
  last zero state s t le none =
      let same : t ≡ s = optional_left (b ∷ []) s t none in
      let fault : word_at (e ∷ es) s ≡ Err (End s.1) = word_at-at_end e es s (no_bytes (rest_of s) (omega (arith, le))) in
      rw (same, fault) refl
  last (suc most) state s t le none = rw none refl

  line_end : (all : Result (List A × (List ℕ × ℕ)) TextFault) (state : S) (s t : List ℕ × ℕ) (items : List A) → IsEachTo all items state s → optional_at (b ∷ []) s ≡ Ok (false, t) → all ≡ and_then (word_at (e ∷ es) t) (λ u. Ok (items, u))
  line_end all state s t items (most, le, is) none = sym is ∙ ap (λ r. in_front items r) (last most state s t le none) ∙ by (word_at (e ∷ es) t)
    where
      by : (r : Result (List ℕ × ℕ) TextFault) → in_front items (and_then r (λ u. Ok ([], u))) ≡ and_then r (λ u. Ok (items, u))
      by (Ok u) = ap (λ (xs : List A). Ok (xs, u)) (append-nil items)
      by (Err fault) = refl

  pub each_from-ends : (all : Result (List A × (List ℕ × ℕ)) TextFault) (state : S) (s t u : List ℕ × ℕ) (items : List A) → IsEachTo all items state s → optional_at (b ∷ []) s ≡ Ok (false, t) → word_at (e ∷ es) t ≡ Ok u → all ≡ Ok (items, u)
  each_from-ends all state s t u items so_far none found = line_end all state s t items so_far none ∙ ap (λ r. and_then r (λ v. Ok (items, v))) found

  pub each_from-breaks_off : (all : Result (List A × (List ℕ × ℕ)) TextFault) (state : S) (s t : List ℕ × ℕ) (items : List A) (fault : TextFault) → IsEachTo all items state s → optional_at (b ∷ []) s ≡ Ok (false, t) → word_at (e ∷ es) t ≡ Err fault → all ≡ Err fault
  each_from-breaks_off all state s t items fault so_far none found = line_end all state s t items so_far none ∙ ap (λ r. and_then r (λ v. Ok (items, v))) found
