-- What a reader of items owes, each behind a mark, up to a word that ends them.
use Rattle.std.proofs.Common.{◌≡◌, ◌≢◌, ◌∙◌, inl, inr, ℕ, zero, suc, ◌<◌, ◌≤◌, Bool, true, false, List, [], ◌∷◌, ◌++◌, length, length-append, length-drop, Result, Ok, Err, refl, sym, ap, subst, append_assoc, append-nil, arith, if◌then◌else◌}
use Rattle.std.specs.List.{All}
use Rattle.std.proofs.lemmas.List.Elements.{All-cons, All-head, All-nil, All-tail}
use Rattle.ev_text.specs.Readers.{Reader, each_behind, few_behind, optional_at}
use Rattle.ev_text.specs.Scans.{and_then, past, rest_of, word_at}
use Rattle.ev_text.specs.Texts.{Begins, IsTextOf, fault_place, marked_texts}
use Rattle.ev_text.specs.declared.TextFault.{TextFault}
use Rattle.ev_text.specs.declared.TextFault.TheVariants.{End}
use Rattle.ev_text.proofs.ChoiceLaws.{keeps-optional, optional_is_left, optional_left, optional_never_fails, optional_stands, optional_taken}
use Rattle.ev_text.proofs.Grown.{Always, Keeps, Within, grown, keeps-ok, stays-then, stays-word, past_within}
use Rattle.ev_text.proofs.Mended.{IsMended, behind, mended-behind, mended-here, mended-map, mended-word}
use Rattle.ev_text.proofs.ReaderLaws.{IsReader, reader-moves}
use Rattle.ev_text.proofs.Readings.{TakesWord-from_word_at, word_read}
use Rattle.ev_text.proofs.Results.{Err-ne-Ok, Ok-injective, and_then-ok, fault_of_two, no_bytes}
use Rattle.ev_text.proofs.ReadingLaws.{Takes}

-- items, each behind a byte, and the word that ends them
abbrev pub ended_text : {A : Type 0} → ℕ → ℕ → List ℕ → (A → List ℕ) → List A → List ℕ
ended_text b e es text items = marked_texts (b ∷ []) text items ++ (e ∷ es)

module _ {A : Type 0} (b e : ℕ) (es : List ℕ) (read : Reader A) (text : A → List ℕ) (Fits : A → Type 0) (Before : A → List ℕ → Type 0) (reader : IsReader read text Fits Before)
    (other : e ≢ b) (before_mark : (value : A) (rest : List ℕ) → Fits value → Before value (b ∷ rest)) (before_end : (value : A) (rest : List ℕ) → Fits value → Before value (e ∷ rest)) where
  ended_text-cons : (item : A) (items : List A) (rest : List ℕ) → (ended_text b e es text) (item ∷ items) ++ rest ≡ (b ∷ []) ++ (text item ++ ((ended_text b e es text) items ++ rest))
  ended_text-cons item items rest =
      ap (λ xs. xs ++ rest) (ap (λ xs. (b ∷ []) ++ xs) (append_assoc (text item) (marked_texts (b ∷ []) text items) (e ∷ es)))
      ∙ ap (λ xs. (b ∷ []) ++ xs) (append_assoc (text item) ((ended_text b e es text) items) rest)

  abbrev others : ℕ → A × (List ℕ × ℕ) → Result (List A × (List ℕ × ℕ)) TextFault
  others most item = and_then (few_behind (b ∷ []) (e ∷ es) read most item.1) (λ items. Ok (item.0 ∷ items.0, items.1))

  abbrev by_mark : ℕ → Bool × (List ℕ × ℕ) → Result (List A × (List ℕ × ℕ)) TextFault
  by_mark most marked = if marked.0 then and_then (read marked.1) (others most) else and_then (word_at (e ∷ es) marked.1) (λ t. Ok ([], t))

  abbrev Stands : List ℕ × ℕ → List A × (List ℕ × ℕ) → Type 0
  Stands s found = All Fits found.0 × (rest_of s ≡ (ended_text b e es text) found.0 ++ rest_of found.1)

  -- what was taken stands there
  few_stand : (most : ℕ) (s t : List ℕ × ℕ) (items : List A) → few_behind (b ∷ []) (e ∷ es) read most s ≡ Ok (items, t) → All Fits items × (rest_of s ≡ (ended_text b e es text) items ++ rest_of t)
  few_stand zero s t items is = absurd (Err-ne-Ok (End s.1) (items, t) is)
  few_stand (suc most) s t items is =
      let marked = and_then-ok (optional_at (b ∷ []) s) (by_mark most) (items, t) is in
      by marked.0 marked.1 marked.2 (few_stand most)
    where
      by : (marked : Bool × (List ℕ × ℕ)) → optional_at (b ∷ []) s ≡ Ok marked → by_mark most marked ≡ Ok (items, t)
          → ((u v : List ℕ × ℕ) (later : List A) → few_behind (b ∷ []) (e ∷ es) read most u ≡ Ok (later, v) → All Fits later × (rest_of u ≡ (ended_text b e es text) later ++ rest_of v)) → All Fits items × (rest_of s ≡ (ended_text b e es text) items ++ rest_of t)
      by (true, u) mark found later =
          let item = and_then-ok (read u) (others most) (items, t) found in
          let rest = and_then-ok (few_behind (b ∷ []) (e ∷ es) read most item.0.1) (λ items. Ok (item.0.0 ∷ items.0, items.1)) (items, t) item.2 in
          let first = reader.standing u item.0.1 item.0.0 item.1 in
          let behind_it = later item.0.1 rest.0.1 rest.0.0 rest.1 in
          subst (Stands s) {x = (item.0.0 ∷ rest.0.0, rest.0.1)} {y = (items, t)} (Ok-injective (item.0.0 ∷ rest.0.0, rest.0.1) (items, t) rest.2) (
            All-cons Fits item.0.0 rest.0.0 first.0 behind_it.0,
            (optional_taken (b ∷ []) s u mark).0 ∙ ap (λ xs. (b ∷ []) ++ xs) (first.1 ∙ ap (λ xs. text item.0.0 ++ xs) behind_it.1) ∙ sym (ended_text-cons item.0.0 rest.0.0 (rest_of rest.0.1)),
          )
      by (false, u) mark found later =
          let word = and_then-ok (word_at (e ∷ es) u) (λ v. Ok ([], v)) (items, t) found in
          subst (Stands s) {x = ([], word.0)} {y = (items, t)} (Ok-injective ([], word.0) (items, t) word.2) (
            All-nil Fits,
            ap rest_of (sym (optional_left (b ∷ []) s u mark)) ∙ (TakesWord-from_word_at (e ∷ es) u word.0 word.1).standing,
          )

  -- what stands there is taken
  few_taken : (most : ℕ) (items : List A) (rest : List ℕ) (s : List ℕ × ℕ) → length items < most → All Fits items → rest_of s ≡ (ended_text b e es text) items ++ rest → Takes (few_behind (b ∷ []) (e ∷ es) read most s) items rest
  few_taken zero items rest s fewer fits is = absurd (omega (arith, fewer))
  few_taken (suc most) [] rest s fewer fits is =
      let word = word_read (e ∷ es) rest s is in
      record { after = past (e ∷ es) s; is = rw (optional_is_left b [] (e ∷ (es ++ rest)) s is other, word.0) refl; left = word.1 }
  few_taken (suc most) (item ∷ items) rest s fewer fits is =
      let behind_mark = text item ++ ((ended_text b e es text) items ++ rest) in
      let marked : rest_of s ≡ (b ∷ []) ++ behind_mark = is ∙ ended_text-cons item items rest in
      let fit = All-head Fits item items fits in
      let first = reader.taken item ((ended_text b e es text) items ++ rest) (past (b ∷ []) s) fit (before items) (word_read (b ∷ []) behind_mark s marked).1 in
      let more = few_taken most items rest first.after (omega (arith, fewer)) (All-tail Fits item items fits) first.left in
      record {
        after = more.after;
        is = ap (λ r. and_then r (by_mark most)) (optional_stands (b ∷ []) behind_mark s marked) ∙ ap (λ r. and_then r (others most)) first.is ∙ ap (λ r. and_then r (λ (items : List A × (List ℕ × ℕ)). Ok (item ∷ items.0, items.1))) more.is;
        left = more.left;
      }
    where
      before : (items : List A) → Before item ((ended_text b e es text) items ++ rest)
      before [] = before_end item (es ++ rest) (All-head Fits item items fits)
      before (next ∷ later) = before_mark item ((text next ++ marked_texts (b ∷ []) text later) ++ (e ∷ es) ++ rest) (All-head Fits item items fits)

  -- a text that goes on is read as before; a longer text allows more items
  few_keep : (most most_later : ℕ) (more : List ℕ) (s : List ℕ × ℕ) → most ≤ most_later → Within s → Keeps more s (few_behind (b ∷ []) (e ∷ es) read most s) (few_behind (b ∷ []) (e ∷ es) read most_later (grown more s))
  few_keep zero most_later more s le within = (λ none no_end. no_end, λ no_end always. absurd no_end)
  few_keep (suc most) zero more s le within = absurd (omega (arith, le))
  few_keep (suc most) (suc most_later) more s le within =
      stays-then Always more s (optional_at (b ∷ []) s) (optional_at (b ∷ []) (grown more s)) (by_mark most) (by_mark most_later) (keeps-optional b more s within) (λ marked t is inside. by marked t inside (λ u still. few_keep most most_later more u (omega (arith, le)) still))
    where
      by : (marked : Bool) (t : List ℕ × ℕ) → Within t → ((u : List ℕ × ℕ) → Within u → Keeps more u (few_behind (b ∷ []) (e ∷ es) read most u) (few_behind (b ∷ []) (e ∷ es) read most_later (grown more u)))
          → Keeps more t (by_mark most (marked, t)) (by_mark most_later (marked, grown more t))
      by true t inside later =
          stays-then Always more t (read t) (read (grown more t)) (others most) (others most_later) (reader.stays more t inside)
          (λ item u is still. stays-then Always more u (few_behind (b ∷ []) (e ∷ es) read most u) (few_behind (b ∷ []) (e ∷ es) read most_later (grown more u)) (λ items. Ok (item ∷ items.0, items.1)) (λ items. Ok (item ∷ items.0, items.1)) (later u still)
          (λ items v is last. keeps-ok more v (item ∷ items) last))
      by false t inside later = stays-word Always e es more t (λ u. Ok ([], u)) (λ u. Ok ([], u)) inside (λ u still. keeps-ok more u [] still)

  -- what stands before a fault can be continued
  few_mended : (most : ℕ) (s : List ℕ × ℕ) (fault : TextFault) → Within s → length (rest_of s) ≤ most → few_behind (b ∷ []) (e ∷ es) read most s ≡ Err fault → IsMended (IsTextOf (ended_text b e es text) (All Fits)) s fault
  few_mended zero s fault within le is =
      let same : End s.1 ≡ fault = cc in
      mended-here (IsTextOf (ended_text b e es text) (All Fits)) s fault (e ∷ es) ([], All-nil Fits, refl) (ap fault_place (sym same))
      (λ end. (e ∷ es, ([], All-nil Fits, ap (λ xs. xs ++ (e ∷ es)) (sym (no_bytes (rest_of s) (omega (arith, le)))))))
  few_mended (suc most) s fault within le is =
      elim (fault_of_two (optional_at (b ∷ []) s) (by_mark most) fault is) [
        | inl none ↦ absurd (optional_never_fails (b ∷ []) s fault none)
        | inr h ↦ by h.0.0 h.0.1 h.1 h.2 (λ u inside fewer. few_mended most u fault inside fewer)
      ]
    where
      one_more : (item : A) → Fits item → (front : List ℕ) → Begins (IsTextOf (ended_text b e es text) (All Fits)) front → Begins (behind (text item) (behind (b ∷ []) (IsTextOf (ended_text b e es text) (All Fits)))) front
      one_more item fit front begins = (
        begins.0,
        (
          item ∷ begins.1.0,
          All-cons Fits item begins.1.0 fit begins.1.1,
          sym (append-nil ((ended_text b e es text) (item ∷ begins.1.0))) ∙ ended_text-cons item begins.1.0 [] ∙ ap (λ xs. (b ∷ []) ++ (text item ++ xs)) (append-nil ((ended_text b e es text) begins.1.0) ∙ begins.1.2),
        ),
      )

      alone : (front : List ℕ) → Begins (IsTextOf text Fits) front → Begins (behind (b ∷ []) (IsTextOf (ended_text b e es text) (All Fits))) front
      alone front begins =
          let item = begins.1.0 in (
            begins.0 ++ (e ∷ es),
            (
              item ∷ [],
              All-cons Fits item [] begins.1.1 (All-nil Fits),
              ap (λ xs. (b ∷ []) ++ xs) (ap (λ xs. xs ++ (e ∷ es)) (append-nil (text item) ∙ begins.1.2) ∙ append_assoc front begins.0 (e ∷ es)),
            ),
          )

      by : (marked : Bool) (t : List ℕ × ℕ) → optional_at (b ∷ []) s ≡ Ok (marked, t) → by_mark most (marked, t) ≡ Err fault
          → ((u : List ℕ × ℕ) → Within u → length (rest_of u) ≤ most → few_behind (b ∷ []) (e ∷ es) read most u ≡ Err fault → IsMended (IsTextOf (ended_text b e es text) (All Fits)) u fault)
          → IsMended (IsTextOf (ended_text b e es text) (All Fits)) s fault
      by false t mark found later =
          let here : t ≡ s = optional_left (b ∷ []) s t mark in
          elim (fault_of_two (word_at (e ∷ es) t) (λ u. Ok ([], u)) fault found) [
            | inl none ↦ mended-word (IsTextOf (ended_text b e es text) (All Fits)) s fault (e ∷ es) [] (ap (λ u. word_at (e ∷ es) u) (sym here) ∙ none) ([], All-nil Fits, sym (append-nil (e ∷ es)))
            | inr h ↦ absurd (Err-ne-Ok fault ([], h.0) (sym h.2))
          ]
      by true t mark found later =
          let takes = optional_taken (b ∷ []) s t mark in
          let inside : Within t = subst Within (sym takes.1) (past_within (b ∷ []) (rest_of t) s within takes.0) in
          let shorter : length (rest_of s) ≡ suc (length (rest_of t)) = ap (λ xs. length xs) takes.0 in
          mended-behind (IsTextOf (ended_text b e es text) (All Fits)) s fault (b ∷ []) t takes.0 (ap (λ (u : List ℕ × ℕ). u.1) takes.1)
          (elim (fault_of_two (read t) (others most) fault found) [
            | inl none ↦ mended-map (IsTextOf text Fits) (behind (b ∷ []) (IsTextOf (ended_text b e es text) (All Fits))) t fault alone (reader.mended t fault inside none)
            | inr h ↦
                let item = h.0.0 in
                let u = h.0.1 in
                let first = reader.standing t u item h.1 in
                let moves = reader-moves read text Fits Before reader t u item inside h.1 in
                let few : length (rest_of u) ≤ most = omega (arith, le, shorter, ap (λ xs. length xs) first.1, length-append (text item) (rest_of u)) in
                mended-behind (behind (b ∷ []) (IsTextOf (ended_text b e es text) (All Fits))) t fault (text item) u first.1 moves.0
                (mended-map (IsTextOf (ended_text b e es text) (All Fits)) (behind (text item) (behind (b ∷ []) (IsTextOf (ended_text b e es text) (All Fits)))) u fault (one_more item first.0)
                (later u moves.1 few (of_others item u h.2)))
          ])
        where
          of_others : (item : A) (u : List ℕ × ℕ) → others most (item, u) ≡ Err fault → few_behind (b ∷ []) (e ∷ es) read most u ≡ Err fault
          of_others item u refused = elim (fault_of_two (few_behind (b ∷ []) (e ∷ es) read most u) (λ items. Ok (item ∷ items.0, items.1)) fault refused) [ inl none ↦ none | inr h ↦ absurd (Err-ne-Ok fault (item ∷ h.0.0, h.0.1) (sym h.2)) ]

  fewer_than_bytes : (items : List A) (rest : List ℕ) → length items < length ((ended_text b e es text) items ++ rest)
  fewer_than_bytes [] rest = omega arith
  fewer_than_bytes (item ∷ items) rest =
      omega (arith, fewer_than_bytes items rest, ap (λ xs. length xs) (ended_text-cons item items rest), length-append (text item) ((ended_text b e es text) items ++ rest))

  -- items, each behind a byte, up to a word that ends them
  pub reader-each : IsReader (each_behind (b ∷ []) (e ∷ es) read) (ended_text b e es text) (All Fits) (λ items rest. Unit {0})
  reader-each = record {
    example = ([], All-nil Fits);
    loose = λ items fit. fit;
    standing = λ s t items is. few_stand (length s.0) s t items is;
    taken = λ items rest s fits before is.
        few_taken (length s.0) items rest s (omega (arith, fewer_than_bytes items rest, ap (λ xs. length xs) is, length-drop s.1 s.0)) fits is;
    stays = λ more s within. few_keep (length s.0) (length (s.0 ++ more)) more s (omega (arith, length-append s.0 more)) within;
    mended = λ s fault within is. few_mended (length s.0) s fault within (omega (arith, length-drop s.1 s.0)) is;
  }
