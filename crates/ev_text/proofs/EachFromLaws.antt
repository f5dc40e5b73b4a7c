-- What a reader of items owes, each behind a mark, up to a word that ends them, where the rule for each depends on a state.
use Rattle.std.proofs.Common.{◌≡◌, ◌≢◌, ◌∙◌, inl, inr, ℕ, zero, suc, ◌<◌, ◌≤◌, Bool, true, false, List, [], ◌∷◌, ◌++◌, length, length-append, length-drop, Result, Ok, Err, refl, sym, ap, subst, append_assoc, append-nil, arith, if◌then◌else◌}
use Rattle.std.specs.List.{All}
use Rattle.std.proofs.lemmas.List.Elements.{All-cons, All-nil}
use Rattle.ev_text.specs.Readers.{Reader, each_from, few_from, optional_at}
use Rattle.ev_text.specs.Scans.{and_then, past, rest_of, word_at}
use Rattle.ev_text.specs.Texts.{AllFrom, Begins, IsTextOf, fault_place, marked_texts}
use Rattle.ev_text.specs.declared.TextFault.{TextFault}
use Rattle.ev_text.specs.declared.TextFault.TheVariants.{End}
use Rattle.ev_text.proofs.ChoiceLaws.{keeps-optional, optional_is_left, optional_left, optional_never_fails, optional_stands, optional_taken}
use Rattle.ev_text.proofs.Grown.{Stays, Within, grown, past_within, stays-of_keeps, stays-then, stays-word}
use Rattle.ev_text.proofs.MarkedLaws.{ended_text}
use Rattle.ev_text.proofs.Mended.{IsMended, behind, mended-behind, mended-here, mended-map, mended-word}
use Rattle.ev_text.proofs.ReadingLaws.{Reads, Takes, reads-moves}
use Rattle.ev_text.proofs.Readings.{TakesWord-from_word_at, word_read}
use Rattle.ev_text.proofs.Results.{Err-ne-Ok, Ok-injective, and_then-ok, fault_of_two, no_bytes}

module _ {A S : Type 0} (Still : TextFault → List ℕ → List ℕ → Type 0) (b e : ℕ) (es : List ℕ) (read : S → Reader A) (next : S → A → S) (text : A → List ℕ) (Fits : S → A → Type 0) (Loose : A → Type 0) (Before : A → List ℕ → Type 0)
    (reader : (state : S) → Reads Still (read state) text (Fits state) Loose Before) (other : e ≢ b) (before_mark : (value : A) (rest : List ℕ) → Before value (b ∷ rest)) (before_end : (value : A) (rest : List ℕ) → Before value (e ∷ rest)) where
  cons : (item : A) (items : List A) (rest : List ℕ) → ended_text b e es text (item ∷ items) ++ rest ≡ (b ∷ []) ++ (text item ++ (ended_text b e es text items ++ rest))
  cons item items rest =
      ap (λ xs. xs ++ rest) (ap (λ xs. (b ∷ []) ++ xs) (append_assoc (text item) (marked_texts (b ∷ []) text items) (e ∷ es)))
      ∙ ap (λ xs. (b ∷ []) ++ xs) (append_assoc (text item) (ended_text b e es text items) rest)

  loosely : (state : S) (items : List A) → AllFrom Fits next state items → All Loose items
  loosely state [] all = All-nil Loose
  loosely state (item ∷ items) all = All-cons Loose item items ((reader state).loose item all.0) (loosely (next state item) items all.1)

  abbrev others : ℕ → S → A × (List ℕ × ℕ) → Result (List A × (List ℕ × ℕ)) TextFault
  others most state item = and_then (few_from (b ∷ []) (e ∷ es) read next most (next state item.0) item.1) (λ items. Ok (item.0 ∷ items.0, items.1))

  abbrev by_mark : ℕ → S → Bool × (List ℕ × ℕ) → Result (List A × (List ℕ × ℕ)) TextFault
  by_mark most state marked = if marked.0 then and_then (read state marked.1) (others most state) else and_then (word_at (e ∷ es) marked.1) (λ t. Ok ([], t))

  abbrev Stands : S → List ℕ × ℕ → List A × (List ℕ × ℕ) → Type 0
  Stands state s found = AllFrom Fits next state found.0 × (rest_of s ≡ ended_text b e es text found.0 ++ rest_of found.1)

  -- what was taken stands there
  few_stand : (most : ℕ) (state : S) (s t : List ℕ × ℕ) (items : List A) → few_from (b ∷ []) (e ∷ es) read next most state s ≡ Ok (items, t) → AllFrom Fits next state items × (rest_of s ≡ ended_text b e es text items ++ rest_of t)
  few_stand zero state s t items is = absurd (Err-ne-Ok (End s.1) (items, t) is)
  few_stand (suc most) state s t items is =
      let marked = and_then-ok (optional_at (b ∷ []) s) (by_mark most state) (items, t) is in
      by marked.0 marked.1 marked.2 (few_stand most)
    where
      by : (marked : Bool × (List ℕ × ℕ)) → optional_at (b ∷ []) s ≡ Ok marked → by_mark most state marked ≡ Ok (items, t)
          → ((later_state : S) (u v : List ℕ × ℕ) (later : List A) → few_from (b ∷ []) (e ∷ es) read next most later_state u ≡ Ok (later, v) → AllFrom Fits next later_state later × (rest_of u ≡ ended_text b e es text later ++ rest_of v))
          → AllFrom Fits next state items × (rest_of s ≡ ended_text b e es text items ++ rest_of t)
      by (true, u) mark found later =
          let item = and_then-ok (read state u) (others most state) (items, t) found in
          let rest = and_then-ok (few_from (b ∷ []) (e ∷ es) read next most (next state item.0.0) item.0.1) (λ items. Ok (item.0.0 ∷ items.0, items.1)) (items, t) item.2 in
          let first = (reader state).standing u item.0.1 item.0.0 item.1 in
          let behind_it = later (next state item.0.0) item.0.1 rest.0.1 rest.0.0 rest.1 in
          subst (Stands state s) {x = (item.0.0 ∷ rest.0.0, rest.0.1)} {y = (items, t)} (Ok-injective (item.0.0 ∷ rest.0.0, rest.0.1) (items, t) rest.2) (
            (first.0, behind_it.0),
            (optional_taken (b ∷ []) s u mark).0 ∙ ap (λ xs. (b ∷ []) ++ xs) (first.1 ∙ ap (λ xs. text item.0.0 ++ xs) behind_it.1) ∙ sym (cons item.0.0 rest.0.0 (rest_of rest.0.1)),
          )
      by (false, u) mark found later =
          let word = and_then-ok (word_at (e ∷ es) u) (λ v. Ok ([], v)) (items, t) found in
          subst (Stands state s) {x = ([], word.0)} {y = (items, t)} (Ok-injective ([], word.0) (items, t) word.2) (
            tt,
            ap rest_of (sym (optional_left (b ∷ []) s u mark)) ∙ (TakesWord-from_word_at (e ∷ es) u word.0 word.1).standing,
          )

  -- what stands there is taken
  few_taken : (most : ℕ) (state : S) (items : List A) (rest : List ℕ) (s : List ℕ × ℕ) → length items < most → AllFrom Fits next state items → rest_of s ≡ ended_text b e es text items ++ rest → Takes (few_from (b ∷ []) (e ∷ es) read next most state s) items rest
  few_taken zero state items rest s fewer fits is = absurd (omega (arith, fewer))
  few_taken (suc most) state [] rest s fewer fits is =
      let word = word_read (e ∷ es) rest s is in
      record { after = past (e ∷ es) s; is = rw (optional_is_left b [] (e ∷ (es ++ rest)) s is other, word.0) refl; left = word.1 }
  few_taken (suc most) state (item ∷ items) rest s fewer fits is =
      let behind_mark = text item ++ (ended_text b e es text items ++ rest) in
      let marked : rest_of s ≡ (b ∷ []) ++ behind_mark = is ∙ cons item items rest in
      let first = (reader state).taken item (ended_text b e es text items ++ rest) (past (b ∷ []) s) fits.0 (before items) (word_read (b ∷ []) behind_mark s marked).1 in
      let more = few_taken most (next state item) items rest first.after (omega (arith, fewer)) fits.1 first.left in
      record {
        after = more.after;
        is = ap (λ r. and_then r (by_mark most state)) (optional_stands (b ∷ []) behind_mark s marked) ∙ ap (λ r. and_then r (others most state)) first.is ∙ ap (λ r. and_then r (λ (items : List A × (List ℕ × ℕ)). Ok (item ∷ items.0, items.1))) more.is;
        left = more.left;
      }
    where
      before : (items : List A) → Before item (ended_text b e es text items ++ rest)
      before [] = before_end item (es ++ rest)
      before (next_one ∷ later) = before_mark item ((text next_one ++ marked_texts (b ∷ []) text later) ++ (e ∷ es) ++ rest)

  -- a text that goes on is read as before; a longer text allows more items
  few_stay : (most most_later : ℕ) (state : S) (more : List ℕ) (s : List ℕ × ℕ) → most ≤ most_later → Within s → Stays Still more s (few_from (b ∷ []) (e ∷ es) read next most state s) (few_from (b ∷ []) (e ∷ es) read next most_later state (grown more s))
  few_stay zero most_later state more s le within = (λ none no_end. no_end, λ no_end still. absurd no_end)
  few_stay (suc most) zero state more s le within = absurd (omega (arith, le))
  few_stay (suc most) (suc most_later) state more s le within =
      stays-then Still more s (optional_at (b ∷ []) s) (optional_at (b ∷ []) (grown more s)) (by_mark most state) (by_mark most_later state)
      (stays-of_keeps Still more s (optional_at (b ∷ []) s) (optional_at (b ∷ []) (grown more s)) (keeps-optional b more s within))
      (λ marked t is inside. by marked t inside (λ later u still. few_stay most most_later later more u (omega (arith, le)) still))
    where
      by : (marked : Bool) (t : List ℕ × ℕ) → Within t → ((later : S) (u : List ℕ × ℕ) → Within u → Stays Still more u (few_from (b ∷ []) (e ∷ es) read next most later u) (few_from (b ∷ []) (e ∷ es) read next most_later later (grown more u)))
          → Stays Still more t (by_mark most state (marked, t)) (by_mark most_later state (marked, grown more t))
      by true t inside later =
          stays-then Still more t (read state t) (read state (grown more t)) (others most state) (others most_later state) ((reader state).stays more t inside)
          (λ item u is still. stays-then Still more u (few_from (b ∷ []) (e ∷ es) read next most (next state item) u) (few_from (b ∷ []) (e ∷ es) read next most_later (next state item) (grown more u)) (λ items. Ok (item ∷ items.0, items.1)) (λ items. Ok (item ∷ items.0, items.1)) (later (next state item) u still)
          (λ items v is last. (refl, last, λ none. none, λ some. refl)))
      by false t inside later = stays-word Still e es more t (λ u. Ok ([], u)) (λ u. Ok ([], u)) inside (λ u still. (refl, still, λ none. none, λ some. refl))

  -- what stands before a fault can be continued
  few_mended : (most : ℕ) (state : S) (s : List ℕ × ℕ) (fault : TextFault) → Within s → length (rest_of s) ≤ most → few_from (b ∷ []) (e ∷ es) read next most state s ≡ Err fault → IsMended (IsTextOf (ended_text b e es text) (All Loose)) s fault
  few_mended zero state s fault within le is =
      let same : End s.1 ≡ fault = cc in
      mended-here (IsTextOf (ended_text b e es text) (All Loose)) s fault (e ∷ es) ([], All-nil Loose, refl) (ap fault_place (sym same))
      (λ end. (e ∷ es, ([], All-nil Loose, ap (λ xs. xs ++ (e ∷ es)) (sym (no_bytes (rest_of s) (omega (arith, le)))))))
  few_mended (suc most) state s fault within le is =
      elim (fault_of_two (optional_at (b ∷ []) s) (by_mark most state) fault is) [
        | inl none ↦ absurd (optional_never_fails (b ∷ []) s fault none)
        | inr h ↦ by h.0.0 h.0.1 h.1 h.2 (λ later u inside fewer. few_mended most later u fault inside fewer)
      ]
    where
      one_more : (item : A) → Loose item → (front : List ℕ) → Begins (IsTextOf (ended_text b e es text) (All Loose)) front → Begins (behind (text item) (behind (b ∷ []) (IsTextOf (ended_text b e es text) (All Loose)))) front
      one_more item fit front begins = (
        begins.0,
        (
          item ∷ begins.1.0,
          All-cons Loose item begins.1.0 fit begins.1.1,
          sym (append-nil (ended_text b e es text (item ∷ begins.1.0))) ∙ cons item begins.1.0 [] ∙ ap (λ xs. (b ∷ []) ++ (text item ++ xs)) (append-nil (ended_text b e es text begins.1.0) ∙ begins.1.2),
        ),
      )

      alone : (front : List ℕ) → Begins (IsTextOf text Loose) front → Begins (behind (b ∷ []) (IsTextOf (ended_text b e es text) (All Loose))) front
      alone front begins =
          let item = begins.1.0 in (
            begins.0 ++ (e ∷ es),
            (
              item ∷ [],
              All-cons Loose item [] begins.1.1 (All-nil Loose),
              ap (λ xs. (b ∷ []) ++ xs) (ap (λ xs. xs ++ (e ∷ es)) (append-nil (text item) ∙ begins.1.2) ∙ append_assoc front begins.0 (e ∷ es)),
            ),
          )

      by : (marked : Bool) (t : List ℕ × ℕ) → optional_at (b ∷ []) s ≡ Ok (marked, t) → by_mark most state (marked, t) ≡ Err fault
          → ((later : S) (u : List ℕ × ℕ) → Within u → length (rest_of u) ≤ most → few_from (b ∷ []) (e ∷ es) read next most later u ≡ Err fault → IsMended (IsTextOf (ended_text b e es text) (All Loose)) u fault)
          → IsMended (IsTextOf (ended_text b e es text) (All Loose)) s fault
      by false t mark found later =
          let here : t ≡ s = optional_left (b ∷ []) s t mark in
          elim (fault_of_two (word_at (e ∷ es) t) (λ u. Ok ([], u)) fault found) [
            | inl none ↦ mended-word (IsTextOf (ended_text b e es text) (All Loose)) s fault (e ∷ es) [] (ap (λ u. word_at (e ∷ es) u) (sym here) ∙ none) ([], All-nil Loose, sym (append-nil (e ∷ es)))
            | inr h ↦ absurd (Err-ne-Ok fault ([], h.0) (sym h.2))
          ]
      by true t mark found later =
          let takes = optional_taken (b ∷ []) s t mark in
          let inside : Within t = subst Within (sym takes.1) (past_within (b ∷ []) (rest_of t) s within takes.0) in
          let shorter : length (rest_of s) ≡ suc (length (rest_of t)) = ap (λ xs. length xs) takes.0 in
          mended-behind (IsTextOf (ended_text b e es text) (All Loose)) s fault (b ∷ []) t takes.0 (ap (λ (u : List ℕ × ℕ). u.1) takes.1)
          (elim (fault_of_two (read state t) (others most state) fault found) [
            | inl none ↦ mended-map (IsTextOf text Loose) (behind (b ∷ []) (IsTextOf (ended_text b e es text) (All Loose))) t fault alone ((reader state).mended t fault inside none)
            | inr h ↦
                let item = h.0.0 in
                let u = h.0.1 in
                let first = (reader state).standing t u item h.1 in
                let moves = reads-moves Still (read state) text (Fits state) Loose Before (reader state) t u item inside h.1 in
                let few_left : length (rest_of u) ≤ most = omega (arith, le, shorter, ap (λ xs. length xs) first.1, length-append (text item) (rest_of u)) in
                mended-behind (behind (b ∷ []) (IsTextOf (ended_text b e es text) (All Loose))) t fault (text item) u first.1 moves.0
                (mended-map (IsTextOf (ended_text b e es text) (All Loose)) (behind (text item) (behind (b ∷ []) (IsTextOf (ended_text b e es text) (All Loose)))) u fault (one_more item ((reader state).loose item first.0))
                (later (next state item) u moves.1 few_left (of_others item u h.2)))
          ])
        where
          of_others : (item : A) (u : List ℕ × ℕ) → others most state (item, u) ≡ Err fault → few_from (b ∷ []) (e ∷ es) read next most (next state item) u ≡ Err fault
          of_others item u refused = elim (fault_of_two (few_from (b ∷ []) (e ∷ es) read next most (next state item) u) (λ items. Ok (item ∷ items.0, items.1)) fault refused) [ inl none ↦ none | inr h ↦ absurd (Err-ne-Ok fault (item ∷ h.0.0, h.0.1) (sym h.2)) ]

  fewer_than_bytes : (items : List A) (rest : List ℕ) → length items < length (ended_text b e es text items ++ rest)
  fewer_than_bytes [] rest = omega arith
  fewer_than_bytes (item ∷ items) rest =
      omega (arith, fewer_than_bytes items rest, ap (λ xs. length xs) (cons item items rest), length-append (text item) (ended_text b e es text items ++ rest))

  -- items, each behind a byte, up to a word that ends them
  pub reads-each : (state : S) → Reads Still (each_from (b ∷ []) (e ∷ es) read next state) (ended_text b e es text) (AllFrom Fits next state) (All Loose) (λ items rest. Unit {0})
  reads-each state = record {
    example = ([], All-nil Loose);
    loose = loosely state;
    standing = λ s t items is. few_stand (length s.0) state s t items is;
    taken = λ items rest s fits before is.
        few_taken (length s.0) state items rest s (omega (arith, fewer_than_bytes items rest, ap (λ xs. length xs) is, length-drop s.1 s.0)) fits is;
    stays = λ more s within. few_stay (length s.0) (length (s.0 ++ more)) state more s (omega (arith, length-append s.0 more)) within;
    mended = λ s fault within is. few_mended (length s.0) state s fault within (omega (arith, length-drop s.1 s.0)) is;
  }
