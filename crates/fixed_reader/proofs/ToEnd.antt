-- What a reader of items owes that stand one behind the other up to the end of the text.
use Rattle.std.proofs.Common.{◌≡◌, ◌∙◌, inl, inr, ℕ, zero, suc, ◌<◌, ◌≤◌, Bool, true, false, List, [], ◌∷◌, ◌++◌, length, length-append, length-drop, nat_eq, Result, Ok, Err, refl, sym, ap, subst, append_assoc, append-nil, arith, if◌then◌else◌}
use Rattle.std.specs.List.{All}
use Rattle.std.proofs.lemmas.Bool.{eqb-true, ne_eqb}
use Rattle.std.proofs.lemmas.List.Elements.{All-cons, All-head, All-nil, All-tail}
use Rattle.ev_text.specs.Readers.{Reader}
use Rattle.ev_text.specs.Scans.{and_then, rest_of}
use Rattle.ev_text.specs.Texts.{Begins, IsTextOf, joined_texts}
use Rattle.ev_text.specs.declared.TextFault.{TextFault}
use Rattle.ev_text.specs.declared.TextFault.TheVariants.{End}
use Rattle.ev_text.proofs.Grown.{Always, Keeps, Within, grown, keeps-ok, rest_of-grown, stays-then}
use Rattle.ev_text.proofs.Mended.{IsMended, behind, mended-behind, mended-map}
use Rattle.ev_text.proofs.ReaderLaws.{IsReader, reader-moves}
use Rattle.ev_text.proofs.Results.{Err-ne-Ok, Ok-injective, and_then-ok, fault_of_two, no_bytes}
use Rattle.ev_text.proofs.ReadingLaws.{Takes}
use Rattle.ev_text.proofs.Numbers.{Anything}
use Rattle.fixed_reader.specs.FixedReading.{each_to_end, few_to_end}

-- the text has a first byte
abbrev pub HasFirst : List ℕ → Type 0
HasFirst text = (b : ℕ) × (bs : List ℕ) × (text ≡ b ∷ bs)

-- nothing is left behind the items
abbrev pub AtEnd : {A : Type 0} → List A → List ℕ → Type 0
AtEnd items rest = rest ≡ []

module _ {A : Type 0} (read : Reader A) (text : A → List ℕ) (Fits : A → Type 0) (reader : IsReader read text Fits Anything) (begins : (a : A) → HasFirst (text a)) where
  abbrev more_items : ℕ → A × (List ℕ × ℕ) → Result (List A × (List ℕ × ℕ)) TextFault
  more_items most item = and_then (few_to_end read most item.1) (λ items. Ok (item.0 ∷ items.0, items.1))

  abbrev by_end : ℕ → List ℕ × ℕ → Bool → Result (List A × (List ℕ × ℕ)) TextFault
  by_end most s end = if end then Ok ([], s) else and_then (read s) (more_items most)

  -- an item leaves less of the text
  pub shorter : (s u : List ℕ × ℕ) (item : A) → read s ≡ Ok (item, u) → length (rest_of u) < length (rest_of s)
  shorter s u item found =
      let first = begins item in
      omega (arith, ap (λ xs. length xs) (reader.standing s u item found).1, length-append (text item) (rest_of u), ap (λ xs. length xs) first.2)

  abbrev Stands : List ℕ × ℕ → List A × (List ℕ × ℕ) → Type 0
  Stands s found = All Fits found.0 × (rest_of s ≡ joined_texts text found.0 ++ rest_of found.1) × (rest_of found.1 ≡ [])

  -- what was taken stands there, up to the end
  few_stand : (most : ℕ) (s t : List ℕ × ℕ) (items : List A) → few_to_end read most s ≡ Ok (items, t) → Stands s (items, t)
  few_stand zero s t items is = absurd (Err-ne-Ok (End s.1) (items, t) is)
  few_stand (suc most) s t items is = by (nat_eq (length (rest_of s)) 0) refl is (few_stand most)
    where
      by : (end : Bool) → nat_eq (length (rest_of s)) 0 ≡ end → by_end most s end ≡ Ok (items, t)
          → ((u v : List ℕ × ℕ) (rest : List A) → few_to_end read most u ≡ Ok (rest, v) → Stands u (rest, v)) → Stands s (items, t)
      by true end found behind_it =
          let none = no_bytes (rest_of s) (eqb-true (length (rest_of s)) 0 end) in
          subst (Stands s) {x = ([], s)} {y = (items, t)} (Ok-injective ([], s) (items, t) found) (All-nil Fits, refl, none)
      by false end found behind_it =
          let item = and_then-ok (read s) (more_items most) (items, t) found in
          let rest = and_then-ok (few_to_end read most item.0.1) (λ items. Ok (item.0.0 ∷ items.0, items.1)) (items, t) item.2 in
          let first = reader.standing s item.0.1 item.0.0 item.1 in
          let later = behind_it item.0.1 rest.0.1 rest.0.0 rest.1 in
          subst (Stands s) {x = (item.0.0 ∷ rest.0.0, rest.0.1)} {y = (items, t)} (Ok-injective (item.0.0 ∷ rest.0.0, rest.0.1) (items, t) rest.2) (
            All-cons Fits item.0.0 rest.0.0 first.0 later.0,
            first.1 ∙ ap (λ xs. text item.0.0 ++ xs) later.1 ∙ sym (append_assoc (text item.0.0) (joined_texts text rest.0.0) (rest_of rest.0.1)),
            later.2,
          )

  -- what stands there is taken
  few_taken : (most : ℕ) (items : List A) (s : List ℕ × ℕ) → length (rest_of s) < most → All Fits items → rest_of s ≡ joined_texts text items ++ [] → Takes (few_to_end read most s) items []
  few_taken zero items s fewer fits is = absurd (omega (arith, fewer))
  few_taken (suc most) [] s fewer fits is = record { after = s; is = rw is refl; left = is }
  few_taken (suc most) (item ∷ items) s fewer fits is =
      let fit = All-head Fits item items fits in
      let parts : rest_of s ≡ text item ++ (joined_texts text items ++ []) = is ∙ append_assoc (text item) (joined_texts text items) [] in
      let first = reader.taken item (joined_texts text items ++ []) s fit tt parts in
      let fewer_left = shorter s first.after item first.is in
      let more = few_taken most items first.after (omega (arith, fewer, fewer_left)) (All-tail Fits item items fits) first.left in
      let some : nat_eq (length (rest_of s)) 0 ≡ false = ne_eqb (length (rest_of s)) 0 (λ none. absurd (omega (arith, none, fewer_left))) in
      record {
        after = more.after;
        is = ap (λ (end : Bool). by_end most s end) some ∙ ap (λ r. and_then r (more_items most)) first.is ∙ ap (λ r. and_then r (λ (later : List A × (List ℕ × ℕ)). Ok (item ∷ later.0, later.1))) more.is;
        left = more.left;
      }

  -- a text that goes on is read as before, up to where it ended; a longer text allows more items
  few_keep : (most most_later : ℕ) (more : List ℕ) (s : List ℕ × ℕ) → most ≤ most_later → Within s → Keeps more s (few_to_end read most s) (few_to_end read most_later (grown more s))
  few_keep zero most_later more s le within = (λ none no_end. no_end, λ no_end always. absurd no_end)
  few_keep (suc most) zero more s le within = absurd (omega (arith, le))
  few_keep (suc most) (suc most_later) more s le within = by (nat_eq (length (rest_of s)) 0) refl (λ u inside. few_keep most most_later more u (omega (arith, le)) inside)
    where
      some_later : nat_eq (length (rest_of s)) 0 ≡ false → nat_eq (length (rest_of (grown more s))) 0 ≡ false
      some_later some =
          ne_eqb (length (rest_of (grown more s))) 0 (λ none. absurd (let left : length (rest_of s) ≡ 0 = omega (arith, none, ap (λ xs. length xs) (rest_of-grown more s within), length-append (rest_of s) more) in let untrue : nat_eq (length (rest_of s)) 0 ≡ true = ap (λ n. nat_eq n 0) left in cc))

      by : (end : Bool) → nat_eq (length (rest_of s)) 0 ≡ end → ((u : List ℕ × ℕ) → Within u → Keeps more u (few_to_end read most u) (few_to_end read most_later (grown more u)))
          → Keeps more s (by_end most s end) (few_to_end read (suc most_later) (grown more s))
      by true end later = (refl, within, λ none. none, λ some. absurd (some (no_bytes (rest_of s) (eqb-true (length (rest_of s)) 0 end))))
      by false end later =
          subst (λ (test : Bool). Keeps more s (and_then (read s) (more_items most)) (by_end most_later (grown more s) test)) (sym (some_later end))
          (stays-then Always more s (read s) (read (grown more s)) (more_items most) (more_items most_later) (reader.stays more s within)
          (λ item u is inside. stays-then Always more u (few_to_end read most u) (few_to_end read most_later (grown more u)) (λ items. Ok (item ∷ items.0, items.1)) (λ items. Ok (item ∷ items.0, items.1)) (later u inside)
          (λ items v is last. keeps-ok more v (item ∷ items) last)))

  -- what stands before a fault can be continued
  few_mended : (most : ℕ) (s : List ℕ × ℕ) (fault : TextFault) → Within s → length (rest_of s) < most → few_to_end read most s ≡ Err fault → IsMended (IsTextOf (joined_texts text) (All Fits)) s fault
  few_mended zero s fault within lt is = absurd (omega (arith, lt))
  few_mended (suc most) s fault within lt is = by (nat_eq (length (rest_of s)) 0) is (λ u inside fewer. few_mended most u fault inside fewer)
    where
      alone : (front : List ℕ) → Begins (IsTextOf text Fits) front → Begins (IsTextOf (joined_texts text) (All Fits)) front
      alone front begins_it = let item = begins_it.1.0 in (begins_it.0, (item ∷ [], All-cons Fits item [] begins_it.1.1 (All-nil Fits), append-nil (text item) ∙ begins_it.1.2))

      one_more : (item : A) → Fits item → (front : List ℕ) → Begins (IsTextOf (joined_texts text) (All Fits)) front → Begins (behind (text item) (IsTextOf (joined_texts text) (All Fits))) front
      one_more item fit front begins_it = (begins_it.0, (item ∷ begins_it.1.0, All-cons Fits item begins_it.1.0 fit begins_it.1.1, ap (λ xs. text item ++ xs) begins_it.1.2))

      of_more : (item : A) (u : List ℕ × ℕ) → more_items most (item, u) ≡ Err fault → few_to_end read most u ≡ Err fault
      of_more item u refused = elim (fault_of_two (few_to_end read most u) (λ items. Ok (item ∷ items.0, items.1)) fault refused) [ inl none ↦ none | inr h ↦ absurd (Err-ne-Ok fault (item ∷ h.0.0, h.0.1) (sym h.2)) ]

      by : (end : Bool) → by_end most s end ≡ Err fault
          → ((u : List ℕ × ℕ) → Within u → length (rest_of u) < most → few_to_end read most u ≡ Err fault → IsMended (IsTextOf (joined_texts text) (All Fits)) u fault) → IsMended (IsTextOf (joined_texts text) (All Fits)) s fault
      by true found later = absurd (Err-ne-Ok fault ([], s) (sym found))
      by false found later = elim (fault_of_two (read s) (more_items most) fault found) [
        | inl none ↦ mended-map (IsTextOf text Fits) (IsTextOf (joined_texts text) (All Fits)) s fault alone (reader.mended s fault within none)
        | inr h ↦
            let item = h.0.0 in
            let u = h.0.1 in
            let first = reader.standing s u item h.1 in
            let moves = reader-moves read text Fits Anything reader s u item within h.1 in
            mended-behind (IsTextOf (joined_texts text) (All Fits)) s fault (text item) u first.1 moves.0
            (mended-map (IsTextOf (joined_texts text) (All Fits)) (behind (text item) (IsTextOf (joined_texts text) (All Fits))) u fault (one_more item first.0)
            (later u moves.1 (omega (arith, lt, shorter s u item h.1)) (of_more item u h.2)))
      ]

  -- items up to the end of the text
  pub reader-to_end : IsReader (each_to_end read) (joined_texts text) (All Fits) AtEnd
  reader-to_end = record {
    example = ([], All-nil Fits);
    loose = λ items fit. fit;
    standing = λ s t items is. let stands = few_stand (suc (length s.0)) s t items is in (stands.0, stands.1);
    taken = λ items rest s fits before is.
        subst (λ (left : List ℕ). Takes (each_to_end read s) items left) (sym before)
        (few_taken (suc (length s.0)) items s (omega (arith, length-drop s.1 s.0)) fits (is ∙ ap (λ xs. joined_texts text items ++ xs) before));
    stays = λ more s within. few_keep (suc (length s.0)) (suc (length (s.0 ++ more))) more s (omega (arith, length-append s.0 more)) within;
    mended = λ s fault within is. few_mended (suc (length s.0)) s fault within (omega (arith, length-drop s.1 s.0)) is;
  }
