-- Invariants of the loops that read lists: the items so far, in front of those that are read from here on, are what is read in all.
use Rattle.std.proofs.Common.{◌≡◌, ◌∙◌, ℕ, zero, suc, ◌+◌, ◌<◌, ◌≤◌, true, false, List, [], ◌∷◌, ◌++◌, length, length-append, length-drop, Result, Ok, Err, refl, sym, ap, append_assoc, append-nil, arith}
use Rattle.ev_text.specs.Readers.{Reader, each_behind, few_behind, optional_at, so_many}
use Rattle.ev_text.specs.Scans.{and_then, rest_of, word_at}
use Rattle.ev_text.specs.declared.TextFault.{TextFault}
use Rattle.ev_text.specs.declared.TextFault.TheVariants.{End}
use Rattle.ev_text.proofs.ChoiceLaws.{optional_left, optional_taken}
use Rattle.ev_text.proofs.ReaderLaws.{IsReader}
use Rattle.ev_text.proofs.Readings.{word_at-at_end}
use Rattle.ev_text.proofs.Results.{no_bytes}

-- items in front of others
abbrev pub in_front : {A : Type 0} → List A → Result (List A × (List ℕ × ℕ)) TextFault → Result (List A × (List ℕ × ℕ)) TextFault
in_front items rest = and_then rest (λ found. Ok (items ++ found.0, found.1))

pub in_front-twice : {A : Type 0} (items : List A) (item : A) (rest : Result (List A × (List ℕ × ℕ)) TextFault) → in_front items (in_front (item ∷ []) rest) ≡ in_front (items ++ item ∷ []) rest
in_front-twice items item (Ok found) = ap (λ xs. Ok (xs, found.1)) (sym (append_assoc items (item ∷ []) found.0))
in_front-twice items item (Err fault) = refl

pub in_front-none : {A : Type 0} (rest : Result (List A × (List ℕ × ℕ)) TextFault) → in_front [] rest ≡ rest
in_front-none (Ok found) = refl
in_front-none (Err fault) = refl

module _ {A : Type 0} (b e : ℕ) (es : List ℕ) (read : Reader A) (text : A → List ℕ) (Fits : A → Type 0) (Before : A → List ℕ → Type 0) (reader : IsReader read text Fits Before) where
  -- the items so far, and those behind marks from here on, are all of them
  abbrev pub IsReadTo : Result (List A × (List ℕ × ℕ)) TextFault → List A → List ℕ × ℕ → Type 0
  IsReadTo all items s = (most : ℕ) × (length (rest_of s) ≤ most) × (in_front items (few_behind (b ∷ []) (e ∷ es) read most s) ≡ all)

  pub each-begins : (all : Result (List A × (List ℕ × ℕ)) TextFault) (items : List A) (s : List ℕ × ℕ) → in_front items (each_behind (b ∷ []) (e ∷ es) read s) ≡ all → IsReadTo all items s
  each-begins all items s is = (length s.0, omega (arith, length-drop s.1 s.0), is)

  -- a mark and an item leave less of the text
  pub each-shorter : (s t u : List ℕ × ℕ) (item : A) → optional_at (b ∷ []) s ≡ Ok (true, t) → read t ≡ Ok (item, u) → length (rest_of u) < length (rest_of s)
  each-shorter s t u item mark found =
      let first : length (rest_of s) ≡ suc (length (rest_of t)) = ap (λ xs. length xs) (optional_taken (b ∷ []) s t mark).0 in
      let second : length (rest_of t) ≡ length (text item) + length (rest_of u) = ap (λ xs. length xs) (reader.standing t u item found).1 ∙ length-append (text item) (rest_of u) in
      omega arith

  -- where a mark was taken, an item and those behind it are next
  next : (most : ℕ) (s t : List ℕ × ℕ) → length (rest_of s) ≤ most → optional_at (b ∷ []) s ≡ Ok (true, t)
      → (fewer : ℕ) × (most ≡ suc fewer) × (few_behind (b ∷ []) (e ∷ es) read most s ≡ and_then (read t) (λ item. in_front (item.0 ∷ []) (few_behind (b ∷ []) (e ∷ es) read fewer item.1)))
  next zero s t le mark = absurd (omega (arith, le, ap (λ xs. length xs) (optional_taken (b ∷ []) s t mark).0))
  next (suc most) s t le mark = (most, refl, rw mark refl)

  pub each-goes_on : (all : Result (List A × (List ℕ × ℕ)) TextFault) (s t u : List ℕ × ℕ) (items more : List A) (item : A)
      → IsReadTo all items s → optional_at (b ∷ []) s ≡ Ok (true, t) → read t ≡ Ok (item, u) → more ≡ items ++ item ∷ [] → IsReadTo all more u
  each-goes_on all s t u items more item (most, le, is) mark found more_is =
      let after = next most s t le mark in
      let fewer = after.0 in
      let step : few_behind (b ∷ []) (e ∷ es) read most s ≡ in_front (item ∷ []) (few_behind (b ∷ []) (e ∷ es) read fewer u) = after.2 ∙ ap (λ r. and_then r (λ item. in_front (item.0 ∷ []) (few_behind (b ∷ []) (e ∷ es) read fewer item.1))) found in (
        fewer,
        omega (arith, le, after.1, each-shorter s t u item mark found),
        ap (λ xs. in_front xs (few_behind (b ∷ []) (e ∷ es) read fewer u)) more_is ∙ sym (in_front-twice items item (few_behind (b ∷ []) (e ∷ es) read fewer u)) ∙ ap (λ r. in_front items r) (sym step) ∙ is,
      )

  -- an item that is none is the fault of all
  pub each-breaks : (all : Result (List A × (List ℕ × ℕ)) TextFault) (s t : List ℕ × ℕ) (items : List A) (fault : TextFault) → IsReadTo all items s → optional_at (b ∷ []) s ≡ Ok (true, t) → read t ≡ Err fault → all ≡ Err fault
  each-breaks all s t items fault (most, le, is) mark found =
      let after = next most s t le mark in
      sym is ∙ ap (λ r. in_front items r) (after.2 ∙ ap (λ r. and_then r (λ item. in_front (item.0 ∷ []) (few_behind (b ∷ []) (e ∷ es) read after.0 item.1))) found)

  -- where no mark was taken, the word at the end is next
  last : (most : ℕ) (s t : List ℕ × ℕ) → length (rest_of s) ≤ most → optional_at (b ∷ []) s ≡ Ok (false, t) → few_behind (b ∷ []) (e ∷ es) read most s ≡ and_then (word_at (e ∷ es) t) (λ u. Ok ([], u))
  last zero s t le none =
      let same : t ≡ s = optional_left (b ∷ []) s t none in
      let fault : word_at (e ∷ es) s ≡ Err (End s.1) = word_at-at_end e es s (no_bytes (rest_of s) (omega (arith, le))) in
      rw (same, fault) refl
  last (suc most) s t le none = rw none refl

  line_end : (all : Result (List A × (List ℕ × ℕ)) TextFault) (s t : List ℕ × ℕ) (items : List A) → IsReadTo all items s → optional_at (b ∷ []) s ≡ Ok (false, t) → all ≡ and_then (word_at (e ∷ es) t) (λ u. Ok (items, u))
  line_end all s t items (most, le, is) none = sym is ∙ ap (λ r. in_front items r) (last most s t le none) ∙ by (word_at (e ∷ es) t)
    where
      by : (r : Result (List ℕ × ℕ) TextFault) → in_front items (and_then r (λ u. Ok ([], u))) ≡ and_then r (λ u. Ok (items, u))
      by (Ok u) = ap (λ (xs : List A). Ok (xs, u)) (append-nil items)
      by (Err fault) = refl

  pub each-ends : (all : Result (List A × (List ℕ × ℕ)) TextFault) (s t u : List ℕ × ℕ) (items : List A) → IsReadTo all items s → optional_at (b ∷ []) s ≡ Ok (false, t) → word_at (e ∷ es) t ≡ Ok u → all ≡ Ok (items, u)
  each-ends all s t u items so_far none found = line_end all s t items so_far none ∙ ap (λ r. and_then r (λ v. Ok (items, v))) found

  pub each-breaks_off : (all : Result (List A × (List ℕ × ℕ)) TextFault) (s t : List ℕ × ℕ) (items : List A) (fault : TextFault) → IsReadTo all items s → optional_at (b ∷ []) s ≡ Ok (false, t) → word_at (e ∷ es) t ≡ Err fault → all ≡ Err fault
  each-breaks_off all s t items fault so_far none found = line_end all s t items so_far none ∙ ap (λ r. and_then r (λ v. Ok (items, v))) found

-- so many items: those so far, and those that are left
module _ {A : Type 0} (read : Reader A) where
  abbrev pub IsReadUpTo : Result (List A × (List ℕ × ℕ)) TextFault → List A → ℕ → List ℕ × ℕ → Type 0
  IsReadUpTo all items left s = in_front items (so_many left read s) ≡ all

  pub many-begins : (count left : ℕ) (items : List A) (s : List ℕ × ℕ) → left ≡ count → items ≡ [] → IsReadUpTo (so_many count read s) items left s
  many-begins count left items s same none = ap (λ xs. in_front xs (so_many left read s)) none ∙ in_front-none (so_many left read s) ∙ ap (λ n. so_many n read s) same

  pub many-goes_on : (all : Result (List A × (List ℕ × ℕ)) TextFault) (s t : List ℕ × ℕ) (left fewer : ℕ) (items more : List A) (item : A)
      → left ≡ suc fewer → IsReadUpTo all items left s → read s ≡ Ok (item, t) → more ≡ items ++ item ∷ [] → IsReadUpTo all more fewer t
  many-goes_on all s t left fewer items more item one so_far found more_is =
      ap (λ xs. in_front xs (so_many fewer read t)) more_is ∙ sym (in_front-twice items item (so_many fewer read t))
      ∙ ap (λ r. in_front items r) (sym (ap (λ r. and_then r (λ first. in_front (first.0 ∷ []) (so_many fewer read first.1))) found))
      ∙ ap (λ n. in_front items (so_many n read s)) (sym one) ∙ so_far

  pub many-breaks : (all : Result (List A × (List ℕ × ℕ)) TextFault) (s : List ℕ × ℕ) (left fewer : ℕ) (items : List A) (fault : TextFault) → left ≡ suc fewer → IsReadUpTo all items left s → read s ≡ Err fault → all ≡ Err fault
  many-breaks all s left fewer items fault one so_far found =
      sym so_far ∙ ap (λ n. in_front items (so_many n read s)) one ∙ ap (λ r. in_front items (and_then r (λ first. in_front (first.0 ∷ []) (so_many fewer read first.1)))) found

  pub many-ends : (all : Result (List A × (List ℕ × ℕ)) TextFault) (s : List ℕ × ℕ) (left : ℕ) (items : List A) → left ≡ 0 → IsReadUpTo all items left s → all ≡ Ok (items, s)
  many-ends all s left items none so_far = sym so_far ∙ ap (λ n. in_front items (so_many n read s)) none ∙ ap (λ (xs : List A). Ok (xs, s)) (append-nil items)
