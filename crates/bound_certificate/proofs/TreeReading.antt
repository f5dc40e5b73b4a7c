-- Lines are read until no tree is open.
use Rattle.std.proofs.Common.{◌≡◌, ◌∙◌, inl, inr, ℕ, zero, suc, ◌≤◌, List, [], ◌∷◌, ◌++◌, length, length-append, length-drop, Result, Ok, Err, refl, sym, ap, subst, append_assoc, arith}
use Rattle.std.specs.List.{All}
use Rattle.std.proofs.lemmas.List.Elements.{All-cons, All-head, All-nil, All-tail}
use Rattle.ev_text.specs.Readers.{Reader}
use Rattle.ev_text.specs.Scans.{and_then, rest_of}
use Rattle.ev_text.specs.Texts.{Begins, IsTextOf, StandsUnlessLonger, fault_place, joined_texts}
use Rattle.ev_text.specs.declared.TextFault.{TextFault}
use Rattle.ev_text.specs.declared.TextFault.TheVariants.{End}
use Rattle.ev_text.proofs.Grown.{Stays, Within, grown, stays-then}
use Rattle.ev_text.proofs.Mended.{IsMended, behind, mended-behind, mended-here, mended-map}
use Rattle.ev_text.proofs.ReadingLaws.{Reads, Takes, reads-moves}
use Rattle.ev_text.proofs.Results.{Err-ne-Ok, Ok-injective, and_then-ok, fault_of_two, no_bytes}
use Rattle.bound_certificate.specs.Reading.{few_lines, tree_at}
use Rattle.bound_certificate.specs.Trees.{Closes, open_behind}
use Rattle.bound_certificate.specs.declared.certificate.TreeLine.{TreeLine}
use Rattle.bound_certificate.specs.declared.certificate.TreeLine.TheVariants.{Split, Leaf}
use Rattle.ev_text.proofs.Numbers.{Anything}

-- a line behind which lines close the trees that are open there
pub closes_with : (line : TreeLine) (trees : ℕ) (lines : List TreeLine) → Closes (open_behind line (suc trees)) lines → Closes (suc trees) (line ∷ lines)
closes_with (Leaf n) trees lines closes = let same : open_behind (Leaf n) (suc trees) ≡ trees = omega arith in subst (λ k. Closes k lines) same closes
closes_with (Split i j) trees lines closes = let same : open_behind (Split i j) (suc trees) ≡ suc (suc trees) = omega arith in subst (λ k. Closes k lines) same closes

pub closes_behind : (line : TreeLine) (trees : ℕ) (lines : List TreeLine) → Closes (suc trees) (line ∷ lines) → Closes (open_behind line (suc trees)) lines
closes_behind (Leaf n) trees lines closes = let same : trees ≡ open_behind (Leaf n) (suc trees) = omega arith in subst (λ k. Closes k lines) same closes
closes_behind (Split i j) trees lines closes = let same : suc (suc trees) ≡ open_behind (Split i j) (suc trees) = omega arith in subst (λ k. Closes k lines) same closes

nothing_open : (lines : List TreeLine) → Closes 0 lines → lines ≡ []
nothing_open [] closes = refl
nothing_open (line ∷ lines) closes = absurd closes

module _ (read : Reader TreeLine) (text : TreeLine → List ℕ) (Fits Loose : TreeLine → Type 0) (reader : Reads StandsUnlessLonger read text Fits Loose Anything)
    (some_text : (line : TreeLine) → 1 ≤ length (text line)) (a_leaf : (n : ℕ) × Loose (Leaf n)) where
  abbrev Are : ℕ → List TreeLine → Type 0
  Are trees lines = All Fits lines × Closes trees lines

  abbrev AreLoose : ℕ → List TreeLine → Type 0
  AreLoose trees lines = All Loose lines × Closes trees lines

  -- as many leaves as trees are open
  leaves : (trees : ℕ) → (lines : List TreeLine) × AreLoose trees lines
  leaves zero = ([], (All-nil Loose, tt))
  leaves (suc trees) = let rest = leaves trees in (Leaf a_leaf.0 ∷ rest.0, (All-cons Loose (Leaf a_leaf.0) rest.0 a_leaf.1 rest.1.0, rest.1.1))

  loosely : (trees : ℕ) (lines : List TreeLine) → All Fits lines → All Loose lines
  loosely trees [] all = All-nil Loose
  loosely trees (line ∷ lines) all = All-cons Loose line lines (reader.loose line (All-head Fits line lines all)) (loosely trees lines (All-tail Fits line lines all))

  abbrev step : ℕ → ℕ → TreeLine × (List ℕ × ℕ) → Result (List TreeLine × (List ℕ × ℕ)) TextFault
  step most trees line = and_then (few_lines read most (open_behind line.0 (suc trees)) line.1) (λ others. Ok (line.0 ∷ others.0, others.1))

  abbrev Stand : ℕ → List ℕ × ℕ → List TreeLine × (List ℕ × ℕ) → Type 0
  Stand trees s found = Are trees found.0 × (rest_of s ≡ joined_texts text found.0 ++ rest_of found.1)

  lines_stand : (most trees : ℕ) (s t : List ℕ × ℕ) (lines : List TreeLine) → few_lines read most trees s ≡ Ok (lines, t) → Are trees lines × (rest_of s ≡ joined_texts text lines ++ rest_of t)
  lines_stand zero zero s t lines is = subst (Stand 0 s) {x = ([], s)} {y = (lines, t)} (Ok-injective ([], s) (lines, t) is) ((All-nil Fits, tt), refl)
  lines_stand (suc most) zero s t lines is = subst (Stand 0 s) {x = ([], s)} {y = (lines, t)} (Ok-injective ([], s) (lines, t) is) ((All-nil Fits, tt), refl)
  lines_stand zero (suc trees) s t lines is = absurd (Err-ne-Ok (End s.1) (lines, t) is)
  lines_stand (suc most) (suc trees) s t lines is =
      let line = and_then-ok (read s) (step most trees) (lines, t) is in
      let rest = and_then-ok (few_lines read most (open_behind line.0.0 (suc trees)) line.0.1) (λ others. Ok (line.0.0 ∷ others.0, others.1)) (lines, t) line.2 in
      let first = reader.standing s line.0.1 line.0.0 line.1 in
      let later = lines_stand most (open_behind line.0.0 (suc trees)) line.0.1 rest.0.1 rest.0.0 rest.1 in
      subst (Stand (suc trees) s) {x = (line.0.0 ∷ rest.0.0, rest.0.1)} {y = (lines, t)} (Ok-injective (line.0.0 ∷ rest.0.0, rest.0.1) (lines, t) rest.2) (
        (All-cons Fits line.0.0 rest.0.0 first.0 later.0.0, closes_with line.0.0 trees rest.0.0 later.0.1),
        first.1 ∙ ap (λ xs. text line.0.0 ++ xs) later.1 ∙ sym (append_assoc (text line.0.0) (joined_texts text rest.0.0) (rest_of rest.0.1)),
      )

  none_taken : (most : ℕ) (lines : List TreeLine) (rest : List ℕ) (s : List ℕ × ℕ) → Closes 0 lines → rest_of s ≡ joined_texts text lines ++ rest → few_lines read most 0 s ≡ Ok ([], s) → Takes (few_lines read most 0 s) lines rest
  none_taken most lines rest s closes is found =
      let none = nothing_open lines closes in
      record { after = s; is = found ∙ ap (λ (ls : List TreeLine). Ok (ls, s)) (sym none); left = is ∙ ap (λ ls. joined_texts text ls ++ rest) none }

  lines_taken : (most trees : ℕ) (lines : List TreeLine) (rest : List ℕ) (s : List ℕ × ℕ) → length lines ≤ most → All Fits lines → Closes trees lines → rest_of s ≡ joined_texts text lines ++ rest → Takes (few_lines read most trees s) lines rest
  lines_taken zero zero lines rest s few all closes is = none_taken zero lines rest s closes is refl
  lines_taken (suc most) zero lines rest s few all closes is = none_taken (suc most) lines rest s closes is refl
  lines_taken most (suc trees) [] rest s few all closes is = absurd closes
  lines_taken zero (suc trees) (line ∷ lines) rest s few all closes is = absurd (omega (arith, few))
  lines_taken (suc most) (suc trees) (line ∷ lines) rest s few all closes is =
      let first = reader.taken line (joined_texts text lines ++ rest) s (All-head Fits line lines all) tt (is ∙ append_assoc (text line) (joined_texts text lines) rest) in
      let later = lines_taken most (open_behind line (suc trees)) lines rest first.after (omega (arith, few)) (All-tail Fits line lines all) (closes_behind line trees lines closes) first.left in
      record {
        after = later.after;
        is = ap (λ r. and_then r (step most trees)) first.is ∙ ap (λ r. and_then r (λ (others : List TreeLine × (List ℕ × ℕ)). Ok (line ∷ others.0, others.1))) later.is;
        left = later.left;
      }

  lines_stay : (most most_later trees : ℕ) (more : List ℕ) (s : List ℕ × ℕ) → most ≤ most_later → Within s → Stays StandsUnlessLonger more s (few_lines read most trees s) (few_lines read most_later trees (grown more s))
  lines_stay zero zero zero more s le within = (refl, within, λ none. none, λ some. refl)
  lines_stay zero (suc most_later) zero more s le within = (refl, within, λ none. none, λ some. refl)
  lines_stay (suc most) zero zero more s le within = (refl, within, λ none. none, λ some. refl)
  lines_stay (suc most) (suc most_later) zero more s le within = (refl, within, λ none. none, λ some. refl)
  lines_stay zero most_later (suc trees) more s le within = (λ none no_end. no_end, λ no_end still. absurd no_end)
  lines_stay (suc most) zero (suc trees) more s le within = absurd (omega (arith, le))
  lines_stay (suc most) (suc most_later) (suc trees) more s le within =
      stays-then StandsUnlessLonger more s (read s) (read (grown more s)) (step most trees) (step most_later trees) (reader.stays more s within)
      (λ line t is inside. stays-then StandsUnlessLonger more t (few_lines read most (open_behind line (suc trees)) t) (few_lines read most_later (open_behind line (suc trees)) (grown more t)) (λ others. Ok (line ∷ others.0, others.1)) (λ others. Ok (line ∷ others.0, others.1))
      (lines_stay most most_later (open_behind line (suc trees)) more t (omega (arith, le)) inside)
      (λ lines u found still. (refl, still, λ none. none, λ some. refl)))

  abbrev Language : ℕ → List ℕ → Type 0
  Language trees = IsTextOf (joined_texts text) (λ lines. All Loose lines × Closes trees lines)

  lines_mended : (most trees : ℕ) (s : List ℕ × ℕ) (fault : TextFault) → Within s → length (rest_of s) ≤ most → few_lines read most trees s ≡ Err fault → IsMended (Language trees) s fault
  lines_mended zero zero s fault within le is = absurd (Err-ne-Ok fault ([], s) (sym is))
  lines_mended (suc most) zero s fault within le is = absurd (Err-ne-Ok fault ([], s) (sym is))
  lines_mended zero (suc trees) s fault within le is =
      let same : End s.1 ≡ fault = cc in
      let some = leaves (suc trees) in
      mended-here (Language (suc trees)) s fault (joined_texts text some.0) (some.0, some.1, refl) (ap fault_place (sym same))
      (λ end. (joined_texts text some.0, (some.0, some.1, ap (λ xs. xs ++ joined_texts text some.0) (sym (no_bytes (rest_of s) (omega (arith, le)))))))
  lines_mended (suc most) (suc trees) s fault within le is = elim (fault_of_two (read s) (step most trees) fault is) [
    | inl none ↦ mended-map (IsTextOf text Loose) (Language (suc trees)) s fault alone (reader.mended s fault within none)
    | inr h ↦
        let line = h.0.0 in
        let u = h.0.1 in
        let first = reader.standing s u line h.1 in
        let moves = reads-moves StandsUnlessLonger read text Fits Loose Anything reader s u line within h.1 in
        let some = some_text line in
        let fewer : length (rest_of u) ≤ most = omega (arith, le, some, ap (λ xs. length xs) first.1, length-append (text line) (rest_of u)) in
        mended-behind (Language (suc trees)) s fault (text line) u first.1 moves.0
        (mended-map (Language (open_behind line (suc trees))) (behind (text line) (Language (suc trees))) u fault (one_more line (reader.loose line first.0))
        (lines_mended most (open_behind line (suc trees)) u fault moves.1 fewer (of_others line u h.2)))
  ]
    where
      one_more : (line : TreeLine) → Loose line → (front : List ℕ) → Begins (Language (open_behind line (suc trees))) front → Begins (behind (text line) (Language (suc trees))) front
      one_more line loose front begins =
          let lines = begins.1.0 in
          (begins.0, (line ∷ lines, (All-cons Loose line lines loose begins.1.1.0, closes_with line trees lines begins.1.1.1), ap (λ xs. text line ++ xs) begins.1.2))

      alone : (front : List ℕ) → Begins (IsTextOf text Loose) front → Begins (Language (suc trees)) front
      alone front begins =
          let line = begins.1.0 in
          let rest = leaves (open_behind line (suc trees)) in (
            begins.0 ++ joined_texts text rest.0,
            (line ∷ rest.0, (All-cons Loose line rest.0 begins.1.1 rest.1.0, closes_with line trees rest.0 rest.1.1), ap (λ xs. xs ++ joined_texts text rest.0) begins.1.2 ∙ append_assoc front begins.0 (joined_texts text rest.0)),
          )

      of_others : (line : TreeLine) (u : List ℕ × ℕ) → step most trees (line, u) ≡ Err fault → few_lines read most (open_behind line (suc trees)) u ≡ Err fault
      of_others line u refused = elim (fault_of_two (few_lines read most (open_behind line (suc trees)) u) (λ others. Ok (line ∷ others.0, others.1)) fault refused) [ inl none ↦ none | inr h ↦ absurd (Err-ne-Ok fault (line ∷ h.0.0, h.0.1) (sym h.2)) ]

  no_more_than_bytes : (lines : List TreeLine) (rest : List ℕ) → length lines ≤ length (joined_texts text lines ++ rest)
  no_more_than_bytes [] rest = omega arith
  no_more_than_bytes (line ∷ lines) rest =
      let some = some_text line in
      omega (arith, some, no_more_than_bytes lines rest, length-append (text line) (joined_texts text lines ++ rest), ap (λ xs. length xs) (append_assoc (text line) (joined_texts text lines) rest))

  -- the lines of one tree
  pub reads-tree : Reads StandsUnlessLonger (tree_at read) (joined_texts text) (λ lines. All Fits lines × Closes 1 lines) (λ lines. All Loose lines × Closes 1 lines) Anything
  reads-tree = record {
    example = leaves 1;
    loose = λ lines are. (loosely 1 lines are.0, are.1);
    standing = λ s t lines is. lines_stand (length s.0) 1 s t lines is;
    taken = λ lines rest s are any is.
        lines_taken (length s.0) 1 lines rest s (omega (arith, no_more_than_bytes lines rest, ap (λ xs. length xs) is, length-drop s.1 s.0)) are.0 are.1 is;
    stays = λ more s within. lines_stay (length s.0) (length (s.0 ++ more)) 1 more s (omega (arith, length-append s.0 more)) within;
    mended = λ s fault within is. lines_mended (length s.0) 1 s fault within (omega (arith, length-drop s.1 s.0)) is;
  }
