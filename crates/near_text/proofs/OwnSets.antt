-- The reader of a set that has its own customer reads exactly the texts of such sets.
use Rattle.std.proofs.Common.{◌≡◌, ◌∙◌, inl, inr, ℕ, zero, suc, ◌+◌, ◌≤◌, Bool, true, false, ◌||◌, ◌&&◌, List, [], ◌∷◌, ◌++◌, Option, None, Some, decimal, length, length-append, length-drop, nat_eq, Result, Ok, Err, refl, sym, ap, subst, append_assoc, append-nil, arith, if◌then◌else◌}
use Rattle.std.specs.List.{All}
use Rattle.std.proofs.lemmas.Bool.{false≢true, ne_eqb}
use Rattle.std.proofs.lemmas.List.Elements.{All-cons, All-nil}
use Rattle.customer_sets.specs.CustSet.{has}
use Rattle.ev_model.specs.Network.{Network}
use Rattle.ev_text.specs.Readers.{optional_at}
use Rattle.ev_text.specs.Scans.{and_then, past, rest_of, word_at}
use Rattle.ev_text.specs.Texts.{AllFrom, Begins, IsNoEnd, IsTextOf, StandsUnlessLonger, fault_place}
use Rattle.ev_text.specs.declared.TextFault.{TextFault}
use Rattle.ev_text.specs.declared.TextFault.TheVariants.{End, TooLarge}
use Rattle.ev_text.proofs.ChoiceLaws.{BeginsOtherwise, keeps-optional, optional_is_left, optional_is_none, optional_left, optional_never_fails, optional_stands, optional_taken}
use Rattle.ev_text.proofs.Grown.{Keeps, Stays, Within, grown, past_within, rest_of-grown, stays-of_keeps, stays-then, stays-word}
use Rattle.ev_text.proofs.Mended.{IsMended, behind, mended-behind, mended-here, mended-map, mended-word}
use Rattle.ev_text.proofs.ReadingLaws.{Reads, Takes, reads-moves}
use Rattle.ev_text.proofs.Readings.{TakesWord-from_word_at, word_read}
use Rattle.ev_text.proofs.Results.{Err-ne-Ok, Ok-injective, and_then-ok, fault_of_two, no_bytes}
use Rattle.ev_text.specs.Numbers.{UpTo}
use Rattle.ev_text.proofs.Numbers.{Anything, NoDigit, number_is_no_mark, ranged}
use Rattle.route_plan.specs.Limits.{greatest_number}
use Rattle.certificate_parts.specs.Reading.{customer_at, is_above, is_customer_node}
use Rattle.certificate_parts.specs.Texts.{set_text}
use Rattle.certificate_parts.specs.WrittenRanges.{MemberIs, SetIs, next_member}
use Rattle.near_text.specs.Reading.{few_own, own_end, own_set_at}
use Rattle.near_text.specs.WrittenRanges.{NearSetLoose}

-- the text of a set, and the end of its line
abbrev pub own_text : List ℕ → List ℕ
own_text nodes = set_text nodes ++ 10 ∷ []

one_text : (x : ℕ) (rest : List ℕ) → own_text (x ∷ []) ++ rest ≡ decimal x ++ (10 ∷ rest)
one_text x rest = ap (λ xs. (xs ++ 10 ∷ []) ++ rest) (append-nil (decimal x)) ∙ append_assoc (decimal x) (10 ∷ []) rest

more_text : (x y : ℕ) (ys rest : List ℕ) → own_text (x ∷ y ∷ ys) ++ rest ≡ decimal x ++ (44 ∷ (own_text (y ∷ ys) ++ rest))
more_text x y ys rest = simp append_assoc

some_bytes : (b : ℕ) (bs rest : List ℕ) → rest ≡ b ∷ bs → nat_eq (length rest) 0 ≡ false
some_bytes b bs rest is = ne_eqb (length rest) 0 (λ none. let more = ap (λ (xs : List ℕ). length xs) is in omega (arith, none, more))

or_more : (a b c : Bool) → (a || (b || c)) ≡ ((a || b) || c)
or_more true b c = refl
or_more false b c = refl

or_none : (a : Bool) → (a || false) ≡ a
or_none true = refl
or_none false = refl

module _ (g : Network) (own : ℕ) where
  pub member : (last : Option ℕ) → Reads StandsUnlessLonger (customer_at g last) (λ n. decimal n) (MemberIs g last) (UpTo greatest_number) NoDigit
  member last = ranged greatest_number (λ n. is_customer_node g n && is_above last n) (omega arith)

  abbrev pub now : Bool → ℕ → Bool
  now had n = had || nat_eq n own

  abbrev pub by_mark : ℕ → Bool → ℕ → ℕ → Bool × (List ℕ × ℕ) → Result (List ℕ × (List ℕ × ℕ)) TextFault
  by_mark most had at before marked = if marked.0 then few_own g own most had (Some before) marked.1 else own_end had at marked.1

  -- what stands behind a member
  abbrev pub own_behind : ℕ → Bool → ℕ → ℕ → List ℕ × ℕ → Result (List ℕ × (List ℕ × ℕ)) TextFault
  own_behind most had at before s = and_then (optional_at (44 ∷ []) s) (by_mark most had at before)

  abbrev pub in_front_of : ℕ → List ℕ × (List ℕ × ℕ) → Result (List ℕ × (List ℕ × ℕ)) TextFault
  in_front_of n others = Ok (n ∷ others.0, others.1)

  abbrev pub onward : ℕ → Bool → ℕ → ℕ × (List ℕ × ℕ) → Result (List ℕ × (List ℕ × ℕ)) TextFault
  onward most had at first = and_then (own_behind most (now had first.0) at first.0 first.1) (in_front_of first.0)

  -- customers in rising order, one at least, with the own one among them or before
  abbrev FewFit : Bool → Option ℕ → List ℕ → Type 0
  FewFit had last [] = ⊥
  FewFit had last (n ∷ ns) = AllFrom (MemberIs g) next_member last (n ∷ ns) × ((had || has (n ∷ ns) own) ≡ true)

  one_fits : (had : Bool) (last : Option ℕ) (n : ℕ) → MemberIs g last n → now had n ≡ true → FewFit had last (n ∷ [])
  one_fits had last n is told = ((is, tt), ap (λ b. had || b) (or_none (nat_eq n own)) ∙ told)

  one_told : (had : Bool) (last : Option ℕ) (n : ℕ) → FewFit had last (n ∷ []) → now had n ≡ true
  one_told had last n fits = ap (λ b. had || b) (sym (or_none (nat_eq n own))) ∙ fits.1

  more_fit : (had : Bool) (last : Option ℕ) (n : ℕ) (ns : List ℕ) → MemberIs g last n → FewFit (now had n) (Some n) ns → FewFit had last (n ∷ ns)
  more_fit had last n [] is fits = absurd fits
  more_fit had last n (m ∷ ms) is fits = ((is, fits.0), or_more had (nat_eq n own) (has (m ∷ ms) own) ∙ fits.1)

  others_fit : (had : Bool) (last : Option ℕ) (n m : ℕ) (ms : List ℕ) → FewFit had last (n ∷ m ∷ ms) → FewFit (now had n) (Some n) (m ∷ ms)
  others_fit had last n m ms fits = (fits.0.1, sym (or_more had (nat_eq n own) (has (m ∷ ms) own)) ∙ fits.1)

  more_text_of : (had : Bool) (last : Option ℕ) (n : ℕ) (ns rest : List ℕ) → FewFit had last ns → decimal n ++ (44 ∷ (own_text ns ++ rest)) ≡ own_text (n ∷ ns) ++ rest
  more_text_of had last n [] rest fits = absurd fits
  more_text_of had last n (m ∷ ms) rest fits = sym (more_text n m ms rest)

  -- what was taken stands there
  few_stand : (most : ℕ) (had : Bool) (last : Option ℕ) (s t : List ℕ × ℕ) (items : List ℕ) → few_own g own most had last s ≡ Ok (items, t) → FewFit had last items × (rest_of s ≡ own_text items ++ rest_of t)
  few_stand zero had last s t items is = absurd (Err-ne-Ok (End s.1) (items, t) is)
  few_stand (suc most) had last s t items is =
      let first = and_then-ok (customer_at g last s) (onward most had s.1) (items, t) is in
      let n = first.0.0 in
      let u = first.0.1 in
      let front = (member last).standing s u n first.1 in
      let others = and_then-ok (own_behind most (now had n) s.1 n u) (in_front_of n) (items, t) first.2 in
      let marked = and_then-ok (optional_at (44 ∷ []) u) (by_mark most (now had n) s.1 n) others.0 others.1 in
      subst (λ (found : List ℕ × (List ℕ × ℕ)). FewFit had last found.0 × (rest_of s ≡ own_text found.0 ++ rest_of found.1)) {x = (n ∷ others.0.0, others.0.1)} {y = (items, t)}
      (Ok-injective (n ∷ others.0.0, others.0.1) (items, t) others.2)
      (by n u front.0 front.1 marked.0 others.0 marked.1 marked.2 (few_stand most))
    where
      at_end : (n : ℕ) (u : List ℕ × ℕ) → MemberIs g last n → rest_of s ≡ decimal n ++ rest_of u → (told : Bool) → now had n ≡ told → (found : List ℕ × (List ℕ × ℕ)) → own_end told s.1 u ≡ Ok found
          → FewFit had last (n ∷ found.0) × (rest_of s ≡ own_text (n ∷ found.0) ++ rest_of found.1)
      at_end n u is front true told found e =
          let word = and_then-ok (word_at (10 ∷ []) u) (λ v. Ok ([], v)) found e in
          subst (λ (f : List ℕ × (List ℕ × ℕ)). FewFit had last (n ∷ f.0) × (rest_of s ≡ own_text (n ∷ f.0) ++ rest_of f.1)) {x = ([], word.0)} {y = found} (Ok-injective ([], word.0) found word.2)
          (one_fits had last n is told, front ∙ ap (λ xs. decimal n ++ xs) (TakesWord-from_word_at (10 ∷ []) u word.0 word.1).standing ∙ sym (one_text n (rest_of word.0)))
      at_end n u is front false told found e = absurd (lacking (nat_eq (length (rest_of u)) 0) e)
        where
          lacking : (none : Bool) → (let r : Result (List ℕ × (List ℕ × ℕ)) TextFault = if none then Err (End u.1) else Err (TooLarge s.1) in r) ≡ Ok found → ⊥
          lacking true e = Err-ne-Ok (End u.1) found e
          lacking false e = Err-ne-Ok (TooLarge s.1) found e

      by : (n : ℕ) (u : List ℕ × ℕ) → MemberIs g last n → rest_of s ≡ decimal n ++ rest_of u → (marked : Bool × (List ℕ × ℕ)) (found : List ℕ × (List ℕ × ℕ)) → optional_at (44 ∷ []) u ≡ Ok marked → by_mark most (now had n) s.1 n marked ≡ Ok found
          → ((later_had : Bool) (later : Option ℕ) (v w : List ℕ × ℕ) (ns : List ℕ) → few_own g own most later_had later v ≡ Ok (ns, w) → FewFit later_had later ns × (rest_of v ≡ own_text ns ++ rest_of w))
          → FewFit had last (n ∷ found.0) × (rest_of s ≡ own_text (n ∷ found.0) ++ rest_of found.1)
      by n u is front (true, v) found mark e later =
          let rest = later (now had n) (Some n) v found.1 found.0 e in (
            more_fit had last n found.0 is rest.0,
            front ∙ ap (λ xs. decimal n ++ xs) ((optional_taken (44 ∷ []) u v mark).0 ∙ ap (λ xs. 44 ∷ xs) rest.1) ∙ more_text_of (now had n) (Some n) n found.0 (rest_of found.1) rest.0,
          )
      by n u is front (false, v) found mark e later =
          let same : v ≡ u = optional_left (44 ∷ []) u v mark in
          at_end n u is front (now had n) refl found (ap (own_end (now had n) s.1) (sym same) ∙ e)

  -- what stands there is taken
  few_taken : (most : ℕ) (had : Bool) (last : Option ℕ) (items rest : List ℕ) (s : List ℕ × ℕ) → length items ≤ most → FewFit had last items → rest_of s ≡ own_text items ++ rest → Takes (few_own g own most had last s) items rest
  few_taken most had last [] rest s fewer fits e = absurd fits
  few_taken zero had last (n ∷ ns) rest s fewer fits e = absurd (omega (arith, fewer))
  few_taken (suc most) had last (n ∷ []) rest s fewer fits e =
      let first = (member last).taken n (10 ∷ rest) s fits.0.0 refl (e ∙ one_text n rest) in
      let told : now had n ≡ true = one_told had last n fits in
      let none = optional_is_none 44 10 [] rest first.after first.left (λ same. omega arith) in
      let word = word_read (10 ∷ []) rest first.after first.left in
      let ended : own_end (now had n) s.1 first.after ≡ Ok ([], past (10 ∷ []) first.after) = ap (λ b. own_end b s.1 first.after) told ∙ ap (λ r. and_then r (λ v. Ok ([], v))) word.0 in
      record {
        after = past (10 ∷ []) first.after;
        is = ap (λ r. and_then r (onward most had s.1)) first.is
            ∙ ap (λ r. and_then (and_then r (by_mark most (now had n) s.1 n)) (in_front_of n)) none
            ∙ ap (λ r. and_then r (in_front_of n)) ended;
        left = word.1;
      }
  few_taken (suc most) had last (n ∷ m ∷ ms) rest s fewer fits e =
      let behind_mark = own_text (m ∷ ms) ++ rest in
      let first = (member last).taken n (44 ∷ behind_mark) s fits.0.0 refl (e ∙ more_text n m ms rest) in
      let mark = optional_stands (44 ∷ []) behind_mark first.after first.left in
      let more = few_taken most (now had n) (Some n) (m ∷ ms) rest (past (44 ∷ []) first.after) (omega (arith, fewer)) (others_fit had last n m ms fits) (word_read (44 ∷ []) behind_mark first.after first.left).1 in
      record {
        after = more.after;
        is = ap (λ r. and_then r (onward most had s.1)) first.is
            ∙ ap (λ r. and_then (and_then r (by_mark most (now had n) s.1 n)) (in_front_of n)) mark
            ∙ ap (λ r. and_then r (in_front_of n)) more.is;
        left = more.left;
      }

  -- the end of a set is read as before in a text that goes on
  end_stays : (told : Bool) (at : ℕ) (more : List ℕ) (s : List ℕ × ℕ) → Within s → Stays StandsUnlessLonger more s (own_end told at s) (own_end told at (grown more s))
  end_stays true at more s within = stays-word StandsUnlessLonger 10 [] more s (λ u. Ok ([], u)) (λ u. Ok ([], u)) within (λ u still. (refl, still, λ none. none, λ some. refl))
  end_stays false at more s within = by (rest_of s) refl
    where
      by : (rest : List ℕ) → rest_of s ≡ rest → Stays StandsUnlessLonger more s (own_end false at s) (own_end false at (grown more s))
      by [] is =
          let here : nat_eq (length (rest_of s)) 0 ≡ true = ap (λ (xs : List ℕ). nat_eq (length xs) 0) is in
          subst (λ (b : Bool). Stays StandsUnlessLonger more s (if b then Err (End s.1) else Err (TooLarge at)) (own_end false at (grown more s))) (sym here) (λ none no_end. no_end, λ no_end still. absurd no_end)
      by (b ∷ bs) is =
          let here : nat_eq (length (rest_of s)) 0 ≡ false = some_bytes b bs (rest_of s) is in
          let grows : rest_of (grown more s) ≡ b ∷ (bs ++ more) = rest_of-grown more s within ∙ ap (λ xs. xs ++ more) is in
          let there : nat_eq (length (rest_of (grown more s))) 0 ≡ false = some_bytes b (bs ++ more) (rest_of (grown more s)) grows in
          let later : own_end false at (grown more s) ≡ Err (TooLarge at) = ap (λ (c : Bool). let r : Result (List ℕ × (List ℕ × ℕ)) TextFault = if c then Err (End s.1) else Err (TooLarge at) in r) there in
          subst (λ (c : Bool). Stays StandsUnlessLonger more s (if c then Err (End s.1) else Err (TooLarge at)) (own_end false at (grown more s))) (sym here)
          (λ none no_end. (let same : b ∷ bs ≡ [] = sym is ∙ none in cc), λ no_end still. later)

  -- a text that goes on is read as before; a longer text allows more items
  few_stay : (most most_later : ℕ) (had : Bool) (last : Option ℕ) (more : List ℕ) (s : List ℕ × ℕ) → most ≤ most_later → Within s → Stays StandsUnlessLonger more s (few_own g own most had last s) (few_own g own most_later had last (grown more s))
  few_stay zero most_later had last more s le within = (λ none no_end. no_end, λ no_end still. absurd no_end)
  few_stay (suc most) zero had last more s le within = absurd (omega (arith, le))
  few_stay (suc most) (suc most_later) had last more s le within =
      stays-then StandsUnlessLonger more s (customer_at g last s) (customer_at g last (grown more s)) (onward most had s.1) (onward most_later had s.1) ((member last).stays more s within)
      (λ n u is inside. stays-then StandsUnlessLonger more u (own_behind most (now had n) s.1 n u) (own_behind most_later (now had n) s.1 n (grown more u)) (in_front_of n) (in_front_of n)
      (stays-then StandsUnlessLonger more u (optional_at (44 ∷ []) u) (optional_at (44 ∷ []) (grown more u)) (by_mark most (now had n) s.1 n) (by_mark most_later (now had n) s.1 n)
      (stays-of_keeps StandsUnlessLonger more u (optional_at (44 ∷ []) u) (optional_at (44 ∷ []) (grown more u)) (keeps-optional 44 more u inside))
      (λ marked v mark still. by n marked v still (λ later last_one w held. few_stay most most_later later last_one more w (omega (arith, le)) held)))
      (λ others v found still. (refl, still, λ none. none, λ some. refl)))
    where
      by : (n : ℕ) (marked : Bool) (v : List ℕ × ℕ) → Within v → ((later : Bool) (last_one : Option ℕ) (w : List ℕ × ℕ) → Within w → Stays StandsUnlessLonger more w (few_own g own most later last_one w) (few_own g own most_later later last_one (grown more w)))
          → Stays StandsUnlessLonger more v (by_mark most (now had n) s.1 n (marked, v)) (by_mark most_later (now had n) s.1 n (marked, grown more v))
      by n true v inside later = later (now had n) (Some n) v inside
      by n false v inside later = end_stays (now had n) s.1 more v inside

  abbrev Language : List ℕ → Type 0
  Language = IsTextOf own_text NearSetLoose

  some_set : Language (own_text (0 ∷ []))
  some_set = (0 ∷ [], (omega arith, All-nil (UpTo greatest_number)), refl)

  alone : (n : ℕ) → n ≤ greatest_number → Language (decimal n ++ 10 ∷ [])
  alone n small = (n ∷ [], (small, All-nil (UpTo greatest_number)), sym (append-nil (own_text (n ∷ []))) ∙ one_text n [])

  one_more : (n : ℕ) → n ≤ greatest_number → (front : List ℕ) → Begins Language front → Begins (behind (44 ∷ []) (behind (decimal n) Language)) front
  one_more n small front begins = by begins.1.0 begins.1.1 begins.1.2
    where
      by : (nodes : List ℕ) → NearSetLoose nodes → own_text nodes ≡ front ++ begins.0 → Begins (behind (44 ∷ []) (behind (decimal n) Language)) front
      by [] loose is = absurd loose
      by (m ∷ ms) loose is = (
        begins.0,
        (
          n ∷ m ∷ ms,
          (small, All-cons (UpTo greatest_number) m ms loose.0 loose.1),
          sym (append-nil (own_text (n ∷ m ∷ ms))) ∙ more_text n m ms [] ∙ ap (λ xs. decimal n ++ (44 ∷ xs)) (append-nil (own_text (m ∷ ms)) ∙ is),
        ),
      )

  -- what stands before a fault can be continued
  few_mended : (most : ℕ) (had : Bool) (last : Option ℕ) (s : List ℕ × ℕ) (fault : TextFault) → Within s → length (rest_of s) ≤ most → few_own g own most had last s ≡ Err fault → IsMended Language s fault
  few_mended zero had last s fault within le is =
      let same : End s.1 ≡ fault = cc in
      mended-here Language s fault (own_text (0 ∷ [])) some_set (ap fault_place (sym same))
      (λ end. (own_text (0 ∷ []), subst Language (ap (λ xs. xs ++ own_text (0 ∷ [])) (sym (no_bytes (rest_of s) (omega (arith, le))))) some_set))
  few_mended (suc most) had last s fault within le is =
      elim (fault_of_two (customer_at g last s) (onward most had s.1) fault is) [
        | inl none ↦ mended-map (IsTextOf (λ n. decimal n) (UpTo greatest_number)) Language s fault first ((member last).mended s fault within none)
        | inr h ↦ by h.0.0 h.0.1 h.1 (of_others h.0.0 h.0.1 h.2) (λ later last_one v inside fewer. few_mended most later last_one v fault inside fewer)
      ]
    where
      first : (front : List ℕ) → Begins (IsTextOf (λ n. decimal n) (UpTo greatest_number)) front → Begins Language front
      first front begins = (begins.0 ++ 10 ∷ [], subst Language (ap (λ xs. xs ++ 10 ∷ []) begins.1.2 ∙ append_assoc front begins.0 (10 ∷ [])) (alone begins.1.0 begins.1.1))

      of_others : (n : ℕ) (u : List ℕ × ℕ) → onward most had s.1 (n, u) ≡ Err fault → own_behind most (now had n) s.1 n u ≡ Err fault
      of_others n u refused = elim (fault_of_two (own_behind most (now had n) s.1 n u) (in_front_of n) fault refused) [ inl none ↦ none | inr h ↦ absurd (Err-ne-Ok fault (n ∷ h.0.0, h.0.1) (sym h.2)) ]

      by : (n : ℕ) (u : List ℕ × ℕ) → customer_at g last s ≡ Ok (n, u) → own_behind most (now had n) s.1 n u ≡ Err fault
          → ((later : Bool) (last_one : Option ℕ) (v : List ℕ × ℕ) → Within v → length (rest_of v) ≤ most → few_own g own most later last_one v ≡ Err fault → IsMended Language v fault)
          → IsMended Language s fault
      by n u found refused later =
          elim (fault_of_two (optional_at (44 ∷ []) u) (by_mark most (now had n) s.1 n) fault refused) [
            | inl none ↦ absurd (optional_never_fails (44 ∷ []) u fault none)
            | inr h ↦ marked h.0.0 h.0.1 h.1 h.2
          ]
        where
          stands : rest_of s ≡ decimal n ++ rest_of u
          stands = ((member last).standing s u n found).1

          moves : (u.1 ≡ s.1 + length (decimal n)) × Within u × (u.0 ≡ s.0)
          moves = reads-moves StandsUnlessLonger (customer_at g last) (λ n. decimal n) (MemberIs g last) (UpTo greatest_number) NoDigit (member last) s u n within found

          small : n ≤ greatest_number
          small = (member last).loose n ((member last).standing s u n found).0

          ended : (told : Bool) → own_end told s.1 u ≡ Err fault → IsMended Language s fault
          ended true e =
              mended-behind Language s fault (decimal n) u stands moves.0
              (elim (fault_of_two (word_at (10 ∷ []) u) (λ v. Ok ([], v)) fault e) [
                | inl none ↦ mended-word (behind (decimal n) Language) u fault (10 ∷ []) [] none (alone n small)
                | inr h ↦ absurd (Err-ne-Ok fault ([], h.0) (sym h.2))
              ])
          ended false e = lacking (rest_of u) refl
            where
              lacking : (rest : List ℕ) → rest_of u ≡ rest → IsMended Language s fault
              lacking [] none =
                  let here : nat_eq (length (rest_of u)) 0 ≡ true = ap (λ (xs : List ℕ). nat_eq (length xs) 0) none in
                  let early : Err (End u.1) ≡ Err fault = ap (λ (b : Bool). let r : Result (List ℕ × (List ℕ × ℕ)) TextFault = if b then Err (End u.1) else Err (TooLarge s.1) in r) (sym here) ∙ e in
                  let same : End u.1 ≡ fault = cc in
                  mended-behind Language s fault (decimal n) u stands moves.0
                  (mended-here (behind (decimal n) Language) u fault (10 ∷ []) (alone n small) (ap fault_place (sym same)) (λ end. (10 ∷ [], subst (λ (xs : List ℕ). Language (decimal n ++ (xs ++ 10 ∷ []))) (sym none) (alone n small))))
              lacking (b ∷ bs) some =
                  let here : nat_eq (length (rest_of u)) 0 ≡ false = some_bytes b bs (rest_of u) some in
                  let large : Err (TooLarge s.1) ≡ Err fault = ap (λ (b : Bool). let r : Result (List ℕ × (List ℕ × ℕ)) TextFault = if b then Err (End u.1) else Err (TooLarge s.1) in r) (sym here) ∙ e in
                  let same : TooLarge s.1 ≡ fault = cc in
                  mended-here Language s fault (own_text (0 ∷ [])) some_set (ap fault_place (sym same)) (λ end. absurd (end (subst IsNoEnd same tt)))

          marked : (mark : Bool) (v : List ℕ × ℕ) → optional_at (44 ∷ []) u ≡ Ok (mark, v) → by_mark most (now had n) s.1 n (mark, v) ≡ Err fault → IsMended Language s fault
          marked false v mark e =
              let same : v ≡ u = optional_left (44 ∷ []) u v mark in
              ended (now had n) (ap (own_end (now had n) s.1) (sym same) ∙ e)
          marked true v mark e =
              let takes = optional_taken (44 ∷ []) u v mark in
              let inside : Within v = subst Within (sym takes.1) (past_within (44 ∷ []) (rest_of v) u moves.1 takes.0) in
              let shorter : length (rest_of u) ≡ suc (length (rest_of v)) = ap (λ xs. length xs) takes.0 in
              let fewer : length (rest_of v) ≤ most = omega (arith, le, shorter, ap (λ xs. length xs) stands, length-append (decimal n) (rest_of u)) in
              mended-behind Language s fault (decimal n) u stands moves.0
              (mended-behind (behind (decimal n) Language) u fault (44 ∷ []) v takes.0 (ap (λ (w : List ℕ × ℕ). w.1) takes.1)
              (mended-map Language (behind (44 ∷ []) (behind (decimal n) Language)) v fault (one_more n small) (later (now had n) (Some n) v inside fewer e)))

  -- ---- the set as a whole

  -- a set that has the own customer
  abbrev pub OwnSetIs : List ℕ → Type 0
  OwnSetIs nodes = SetIs g nodes × (has nodes own ≡ true)

  to_few : (nodes : List ℕ) → OwnSetIs nodes → FewFit false None nodes
  to_few [] is = absurd (false≢true is.1)
  to_few (n ∷ ns) is = is

  from_few : (nodes : List ℕ) → FewFit false None nodes → OwnSetIs nodes
  from_few [] fits = absurd fits
  from_few (n ∷ ns) fits = fits

  abbrev unless_empty : List ℕ × ℕ → Bool × (List ℕ × ℕ) → Result (List ℕ × (List ℕ × ℕ)) TextFault
  unless_empty s marked = if marked.0 then Err (TooLarge s.1) else few_own g own (length s.0) false None marked.1

  own_stands : (s t : List ℕ × ℕ) (nodes : List ℕ) → own_set_at g own s ≡ Ok (nodes, t) → OwnSetIs nodes × (rest_of s ≡ own_text nodes ++ rest_of t)
  own_stands s t nodes is =
      let marked = and_then-ok (optional_at (45 ∷ []) s) (unless_empty s) (nodes, t) is in
      by marked.0.0 marked.0.1 marked.1 marked.2
    where
      by : (mark : Bool) (u : List ℕ × ℕ) → optional_at (45 ∷ []) s ≡ Ok (mark, u) → unless_empty s (mark, u) ≡ Ok (nodes, t) → OwnSetIs nodes × (rest_of s ≡ own_text nodes ++ rest_of t)
      by true u mark e = absurd (Err-ne-Ok (TooLarge s.1) (nodes, t) e)
      by false u mark e =
          let few = few_stand (length s.0) false None u t nodes e in
          (from_few nodes few.0, ap rest_of (sym (optional_left (45 ∷ []) s u mark)) ∙ few.1)

  fewer_than_bytes : (nodes : List ℕ) (rest : List ℕ) → length nodes ≤ length (own_text nodes ++ rest)
  fewer_than_bytes [] rest = omega arith
  fewer_than_bytes (n ∷ []) rest = omega (arith, ap (λ (xs : List ℕ). length xs) (one_text n rest), length-append (decimal n) (10 ∷ rest))
  fewer_than_bytes (n ∷ m ∷ ms) rest = let less = fewer_than_bytes (m ∷ ms) rest in omega (arith, less, ap (λ (xs : List ℕ). length xs) (more_text n m ms rest), length-append (decimal n) (44 ∷ (own_text (m ∷ ms) ++ rest)))

  no_minus : (nodes rest : List ℕ) → OwnSetIs nodes → BeginsOtherwise 45 (own_text nodes ++ rest)
  no_minus [] rest is = absurd (false≢true is.1)
  no_minus (n ∷ []) rest is = subst (BeginsOtherwise 45) (sym (one_text n rest)) (number_is_no_mark 45 n (10 ∷ rest) refl (omega (arith, is.0.0.0)))
  no_minus (n ∷ m ∷ ms) rest is = subst (BeginsOtherwise 45) (sym (more_text n m ms rest)) (number_is_no_mark 45 n (44 ∷ (own_text (m ∷ ms) ++ rest)) refl (omega (arith, is.0.0.0)))

  own_taken : (nodes rest : List ℕ) (s : List ℕ × ℕ) → OwnSetIs nodes → rest_of s ≡ own_text nodes ++ rest → Takes (own_set_at g own s) nodes rest
  own_taken nodes rest s is e =
      let none = optional_is_left 45 [] (own_text nodes ++ rest) s e (no_minus nodes rest is) in
      let fewer : length nodes ≤ length s.0 = omega (arith, fewer_than_bytes nodes rest, ap (λ (xs : List ℕ). length xs) e, length-drop s.1 s.0) in
      let few = few_taken (length s.0) false None nodes rest s fewer (to_few nodes is) e in
      record { after = few.after; is = ap (λ r. and_then r (unless_empty s)) none ∙ few.is; left = few.left }

  own_stay : (more : List ℕ) (s : List ℕ × ℕ) → Within s → Stays StandsUnlessLonger more s (own_set_at g own s) (own_set_at g own (grown more s))
  own_stay more s within = by (optional_at (45 ∷ []) s) refl (keeps-optional 45 more s within)
    where
      by : (here : Result (Bool × (List ℕ × ℕ)) TextFault) → optional_at (45 ∷ []) s ≡ here → Keeps more s here (optional_at (45 ∷ []) (grown more s)) → Stays StandsUnlessLonger more s (and_then here (unless_empty s)) (own_set_at g own (grown more s))
      by (Err fault) is keeps = absurd (optional_never_fails (45 ∷ []) s fault is)
      by (Ok (true, t)) is keeps =
          let stands = (optional_taken (45 ∷ []) s t is).0 in
          let grows : rest_of (grown more s) ≡ (45 ∷ []) ++ (rest_of t ++ more) = rest_of-grown more s within ∙ ap (λ xs. xs ++ more) stands in (
            λ none no_end. (let same : 45 ∷ rest_of t ≡ [] = sym stands ∙ none in cc),
            λ no_end still. ap (λ r. and_then r (unless_empty (grown more s))) (optional_stands (45 ∷ []) (rest_of t ++ more) (grown more s) grows),
          )
      by (Ok (false, t)) is keeps =
          let same : t ≡ s = optional_left (45 ∷ []) s t is in
          subst (λ (r : Result (Bool × (List ℕ × ℕ)) TextFault). Stays StandsUnlessLonger more s (and_then r (unless_empty s)) (own_set_at g own (grown more s))) is
          (stays-then StandsUnlessLonger more s (optional_at (45 ∷ []) s) (optional_at (45 ∷ []) (grown more s)) (unless_empty s) (unless_empty (grown more s))
          (stays-of_keeps StandsUnlessLonger more s (optional_at (45 ∷ []) s) (optional_at (45 ∷ []) (grown more s)) (keeps-optional 45 more s within))
          (λ mark u found inside. unmarked mark u (Ok-injective (false, t) (mark, u) (sym is ∙ found)) inside))
        where
          unmarked : (mark : Bool) (u : List ℕ × ℕ) → ◌≡◌ {A = Bool × (List ℕ × ℕ)} (false, t) (mark, u) → Within u → Stays StandsUnlessLonger more u (unless_empty s (mark, u)) (unless_empty (grown more s) (mark, grown more u))
          unmarked true u same inside = absurd (false≢true (ap (λ (p : Bool × (List ℕ × ℕ)). p.0) same))
          unmarked false u same inside = few_stay (length s.0) (length (s.0 ++ more)) false None more u (omega (arith, length-append s.0 more)) inside

  own_mended : (s : List ℕ × ℕ) (fault : TextFault) → Within s → own_set_at g own s ≡ Err fault → IsMended Language s fault
  own_mended s fault within is = elim (fault_of_two (optional_at (45 ∷ []) s) (unless_empty s) fault is) [
    | inl none ↦ absurd (optional_never_fails (45 ∷ []) s fault none)
    | inr h ↦ by h.0.0 h.0.1 h.1 h.2
  ]
    where
      by : (mark : Bool) (u : List ℕ × ℕ) → optional_at (45 ∷ []) s ≡ Ok (mark, u) → unless_empty s (mark, u) ≡ Err fault → IsMended Language s fault
      by true u mark e =
          let same : TooLarge s.1 ≡ fault = cc in
          mended-here Language s fault (own_text (0 ∷ [])) some_set (ap fault_place (sym same)) (λ end. absurd (end (subst IsNoEnd same tt)))
      by false u mark e =
          let same : u ≡ s = optional_left (45 ∷ []) s u mark in
          few_mended (length s.0) false None s fault within (omega (arith, length-drop s.1 s.0)) (ap (few_own g own (length s.0) false None) (sym same) ∙ e)

  pub reads-own : Reads StandsUnlessLonger (own_set_at g own) own_text OwnSetIs NearSetLoose Anything
  reads-own = record {
    example = (0 ∷ [], (omega arith, All-nil (UpTo greatest_number)));
    loose = loosened;
    standing = own_stands;
    taken = λ nodes rest s is any e. own_taken nodes rest s is e;
    stays = own_stay;
    mended = own_mended;
  }
    where
      all_loose : (last : Option ℕ) (nodes : List ℕ) → AllFrom (MemberIs g) next_member last nodes → All (UpTo greatest_number) nodes
      all_loose last [] all = All-nil (UpTo greatest_number)
      all_loose last (n ∷ ns) all = All-cons (UpTo greatest_number) n ns all.0.0 (all_loose (Some n) ns all.1)

      loosened : (nodes : List ℕ) → OwnSetIs nodes → NearSetLoose nodes
      loosened [] is = absurd (false≢true is.1)
      loosened (n ∷ ns) is = (is.0.0.0, all_loose (Some n) ns is.0.1)
