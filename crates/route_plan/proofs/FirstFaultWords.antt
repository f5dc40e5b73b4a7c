-- The fault of the text of a route's word is the first from the left.
use Rattle.std.proofs.Common.{◌≡◌, ◌≢◌, ◌∙◌, inl, inr, ℕ, zero, suc, ◌+◌, ◌^◌, ◌<◌, ◌≤◌, ◌==◌, true, false, List, [], ◌∷◌, ◌++◌, decimal, length, length-append, length-drop, take, Result, Ok, Err, refl, sym, ap, subst, append_assoc, append-nil, arith}
use Rattle.std.specs.List.{All}
use Rattle.std.proofs.Math.Seq.{take-append_seam}
use Rattle.std.proofs.lemmas.Bool.{cases_eq, eq-eqb, ne_eqb}
use Rattle.std.proofs.lemmas.List.Elements.{All-cons, All-head, All-nil, All-tail}
use Rattle.ev_text.specs.Numerals.{BeginsWithoutDigit}
use Rattle.ev_text.specs.Scans.{and_then, rest_of, whole_at, word_at, TakesNumber, TakesWord}
use Rattle.ev_text.specs.declared.TextFault.{TextFault}
use Rattle.ev_text.specs.declared.TextFault.TheVariants.{NotWhole, TooLarge, Word}
use Rattle.ev_text.proofs.Readings.{TakesNumber-from_whole_at, TakesWord-from_word_at, number_read, same_number, whole_at-cases, word_at-word}
use Rattle.ev_text.specs.Texts.{Begins, IsNoEnd, fault_place}
use Rattle.route_plan.specs.RouteWords.{BeginsRouteWord, SpellsRoute, read_comma, more_nodes, read_next, read_node, nodes_in, or_text, with_nodes}
use Rattle.route_plan.specs.declared.route.RouteFault.{RouteFault}
use Rattle.route_plan.specs.declared.route.RouteFault.TheVariants.{Text}
use Rattle.ev_text.proofs.Grown.{Keeps, Within, grown, past_within, rest_of-grown}
use Rattle.ev_text.proofs.Mended.{IsMended, behind, mended-behind, mended-here, mended-map}
use Rattle.ev_text.proofs.Results.{Err-ne-Ok, and_then-ok, fault_of_two}
use Rattle.ev_text.proofs.GrownNumbers.{keeps-whole}
use Rattle.route_plan.proofs.Spelled.{IsSmall, begins_without_digit, behind_commas, or_text-ok, route_text-cons, small_limit}

-- the words of routes
abbrev IsRouteWord : List ℕ → Type 0
IsRouteWord text = (nodes : List ℕ) × SpellsRoute text nodes

word_of : (n : ℕ) (ns text : List ℕ) → n ≤ 10 ^ 9 → All IsSmall ns → text ≡ decimal n ++ behind_commas ns → IsRouteWord text
word_of n ns text small others is = (n ∷ ns, record { some = λ none. absurd (cc); small = All-cons IsSmall n ns small others; text = is ∙ sym (route_text-cons n ns) })

-- a node in front of a word
in_front : (n : ℕ) (text : List ℕ) → n ≤ 10 ^ 9 → IsRouteWord text → IsRouteWord (decimal n ++ 44 ∷ text)
in_front n text small ([], spells) = absurd (spells.some refl)
in_front n text small (m ∷ ms, spells) = (n ∷ m ∷ ms, record { some = λ none. absurd (cc); small = All-cons IsSmall n (m ∷ ms) small spells.small; text = ap (λ xs. decimal n ++ 44 ∷ xs) spells.text })

-- what follows the first number of a word
record IsBehind (rest : List ℕ) : Type 0 where
  nodes : List ℕ
  small : All IsSmall nodes
  text : rest ≡ behind_commas nodes

after_number : (n : ℕ) (rest : List ℕ) → n ≤ 10 ^ 9 → BeginsWithoutDigit rest → IsRouteWord (decimal n ++ rest) → IsBehind rest
after_number n rest small ended ([], spells) = absurd (spells.some refl)
after_number n rest small ended (m ∷ ms, spells) =
    let little = All-head IsSmall m ms spells.small in
    let spelled : decimal n ++ rest ≡ decimal m ++ behind_commas ms = spells.text ∙ route_text-cons m ms in
    let same = same_number (decimal n ++ rest) n m rest (behind_commas ms) (omega (arith, small)) (omega (arith, little)) (record { spelled = refl; ended = ended }) (record { spelled = spelled; ended = begins_without_digit ms }) in
    record { nodes = ms; small = All-tail IsSmall m ms spells.small; text = same.1 }

after_comma : (n : ℕ) (text : List ℕ) → n ≤ 10 ^ 9 → IsRouteWord (decimal n ++ 44 ∷ text) → IsRouteWord text
after_comma n text small is = let rest = after_number n (44 ∷ text) small refl is in by rest.nodes rest.small rest.text
  where
    by : (ms : List ℕ) → All IsSmall ms → 44 ∷ text ≡ behind_commas ms → IsRouteWord text
    by [] all e = absurd (cc)
    by (m ∷ ms) all e = word_of m ms text (All-head IsSmall m ms all) (All-tail IsSmall m ms all) (cc)

-- the fault of a text in which the word of a route is to stand at the scan: what is before its place can be continued to a word, as
-- before a wrong byte of any text, and if a byte is left there, no continuation mends it
record IsFirst (s : List ℕ × ℕ) (fault : RouteFault) : Type 0 where
  at : ℕ
  is : fault ≡ Text at
  mended : IsMended IsRouteWord s (Word at)
  hopeless : at < length s.0 → Begins IsRouteWord (rest_of s) → ⊥

missing : {A : Type 0} (s : List ℕ × ℕ) (answer : Result A TextFault) (fault : RouteFault) → or_text s answer ≡ Err fault → (other : TextFault) × (answer ≡ Err other) × (fault ≡ Text s.1)
missing s (Ok found) fault is = absurd (Err-ne-Ok fault found (sym is))
missing s (Err other) fault is = (other, refl, cc)

-- a number is missing
module _ (s : List ℕ × ℕ) (within : Within s) where
  no_end : (other : TextFault) → s.1 < length s.0 → whole_at (10 ^ 9) s ≡ Err other → IsNoEnd other
  no_end other less =
      whole_at-cases (10 ^ 9) s (λ r. r ≡ Err other → IsNoEnd other)
      (λ none e. absurd (omega (arith, less, length-drop s.1 s.0, ap (λ xs. length xs) none)))
      (λ some spoiled e. let same : NotWhole s.1 ≡ other = cc in subst IsNoEnd same tt)
      (λ canonical large e. let same : TooLarge s.1 ≡ other = cc in subst IsNoEnd same tt)
      (λ canonical fits e. absurd (cc))

  still_missing : (other : TextFault) → s.1 < length s.0 → whole_at (10 ^ 9) s ≡ Err other → (more : List ℕ) → IsRouteWord (rest_of s ++ more) → ⊥
  still_missing other less is more ([], spells) = spells.some refl
  still_missing other less is more (m ∷ ms, spells) =
      let little = All-head IsSmall m ms spells.small in
      let text : rest_of (grown more s) ≡ decimal m ++ behind_commas ms = rest_of-grown more s within ∙ spells.text ∙ route_text-cons m ms in
      let later = number_read (10 ^ 9) m (behind_commas ms) (grown more s) (omega (arith, little)) little text (begins_without_digit ms) in
      let keeps = subst (λ (r : Result (ℕ × (List ℕ × ℕ)) TextFault). Keeps more s r (whole_at (10 ^ 9) (grown more s))) is (keeps-whole (10 ^ 9) more s within) in
      let refused = keeps.1 (no_end other less is) tt in
      Err-ne-Ok other (m, (s.0 ++ more, s.1 + length (decimal m))) (sym refused ∙ later.0)

  no_number : (fault : RouteFault) → read_node s ≡ Err fault → IsFirst s fault
  no_number fault is =
      let none = missing s (whole_at (10 ^ 9) s) fault is in
      record {
        at = s.1;
        is = none.2;
        mended = mended-here IsRouteWord s (Word s.1) (decimal 0) (word_of 0 [] (decimal 0) (omega arith) (All-nil IsSmall) (sym (append-nil (decimal 0)))) refl (λ end. absurd (end tt));
        hopeless = λ less begins. still_missing none.0 less none.1 begins.0 begins.1;
      }

-- behind a number
module _ (s u : List ℕ × ℕ) (n : ℕ) (takes : TakesNumber (10 ^ 9) n s u) (fault : RouteFault) where
  number_moves : u.1 ≡ s.1 + length (decimal n)
  number_moves = ap (λ (v : List ℕ × ℕ). v.1) takes.moved

  -- the word goes on behind the number
  goes_on : (more : List ℕ) → IsRouteWord (rest_of s ++ more) → IsRouteWord (decimal n ++ (rest_of u ++ more))
  goes_on more = subst IsRouteWord (ap (λ xs. xs ++ more) takes.number.spelled ∙ append_assoc (decimal n) (rest_of u) more)

  no_comma : rest_of u ≢ [] → read_comma u ≡ Err fault → IsFirst s fault
  no_comma some is =
      let none = missing u (word_at (44 ∷ []) u) fault is in
      record {
        at = u.1;
        is = none.2;
        mended =
            mended-behind IsRouteWord s (Word u.1) (decimal n) u takes.number.spelled number_moves
            (mended-here (behind (decimal n) IsRouteWord) u (Word u.1) [] (word_of n [] (decimal n ++ []) takes.within (All-nil IsSmall) refl) refl (λ end. absurd (end tt)));
        hopeless = λ less begins. by none.0 none.1 (rest_of u) refl takes.number.ended begins.0 (goes_on begins.0 begins.1);
      }
    where
      by : (other : TextFault) → word_at (44 ∷ []) u ≡ Err other → (rest : List ℕ) → rest_of u ≡ rest → BeginsWithoutDigit rest → (more : List ℕ) → IsRouteWord (decimal n ++ (rest ++ more)) → ⊥
      by other refused [] e ended more word = some e
      by other refused (b ∷ bs) e ended more word = let after = after_number n (b ∷ bs ++ more) takes.within ended word in comma after.nodes after.text
        where
          comma : (ms : List ℕ) → b ∷ bs ++ more ≡ behind_commas ms → ⊥
          comma [] same = cc
          comma (m ∷ ms) same =
              let first : b ≡ 44 = cc in
              Err-ne-Ok other (u.0, u.1 + 1) (sym refused ∙ word_at-word (44 ∷ []) bs u (e ∙ ap (λ x. x ∷ bs) first))

  behind_comma : (t : List ℕ × ℕ) → TakesWord (44 ∷ []) u t → IsFirst t fault → IsFirst s fault
  behind_comma t comma rest = record {
    at = rest.at;
    is = rest.is;
    mended =
        mended-behind IsRouteWord s (Word rest.at) (decimal n) u takes.number.spelled number_moves
        (mended-behind (behind (decimal n) IsRouteWord) u (Word rest.at) (44 ∷ []) t comma.standing (ap (λ (v : List ℕ × ℕ). v.1) comma.moved)
        (mended-map IsRouteWord (behind (44 ∷ []) (behind (decimal n) IsRouteWord)) t (Word rest.at) (λ text begins. (begins.0, in_front n (text ++ begins.0) takes.within begins.1)) rest.mended));
    hopeless = λ less begins.
        let same : length t.0 ≡ length s.0 = ap (λ (v : List ℕ × ℕ). length v.0) comma.moved ∙ ap (λ (v : List ℕ × ℕ). length v.0) takes.moved in
        rest.hopeless (omega (arith, less, same))
        (begins.0, after_comma n (rest_of t ++ begins.0) takes.within (subst (λ (xs : List ℕ). IsRouteWord (decimal n ++ (xs ++ begins.0))) comma.standing (goes_on begins.0 begins.1)));
  }

with_nodes-err : (first : List ℕ) (answer : Result (List ℕ) RouteFault) (fault : RouteFault) → with_nodes first answer ≡ Err fault → answer ≡ Err fault
with_nodes-err first (Ok rest) fault is = absurd (Err-ne-Ok fault (first ++ rest) (sym is))
with_nodes-err first (Err other) fault is = is

more_within : (s t : List ℕ × ℕ) (word : List ℕ) → Within s → TakesWord word s t → Within t
more_within s t word within takes = subst Within (sym takes.moved) (past_within word (rest_of t) s within takes.standing)

first_of_more : (most : ℕ) (s u : List ℕ × ℕ) (n : ℕ) (fault : RouteFault) → Within s → read_node s ≡ Ok (n, u) → more_nodes most u ≡ Err fault → IsFirst s fault
first_of_more zero s u n fault within found is = absurd (Err-ne-Ok fault [] (sym is))
first_of_more (suc most) s u n fault within found is = elim (cases_eq (length (rest_of u)) 0) [
  | inl none ↦ let at_end : (length (rest_of u) == 0) ≡ true = eq-eqb (length (rest_of u)) 0 none in absurd (Err-ne-Ok fault [] (sym (rw at_end at is)))
  | inr some ↦
      let more : (length (rest_of u) == 0) ≡ false = ne_eqb (length (rest_of u)) 0 some in
      next (λ none. some (ap (λ xs. length xs) none)) (rw more at is) (first_of_more most)
]
  where
    takes : TakesNumber (10 ^ 9) n s u
    takes = TakesNumber-from_whole_at (10 ^ 9) s n u small_limit (or_text-ok s (whole_at (10 ^ 9) s) (n, u) found)

    inside : Within u
    inside = subst Within (sym takes.moved) (past_within (decimal n) (rest_of u) s within takes.number.spelled)

    others : ℕ × (List ℕ × ℕ) → Result (List ℕ) RouteFault
    others found = with_nodes (found.0 ∷ []) (more_nodes most found.1)

    comma : (t : List ℕ × ℕ) → read_comma u ≡ Ok t → TakesWord (44 ∷ []) u t
    comma t is = TakesWord-from_word_at (44 ∷ []) u t (or_text-ok u (word_at (44 ∷ []) u) t is)

    next : rest_of u ≢ [] → and_then (read_next u) others ≡ Err fault
        → ((t v : List ℕ × ℕ) (m : ℕ) (fault : RouteFault) → Within t → read_node t ≡ Ok (m, v) → more_nodes most v ≡ Err fault → IsFirst t fault) → IsFirst s fault
    next some refused later = elim (fault_of_two (read_next u) others fault refused) [
      | inl none ↦ elim (fault_of_two (read_comma u) read_node fault none) [
        | inl none ↦ no_comma s u n takes fault some none
        | inr h ↦ behind_comma s u n takes fault h.0 (comma h.0 h.1) (no_number h.0 (more_within u h.0 (44 ∷ []) inside (comma h.0 h.1)) fault h.2)
      ]
      | inr h ↦
          let t = and_then-ok (read_comma u) read_node h.0 h.1 in
          behind_comma s u n takes fault t.0 (comma t.0 t.1)
          (later t.0 h.0.1 h.0.0 fault (more_within u t.0 (44 ∷ []) inside (comma t.0 t.1)) t.2 (with_nodes-err (h.0.0 ∷ []) (more_nodes most h.0.1) fault h.2))
    ]

first_of_word : (word : List ℕ) (fault : RouteFault) → nodes_in word ≡ Err fault → IsFirst (word, 0) fault
first_of_word word fault is = elim (fault_of_two (read_node (word, 0)) others fault is) [
  | inl none ↦ no_number (word, 0) (omega arith) fault none
  | inr h ↦ first_of_more (length word) (word, 0) h.0.1 h.0.0 fault (omega arith) h.1 (with_nodes-err (h.0.0 ∷ []) (more_nodes (length word) h.0.1) fault h.2)
]
  where
    others : ℕ × (List ℕ × ℕ) → Result (List ℕ) RouteFault
    others found = with_nodes (found.0 ∷ []) (more_nodes (length word) found.1)

pub only_its_text : (word : List ℕ) (fault : RouteFault) → nodes_in word ≡ Err fault → (at : ℕ) × (fault ≡ Text at)
only_its_text word fault is = let first = first_of_word word fault is in (first.at, first.is)

-- what a fault of the bytes says of them
first_fault : (Language : List ℕ → Type 0) (bytes : List ℕ) (fault : TextFault) → IsMended Language (bytes, 0) fault → Begins Language (take (fault_place fault) bytes) × (fault_place fault ≤ length bytes)
first_fault Language bytes fault mended =
    let at : length mended.front ≡ fault_place fault = omega (arith, mended.place) in
    let front : take (fault_place fault) bytes ≡ mended.front = ap (λ n. take n bytes) (sym at) ∙ ap (λ xs. take (length mended.front) xs) mended.parts ∙ take-append_seam mended.front mended.back in
    (subst (Begins Language) (sym front) mended.before, omega (arith, at, ap (λ xs. length xs) mended.parts, length-append mended.front mended.back))

pub first_of_its_text : (word : List ℕ) (at : ℕ) → nodes_in word ≡ Err (Text at) → (at ≤ length word) × BeginsRouteWord (take at word) × (at < length word → BeginsRouteWord word → ⊥)
first_of_its_text word at is =
    let first = first_of_word word (Text at) is in
    let same : first.at ≡ at = let texts = first.is in cc in
    let found = first_fault IsRouteWord word (Word first.at) first.mended in (
      omega (arith, found.1, same),
      subst (λ n. BeginsRouteWord (take n word)) same found.0,
      λ less begins. first.hopeless (omega (arith, less, same)) begins,
    )
