-- A word is read as the nodes that it spells.
use Rattle.std.proofs.Common.{◌≡◌, ◌∙◌, ℕ, zero, suc, ◌+◌, ◌^◌, ◌<◌, ◌≤◌, ◌==◌, true, false, inl, inr, List, [], ◌∷◌, ◌++◌, length, length-append, decimal, Result, Ok, Err, refl, sym, ap, subst, append-nil, arith}
use Rattle.std.specs.List.{All}
use Rattle.std.proofs.lemmas.Bool.{cases_eq, eq-eqb, ne_eqb}
use Rattle.std.proofs.lemmas.List.Elements.{All-cons, All-head, All-nil, All-tail}
use Rattle.ev_text.specs.Numerals.{BeginsWithoutDigit}
use Rattle.ev_text.specs.Scans.{and_then, past, rest_of, whole_at, word_at}
use Rattle.ev_text.specs.declared.TextFault.{TextFault}
use Rattle.ev_text.proofs.Readings.{TakesNumber-from_whole_at, TakesWord-from_word_at, number_read, word_read}
use Rattle.ev_text.proofs.Results.{Err-ne-Ok, Ok-injective, and_then-ok, no_bytes}
use Rattle.route_plan.specs.RouteWords.{SpellsRoute, read_comma, more_nodes, read_next, read_node, nodes_in, or_text, route_text, with_nodes}
use Rattle.route_plan.specs.declared.route.RouteFault.{RouteFault}
use Rattle.route_plan.specs.declared.route.RouteFault.TheVariants.{Text}

abbrev pub IsSmall : ℕ → Type 0
IsSmall node = node ≤ 10 ^ 9

-- each node behind a comma
abbrev pub behind_commas : List ℕ → List ℕ
behind_commas [] = []
behind_commas (n ∷ ns) = 44 ∷ decimal n ++ behind_commas ns

pub route_text-cons : (n : ℕ) (ns : List ℕ) → route_text (n ∷ ns) ≡ decimal n ++ behind_commas ns
route_text-cons n [] = sym (append-nil (decimal n))
route_text-cons n (m ∷ ns) = ap (λ xs. decimal n ++ 44 ∷ xs) (route_text-cons m ns)

pub or_text-ok : {A : Type 0} (s : List ℕ × ℕ) (r : Result A TextFault) (v : A) → or_text s r ≡ Ok v → r ≡ Ok v
or_text-ok s (Ok a) v is = ap (λ x. Ok x) (Ok-injective a v is)
or_text-ok {A} s (Err fault) v is = absurd (Err-ne-Ok {A = A} (Text s.1) v is)

with_nodes-ok : (n : ℕ) (rest : Result (List ℕ) RouteFault) (ns : List ℕ) → with_nodes (n ∷ []) rest ≡ Ok ns → (ms : List ℕ) × (rest ≡ Ok ms) × (ns ≡ n ∷ ms)
with_nodes-ok n (Ok ms) ns is = (ms, refl, sym (Ok-injective (n ∷ ms) ns is))
with_nodes-ok n (Err fault) ns is = absurd (Err-ne-Ok {A = List ℕ} fault ns is)

pub small_limit : 10 ^ 9 < 10 ^ 64
small_limit = omega arith

-- what was read of the nodes that follow is what stands there
record IsFollowed (s : List ℕ × ℕ) (ns : List ℕ) : Type 0 where
  pub text : rest_of s ≡ behind_commas ns
  pub small : All IsSmall ns

node_read : (s t : List ℕ × ℕ) (n : ℕ) → read_node s ≡ Ok (n, t) → (n ≤ 10 ^ 9) × (rest_of s ≡ decimal n ++ rest_of t)
node_read s t n is =
    let takes = TakesNumber-from_whole_at (10 ^ 9) s n t small_limit (or_text-ok s (whole_at (10 ^ 9) s) (n, t) is) in
    (takes.within, takes.number.spelled)

comma_read : (s t : List ℕ × ℕ) → read_comma s ≡ Ok t → rest_of s ≡ 44 ∷ rest_of t
comma_read s t is = (TakesWord-from_word_at (44 ∷ []) s t (or_text-ok s (word_at (44 ∷ []) s) t is)).standing

followed_end : (s : List ℕ × ℕ) (ns : List ℕ) → rest_of s ≡ [] → [] ≡ ns → IsFollowed s ns
followed_end s ns none same = subst (λ (xs : List ℕ). IsFollowed s xs) same (record { text = none; small = All-nil IsSmall })

more_are_followed : (most : ℕ) (s : List ℕ × ℕ) (ns : List ℕ) → length (rest_of s) ≤ most → more_nodes most s ≡ Ok ns → IsFollowed s ns
more_are_followed zero s ns le is = followed_end s ns (no_bytes (rest_of s) (omega (arith, le))) (Ok-injective [] ns is)
more_are_followed (suc most) s ns le is = elim (cases_eq (length (rest_of s)) 0) [
  | inl none ↦
      let at_end : (length (rest_of s) == 0) ≡ true = eq-eqb (length (rest_of s)) 0 none in
      followed_end s ns (no_bytes (rest_of s) none) (Ok-injective [] ns (rw at_end at is))
  | inr some ↦
      let more : (length (rest_of s) == 0) ≡ false = ne_eqb (length (rest_of s)) 0 some in
      let read : and_then (read_next s) (λ found. with_nodes (found.0 ∷ []) (more_nodes most found.1)) ≡ Ok ns = rw more at is in
      let step = and_then-ok (read_next s) (λ (found : ℕ × (List ℕ × ℕ)). with_nodes (found.0 ∷ []) (more_nodes most found.1)) ns read in
      let parts = and_then-ok (read_comma s) read_node step.0 step.1 in
      let rest = with_nodes-ok step.0.0 (more_nodes most step.0.1) ns step.2 in
      followed_on most s parts.0 step.0.1 step.0.0 rest.0 ns le (comma_read s parts.0 parts.1) (node_read parts.0 step.0.1 step.0.0 parts.2) rest.2
      (λ fewer. more_are_followed most step.0.1 rest.0 fewer rest.1)
]
  where
    followed_on : (most : ℕ) (s t u : List ℕ × ℕ) (n : ℕ) (ms ns : List ℕ) → length (rest_of s) ≤ suc most → rest_of s ≡ 44 ∷ rest_of t → (n ≤ 10 ^ 9) × (rest_of t ≡ decimal n ++ rest_of u) → ns ≡ n ∷ ms
        → (length (rest_of u) ≤ most → IsFollowed u ms) → IsFollowed s ns
    followed_on most s t u n ms ns le comma node same later =
        let first : length (rest_of s) ≡ suc (length (rest_of t)) = ap (λ xs. length xs) comma in
        let second : length (rest_of t) ≡ length (decimal n) + length (rest_of u) = ap (λ xs. length xs) node.1 ∙ length-append (decimal n) (rest_of u) in
        let rest = later (omega (arith, le, first, second)) in
        subst (λ (xs : List ℕ). IsFollowed s xs) (sym same) (record {
          text = comma ∙ ap (λ xs. 44 ∷ xs) (node.1 ∙ ap (λ xs. decimal n ++ xs) rest.text);
          small = All-cons IsSmall n ms node.0 rest.small;
        })

-- what was read is what the word spells
pub spells_what_is_read : (word nodes : List ℕ) → nodes_in word ≡ Ok nodes → SpellsRoute word nodes
spells_what_is_read word nodes is =
    let step = and_then-ok (read_node (word, 0)) (λ (found : ℕ × (List ℕ × ℕ)). with_nodes (found.0 ∷ []) (more_nodes (length word) found.1)) nodes is in
    let n = step.0.0 in
    let t = step.0.1 in
    let first = node_read (word, 0) t n step.1 in
    let rest = with_nodes-ok n (more_nodes (length word) t) nodes step.2 in
    let longer : length word ≡ length (decimal n) + length (rest_of t) = ap (λ xs. length xs) first.1 ∙ length-append (decimal n) (rest_of t) in
    let more = more_are_followed (length word) t rest.0 (omega (arith, longer)) rest.1 in
    subst (λ (xs : List ℕ). SpellsRoute word xs) (sym rest.2) (record {
      some = λ none. absurd (omega (arith, ap (λ xs. length xs) none));
      small = All-cons IsSmall n rest.0 first.0 more.small;
      text = first.1 ∙ ap (λ xs. decimal n ++ xs) more.text ∙ sym (route_text-cons n rest.0);
    })

pub begins_without_digit : (ns : List ℕ) → BeginsWithoutDigit (behind_commas ns)
begins_without_digit [] = tt
begins_without_digit (n ∷ ns) = refl

-- the nodes that follow are read
followed_are_read : (most : ℕ) (s : List ℕ × ℕ) (ns : List ℕ) → length (rest_of s) ≤ most → rest_of s ≡ behind_commas ns → All IsSmall ns → more_nodes most s ≡ Ok ns
followed_are_read zero s [] le is small = refl
followed_are_read zero s (n ∷ ns) le is small = absurd (omega (arith, le, ap (λ xs. length xs) is))
followed_are_read (suc most) s [] le is small = rw is refl
followed_are_read (suc most) s (n ∷ ns) le is small =
    let comma = word_read (44 ∷ []) (decimal n ++ behind_commas ns) s is in
    let t = past (44 ∷ []) s in
    let little = All-head IsSmall n ns small in
    let node = number_read (10 ^ 9) n (behind_commas ns) t (omega (arith, little)) little comma.1 (begins_without_digit ns) in
    let u = past (decimal n) t in
    let longer : length (rest_of s) ≡ suc (length (decimal n) + length (behind_commas ns)) = ap (λ xs. length xs) is ∙ ap (λ k. suc k) (length-append (decimal n) (behind_commas ns)) in
    let same : length (rest_of u) ≡ length (behind_commas ns) = ap (λ xs. length xs) node.1 in
    let more : (length (rest_of s) == 0) ≡ false = ne_eqb (length (rest_of s)) 0 (λ none. absurd (omega (arith, none, longer))) in
    let rest = followed_are_read most u ns (omega (arith, le, longer, same)) node.1 (All-tail IsSmall n ns small) in
    rw (more, comma.0, node.0, rest) refl

-- what the word spells is read
pub reads_what_is_spelled : (word nodes : List ℕ) → SpellsRoute word nodes → nodes_in word ≡ Ok nodes
reads_what_is_spelled word [] spells = absurd (spells.some refl)
reads_what_is_spelled word (n ∷ ns) spells =
    let little = All-head IsSmall n ns spells.small in
    let text : rest_of (word, 0) ≡ decimal n ++ behind_commas ns = spells.text ∙ route_text-cons n ns in
    let node = number_read (10 ^ 9) n (behind_commas ns) (word, 0) (omega (arith, little)) little text (begins_without_digit ns) in
    let t = past (decimal n) (word, 0) in
    let longer : length word ≡ length (decimal n) + length (behind_commas ns) = ap (λ xs. length xs) text ∙ length-append (decimal n) (behind_commas ns) in
    let same : length (rest_of t) ≡ length (behind_commas ns) = ap (λ xs. length xs) node.1 in
    let rest = followed_are_read (length word) t ns (omega (arith, longer, same)) node.1 (All-tail IsSmall n ns spells.small) in
    rw (node.0, rest) refl
