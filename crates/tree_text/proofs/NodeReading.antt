-- The reader of the nodes of a tree reads exactly their texts.
use Rattle.std.proofs.Common.{◌≡◌, ◌∙◌, ◌⊎◌, inl, inr, ℕ, ◌+◌, ◌^◌, ◌<◌, ◌≤◌, ℤ, Bool, true, false, ◌&&◌, ◌||◌, not, List, [], ◌∷◌, ◌++◌, Option, None, Some, codes, decimal, length, length-append, nat_eq, nat_lt, refl, sym, ap, subst, append_assoc, arith, if◌then◌else◌}
use Rattle.std.specs.List.{All}
use Rattle.std.proofs.lemmas.List.Elements.{All-cons, All-nil}
use Rattle.ev_model.specs.Network.{Network, scaled_limit}
use Rattle.ev_text.specs.Numbers.{Keeping, UpTo}
use Rattle.ev_text.specs.Numerals.{BeginsWithoutDigit}
use Rattle.ev_text.specs.Readers.{each_from}
use Rattle.ev_text.specs.Texts.{AllFrom, ConsLoose, StandsUnlessLonger, joined_texts, marked_texts}
use Rattle.ev_text.proofs.ChoiceLaws.{BeforeChoice, BeginsOtherwise, other_word}
use Rattle.ev_text.proofs.Choices.{either, parts-either, reads-choice}
use Rattle.ev_text.proofs.EachFromLaws.{reads-each}
use Rattle.ev_text.proofs.Lines.{loose_length, own_length}
use Rattle.ev_text.proofs.MarkedLaws.{ended_text}
use Rattle.ev_text.proofs.Numbers.{Anything, NoDigit, number_is_no_mark, ranged, upto}
use Rattle.ev_text.proofs.ReadingLaws.{Reads}
use Rattle.ev_text.proofs.Records.{parts-behind, parts-last, parts-none, parts-then, reads-record}
use Rattle.route_plan.specs.Limits.{greatest_number}
use Rattle.certificate_parts.specs.Limits.{greatest_weight, most_items}
use Rattle.certificate_parts.specs.Ranges.{IsPrice, customer_count}
use Rattle.certificate_parts.specs.Reading.{customer_at, is_above, is_customer_node, set_behind}
use Rattle.certificate_parts.specs.Texts.{prices_text, set_text}
use Rattle.certificate_parts.specs.WrittenRanges.{MemberIs, next_member}
use Rattle.certificate_parts.proofs.PriceLines.{reads-prices}
use Rattle.certificate_parts.proofs.WrittenBasis.{prices_run}
use Rattle.near_text.specs.NearTexts.{near_line}
use Rattle.near_text.proofs.PartReading.{reads-nears}
use Rattle.near_tree.specs.Branches.{Counted}
use Rattle.near_tree.specs.Ranges.{most_counted}
use Rattle.tree_text.specs.Asked.{AllAsked, tested_at, unless_byte}
use Rattle.tree_text.specs.Reading.{broken_count, count_at, entries_or_leaf, is_between, is_counted, node_at, nodes_at, section_at, split_or_other}
use Rattle.tree_text.specs.TreeTexts.{entry_line, node_text, section_label_text, section_text}
use Rattle.tree_text.specs.Written.{WrittenNode, WrittenSection, WrittenSectionLabel, counted_below, written_entries, written_leaf, written_split}
use Rattle.tree_text.specs.WrittenRanges.{NodeIs, NodeLoose, SectionIs, SectionLabelLoose, SectionLoose, SomeSetIs}
use Rattle.tree_text.proofs.AskedLaws.{reads-asked}
use Rattle.tree_text.proofs.LabelReading.{reads-entries, reads-labels}
use Rattle.tree_text.proofs.TestedLaws.{reads-tested, reads-unless}

-- ---- sections

from_run : (prices : List ℤ) → AllFrom {S = Unit {0}} (λ none price. IsPrice price) (λ none price. none) (tt {0}) prices → All IsPrice prices
from_run [] all = All-nil IsPrice
from_run (p ∷ ps) all = All-cons IsPrice p ps all.0 (from_run ps all.1)

abbrev lines : ℕ → ℕ → List ℤ → List (List ℕ) → List ℤ → List WrittenSectionLabel → List ℕ
lines weight n prices sets entry_prices labels =
    codes "section " ++ (decimal weight ++ (codes " " ++ (decimal n ++ (10 ∷ (prices_text prices ++ (joined_texts near_line sets ++ (joined_texts entry_line entry_prices ++ joined_texts section_label_text labels)))))))

same_section : (weight n : ℕ) (prices : List ℤ) (sets : List (List ℕ)) (entry_prices : List ℤ) (labels : List WrittenSectionLabel) → length labels ≡ n
    → lines weight n prices sets entry_prices labels ≡ section_text (record { weight = weight; prices = prices; sets = sets; entry_prices = entry_prices; labels = labels })
same_section weight n prices sets entry_prices labels many =
    let s : WrittenSection = record { weight = weight; prices = prices; sets = sets; entry_prices = entry_prices; labels = labels } in
    subst (λ (k : ℕ). lines weight k prices sets entry_prices labels ≡ section_text s) many (simp append_assoc)

module _ (g : Network) (small_capacity : g.capacity < 10 ^ 64) (small_limit : scaled_limit g < 10 ^ 64) where
  pub reads-section : (entries : ℕ) → Reads StandsUnlessLonger (section_at g entries) section_text (SectionIs g entries) (SectionLoose g entries) Anything
  reads-section entries =
      reads-record
      (parts-behind 115 (codes "ection ")
      (parts-then (upto greatest_weight (omega arith))
      (λ weight. parts-behind 32 [] (parts-then (upto most_items (omega arith))
      (λ count. parts-behind 10 [] (parts-then (reads-prices g)
      (λ prices. parts-then (reads-nears g (customer_count g) 0)
      (λ sets. parts-then (reads-entries entries)
      (λ entry_prices. parts-last (reads-labels g small_capacity small_limit count) (λ labels. record { weight = weight; prices = prices; sets = sets; entry_prices = entry_prices; labels = labels }))
      (λ entry_prices labels rest are fit any. tt))
      (λ sets more rest are fit any. tt))
      (λ prices more rest are fit any. tt)))
      (λ count more rest is fit any. refl)))
      (λ weight more rest is fit any. refl)))
      (record {
        parts = λ s is. (
          (s.weight, (length s.labels, (s.prices, (s.sets, (s.entry_prices, s.labels))))),
          (is.weight, (is.few, ((prices_run s.prices is.prices, is.one_price), (is.sets, ((is.entry_prices, is.one_entry_price), (is.labels, refl)))))),
          refl,
          λ rest any. tt,
        );
        fits = λ p is. record {
          weight = is.0;
          prices = from_run p.1.1.0 is.1.1.0.0;
          one_price = is.1.1.0.1;
          sets = is.1.1.1.0;
          entry_prices = is.1.1.1.1.0.0;
          one_entry_price = is.1.1.1.1.0.1;
          few = omega (arith, is.1.1.1.1.1.1, is.1.0);
          labels = is.1.1.1.1.1.0;
        };
        loose = λ p is. record {
          weight = is.0;
          prices = is.1.1.0;
          sets = is.1.1.1.0;
          entry_prices = is.1.1.1.1.0;
          few = omega (arith, loose_length (SectionLabelLoose g) p.1.0 p.1.1.1.1.1 is.1.1.1.1.1, is.1.0);
          labels = own_length (SectionLabelLoose g) p.1.0 p.1.1.1.1.1 is.1.1.1.1.1;
        };
        texts = λ p is. same_section p.0 p.1.0 p.1.1.0 p.1.1.1.0 p.1.1.1.1.0 p.1.1.1.1.1 (loose_length (SectionLabelLoose g) p.1.0 p.1.1.1.1.1 is.1.1.1.1.1);
      })

-- ---- counts

abbrev set_line : List ℕ → List ℕ
set_line nodes = set_text nodes ++ 10 ∷ []

abbrev SomeSetLoose : List ℕ → Type 0
SomeSetLoose nodes = ConsLoose (UpTo greatest_number) (All (UpTo greatest_number)) nodes

abbrev count_text : ℕ × List ℕ → List ℕ
count_text c = decimal c.0 ++ (codes " " ++ set_line c.1)

abbrev chosen : Bool → Bool → ℕ → Option ℕ
chosen between other at = if not between then Some 0 else (if other then None else Some at)

not_past : (between other : Bool) (at place : ℕ) → chosen between other at ≡ Some place → place ≤ at
not_past false other at place e = let same : ◌≡◌ {A = ℕ} 0 place = cc in omega (arith, same)
not_past true true at place e = absurd (cc)
not_past true false at place e = let same : at ≡ place = cc in omega (arith, same)

module _ (g : Network) where
  member : (last : Option ℕ) → Reads StandsUnlessLonger (customer_at g last) (λ n. decimal n) (MemberIs g last) (UpTo greatest_number) NoDigit
  member last = ranged greatest_number (λ n. is_customer_node g n && is_above last n) (omega arith)

  others : (first : ℕ) → Reads StandsUnlessLonger (each_from (codes ",") (10 ∷ []) (customer_at g) (λ before node. Some node) (Some first)) (ended_text 44 10 [] (λ n. decimal n)) (AllFrom (MemberIs g) next_member (Some first)) (All (UpTo greatest_number)) Anything
  others first =
      reads-each StandsUnlessLonger 44 10 [] (customer_at g) next_member (λ n. decimal n) (MemberIs g) (UpTo greatest_number) NoDigit member (λ same. omega arith) (λ n rest. refl) (λ n rest. refl) (Some first)

  begins : (nodes : List ℕ) (rest : List ℕ) → BeginsWithoutDigit (ended_text 44 10 [] (λ n. decimal n) nodes ++ rest)
  begins [] rest = refl
  begins (x ∷ xs) rest = refl

  reads-some : Reads StandsUnlessLonger (set_behind g 10 false) set_line (SomeSetIs g) SomeSetLoose Anything
  reads-some =
      reads-record (parts-then (member None) (λ first. parts-last (others first) (λ nodes. first ∷ nodes)) (λ first nodes rest is are any. begins nodes rest))
      (record {
        parts = elim [ [] ↦ λ is. absurd is | x ∷ xs ↦ λ is. ((x, xs), is, refl, λ rest any. tt) ];
        fits = λ p is. is;
        loose = λ p is. is;
        texts = λ p is. sym (append_assoc (decimal p.0) (marked_texts (codes ",") (λ n. decimal n) p.1) (10 ∷ []));
      })

  no_minus : (nodes rest : List ℕ) → SomeSetIs g nodes → BeginsOtherwise 45 (set_line nodes ++ rest)
  no_minus [] rest is = absurd is
  no_minus (x ∷ xs) rest is =
      let others = marked_texts (codes ",") (λ n. decimal n) xs in
      let same : (decimal x ++ (others ++ 10 ∷ [])) ++ rest ≡ set_line (x ∷ xs) ++ rest = ap (λ ys. ys ++ rest) (sym (append_assoc (decimal x) others (10 ∷ []))) in
      subst (BeginsOtherwise 45) {x = decimal x ++ ((others ++ 10 ∷ []) ++ rest)} (sym (append_assoc (decimal x) (others ++ 10 ∷ []) rest) ∙ same) (number_is_no_mark 45 x ((others ++ 10 ∷ []) ++ rest) refl (let small = is.0.0 in omega (arith, small)))

  reads-set_line : Reads StandsUnlessLonger (unless_byte 45 (set_behind g 10 false)) set_line (SomeSetIs g) SomeSetLoose Anything
  reads-set_line = reads-unless StandsUnlessLonger 45 (set_behind g 10 false) set_line (SomeSetIs g) SomeSetLoose reads-some no_minus

  abbrev CountIs : ℕ × List ℕ → Type 0
  CountIs c = (c.0 ≤ customer_count g) × SomeSetIs g c.1

  abbrev CountLoose : ℕ × List ℕ → Type 0
  CountLoose c = (c.0 ≤ customer_count g) × SomeSetLoose c.1

  module _ (few : customer_count g < 10 ^ 64) where
    reads-count : Reads StandsUnlessLonger (count_at g) count_text CountIs CountLoose Anything
    reads-count =
        reads-record
        (parts-then (upto (customer_count g) few) (λ k. parts-behind 32 [] (parts-last reads-set_line (λ set. (k, set)))) (λ k more rest is are any. refl))
        (record {
          parts = λ c is. ((c.0, c.1), (is.0, is.1), refl, λ rest any. tt);
          fits = λ p is. (is.0, is.1);
          loose = λ p is. (is.0, is.1);
          texts = λ p is. refl;
        })

    inside : (counted : List Counted) (c : ℕ × List ℕ) (place : ℕ) → CountIs c → broken_count counted c ≡ Some place → place < length (count_text c)
    inside counted c place is e =
        let le = not_past (is_between counted c.0 c.1) (is_counted counted c.1 || nat_lt (length counted) most_counted) (length (decimal c.0) + 1) place e in
        let one : length (codes " " ++ set_line c.1) ≡ length (set_line c.1) + 1 = omega arith in
        omega (arith, le, one, length-append (decimal c.0) (codes " " ++ set_line c.1), length-append (set_text c.1) (10 ∷ []))

    reads-tested_count : (counted : List Counted) → Reads StandsUnlessLonger (tested_at (count_at g) (broken_count counted)) count_text (λ c. CountIs c × (broken_count counted c ≡ None)) CountLoose Anything
    reads-tested_count counted = reads-tested StandsUnlessLonger (count_at g) (broken_count counted) count_text CountIs CountLoose reads-count (inside counted)

    -- ---- nodes

    module _ (small_capacity : g.capacity < 10 ^ 64) (small_limit : scaled_limit g < 10 ^ 64) where
      abbrev NodeParts : Type 0
      NodeParts = (ℕ × (ℕ × Unit {0})) ⊎ ((ℕ × List ℕ) ⊎ WrittenSection)

      abbrev made : NodeParts → WrittenNode
      made = either (λ p. written_split p.0 p.1.0) (either (λ c. written_entries c.0 c.1) (λ s. written_leaf s))

      abbrev PartsAre : List Counted → NodeParts → Type 0
      PartsAre counted = either
          (λ p. Keeping greatest_number (is_customer_node g) p.0 × (Keeping greatest_number (λ node. is_customer_node g node && not (nat_eq node p.0)) p.1.0 × Unit {0}))
          (either (λ c. CountIs c × (broken_count counted c ≡ None)) (SectionIs g (length counted)))

      abbrev NodePartsLoose : List Counted → NodeParts → Type 0
      NodePartsLoose counted = either (λ p. UpTo greatest_number p.0 × (UpTo greatest_number p.1.0 × Unit {0})) (either CountLoose (SectionLoose g (length counted)))

      abbrev Before : NodeParts → List ℕ → Type 0
      Before = either (λ p rest. Unit {0}) (either (λ c rest. Unit {0}) (λ s rest. Unit {0}))

      abbrev parts_text : NodeParts → List ℕ
      parts_text = either (λ p. codes "split " ++ (decimal p.0 ++ (codes " " ++ (decimal p.1.0 ++ (10 ∷ []))))) (λ q. [] ++ either (λ c. codes "entries " ++ count_text c) (λ s. [] ++ ((codes "leaf" ++ 10 ∷ []) ++ section_text s)) q)

      pub reads-node : (counted : List Counted) → Reads StandsUnlessLonger (node_at g counted) node_text (NodeIs g counted) (NodeLoose g counted) Anything
      reads-node counted =
          reads-record
          (parts-either (split_or_other g counted) (reads-choice 115 (codes "plit "))
          (parts-then (ranged greatest_number (is_customer_node g) (omega arith))
          (λ i. parts-behind 32 [] (parts-then (ranged greatest_number (λ node. is_customer_node g node && not (nat_eq node i)) (omega arith))
          (λ j. parts-behind 10 [] (parts-none (written_split i j)))
          (λ j none rest is fits any. refl)))
          (λ i more rest is fits any. refl))
          (parts-either (entries_or_leaf g counted) (reads-choice 101 (codes "ntries "))
          (parts-last (reads-tested_count counted) (λ c. written_entries c.0 c.1))
          (parts-behind 108 (codes "eaf" ++ 10 ∷ []) (parts-last (reads-section g small_capacity small_limit (length counted)) (λ s. written_leaf s)))
          (λ c rest is any. tt)
          (λ s rest is any. other_word 101 108 (codes "ntries ") (((codes "eaf" ++ 10 ∷ []) ++ section_text s) ++ rest) (λ same. omega (arith, same))))
          (λ p rest is any. tt)
          unsaid)
          (record { parts = parts; fits = fits; loose = loosely; texts = texts })
        where
          unsaid : (q : (ℕ × List ℕ) ⊎ WrittenSection) (rest : List ℕ) → either (λ c. CountIs c × (broken_count counted c ≡ None)) (SectionIs g (length counted)) q → either {X = List ℕ → Type 0} (λ c rest. Unit {0}) (λ s rest. Unit {0}) q rest
              → BeforeChoice (codes "split ") false (either (λ c. codes "entries " ++ count_text c) (λ s. [] ++ ((codes "leaf" ++ 10 ∷ []) ++ section_text s)) q ++ rest)
          unsaid (inl c) rest is any = other_word 115 101 (codes "plit ") ((codes "ntries " ++ count_text c) ++ rest) (λ same. omega (arith, same))
          unsaid (inr s) rest is any = other_word 115 108 (codes "plit ") (((codes "eaf" ++ 10 ∷ []) ++ section_text s) ++ rest) (λ same. omega (arith, same))

          parts : (node : WrittenNode) → NodeIs g counted node → (p : NodeParts) × PartsAre counted p × (made p ≡ node) × ((rest : List ℕ) → Unit {0} → Before p rest)
          parts (written_split i j) is = (inl (i, (j, tt)), (is.0, (is.1, tt)), refl, λ rest any. tt)
          parts (written_entries k set) is = (inr (inl (k, set)), ((is.0, is.1), is.2), refl, λ rest any. tt)
          parts (written_leaf s) is = (inr (inr s), is, refl, λ rest any. tt)

          fits : (p : NodeParts) → PartsAre counted p → NodeIs g counted (made p)
          fits (inl p) is = (is.0, is.1.0)
          fits (inr (inl c)) is = (is.0.0, is.0.1, is.1)
          fits (inr (inr s)) is = is

          loosely : (p : NodeParts) → NodePartsLoose counted p → NodeLoose g counted (made p)
          loosely (inl p) is = (is.0, is.1.0)
          loosely (inr (inl c)) is = (is.0, is.1)
          loosely (inr (inr s)) is = is

          texts : (p : NodeParts) → NodePartsLoose counted p → parts_text p ≡ node_text (made p)
          texts (inl p) is = refl
          texts (inr (inl c)) is = refl
          texts (inr (inr s)) is = refl

      -- a leaf asks for nothing
      some_leaf : (counted : List Counted) → (node : WrittenNode) × NodeLoose g counted node × (counted_below counted node ≡ [])
      some_leaf counted = let s = (reads-section g small_capacity small_limit (length counted)).example in (written_leaf s.0, s.1, refl)

      pub some_bytes : (counted : List Counted) (node : WrittenNode) → NodeIs g counted node → 0 < length (node_text node)
      some_bytes counted (written_split i j) is = omega arith
      some_bytes counted (written_entries k set) is = omega arith
      some_bytes counted (written_leaf s) is = omega arith

      -- all nodes of a tree
      pub reads-nodes : Reads StandsUnlessLonger (nodes_at g) (joined_texts node_text) (AllAsked (NodeIs g) counted_below ([] ∷ [])) (AllAsked (NodeLoose g) counted_below ([] ∷ [])) Anything
      reads-nodes = reads-asked StandsUnlessLonger (node_at g) counted_below node_text (NodeIs g) (NodeLoose g) reads-node some_leaf some_bytes ([] ∷ [])
