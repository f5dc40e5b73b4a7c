-- The readers of the lines of a charged route read exactly their texts.
use Rattle.std.proofs.Common.{◌≡◌, ◌∙◌, ◌⊎◌, inl, inr, ℕ, zero, suc, ◌<◌, ◌≤◌, Bool, true, false, List, [], ◌∷◌, ◌++◌, decimal, None, Some, codes, nat_lt, refl, sym, ap, append_assoc, arith, if◌then◌else◌}
use Rattle.std.specs.List.{All}
use Rattle.std.proofs.lemmas.Bool.{lt-ltb}
use Rattle.ev_model.specs.declared.Stop.{Stop}
use Rattle.ev_text.specs.Numerals.{BeginsWithoutDigit}
use Rattle.ev_text.specs.Texts.{joined_texts}
use Rattle.ev_text.proofs.ChoiceLaws.{other_word}
use Rattle.ev_text.proofs.Choices.{either, parts-either, reads-choice}
use Rattle.ev_text.proofs.Grown.{Always}
use Rattle.ev_text.proofs.Numbers.{Anything}
use Rattle.ev_text.proofs.ReaderLaws.{IsReader, reader-number, reader-positive}
use Rattle.ev_text.proofs.Records.{ReadsParts, parts-behind, parts-last, parts-none, parts-then, reads-record}
use Rattle.report_lines.specs.FixedText.{amount_text, fixed_text, stop_line, stop_lines}
use Rattle.report_lines.specs.Lines.{time_text}
use Rattle.route_plan.specs.Limits.{greatest_number}
use Rattle.route_plan.specs.PlanTexts.{IsSmallStop}
use Rattle.fixed_reader.specs.FixedReading.{amount_at, amount_behind, charged_at, each_to_end, fixed_at, fixed_by, greatest_time, line_at, line_behind, line_by}
use Rattle.fixed_reader.specs.Spelled.{FitsFixed}
use Rattle.fixed_reader.proofs.ToEnd.{AtEnd, HasFirst, reader-to_end}

-- ---- a line

abbrev IsSmall : ℕ → Type 0
IsSmall n = n ≤ greatest_number

abbrev amount_line : ℕ → List ℕ
amount_line added = amount_text added ++ 10 ∷ []

charge_text : (n : ℕ) → 0 < n → (codes " charge " ++ decimal n) ++ 10 ∷ [] ≡ amount_line n
charge_text n above = ap (λ (b : Bool). (if b then codes " charge " ++ decimal n else []) ++ 10 ∷ []) (sym (lt-ltb 0 n above))

reads-amount : IsReader amount_at amount_line IsSmall Anything
reads-amount =
    reads-record
    (parts-either amount_behind (reads-choice 10 []) (parts-none 0)
    (parts-behind 32 (codes "charge ") (parts-then (reader-positive greatest_number (omega arith) (omega arith)) (λ n. parts-behind 10 [] (parts-none n)) (λ n none rest small fits any. refl)))
    (λ none rest fits any. tt) (λ p rest is any. other_word 10 32 [] _ (λ same. absurd (omega arith))))
    (record {
      parts = elim [ zero ↦ λ is. (inl tt, tt, refl, λ rest any. tt) | suc n ↦ λ is. (inr (suc n, tt), ((omega arith, is), tt), refl, λ rest any. tt) ];
      fits = elim [ inl none ↦ λ is. omega arith | inr p ↦ λ is. is.0.1 ];
      loose = elim [ inl none ↦ λ is. omega arith | inr p ↦ λ is. is.0.1 ];
      texts = elim [ inl none ↦ λ is. refl | inr p ↦ λ is. charge_text p.0 is.0.0 ];
    })

no_digit : (n : ℕ) (rest : List ℕ) → BeginsWithoutDigit (amount_line n ++ rest)
no_digit n rest = by (nat_lt 0 n)
  where
    by : (some : Bool) → BeginsWithoutDigit (((if some then codes " charge " ++ decimal n else []) ++ 10 ∷ []) ++ rest)
    by true = refl
    by false = refl

abbrev stop_by : Bool → ℕ × ℕ → Stop
stop_by via p = record { node = p.0; added = p.1; via = via }

abbrev numbers_text : ℕ × ℕ → List ℕ
numbers_text p = decimal p.0 ++ amount_line p.1

abbrev AreSmall : ℕ × ℕ → Type 0
AreSmall p = IsSmall p.0 × IsSmall p.1

-- nothing is asked of what stands behind the numbers of a stop
abbrev AnyBehind : ℕ × ℕ → List ℕ → Type 0
AnyBehind p rest = Unit {0}

parts-line : (via : Bool) → ReadsParts Always (line_behind via) (stop_by via) numbers_text AreSmall AreSmall AnyBehind
parts-line via =
    parts-then (reader-number greatest_number (omega arith)) (λ node. parts-last reads-amount (λ added. record { node = node; added = added; via = via }))
    (λ node added rest small fits any. no_digit added rest)

in_line : (node added : ℕ) → decimal node ++ amount_line added ≡ (decimal node ++ amount_text added) ++ 10 ∷ []
in_line node added = sym (append_assoc (decimal node) (amount_text added) (10 ∷ []))

abbrev HasNumbers : Stop → Type 0
HasNumbers s = (p : (ℕ × ℕ) ⊎ (ℕ × ℕ)) × either AreSmall AreSmall p × (either (stop_by true) (stop_by false) p ≡ s) × ((rest : List ℕ) → Anything s rest → either AnyBehind AnyBehind p rest)

numbers_of : (node added : ℕ) (via : Bool) → IsSmall node → IsSmall added → HasNumbers (stop_by via (node, added))
numbers_of node added true small little = (inl (node, added), (small, little), refl, λ rest any. tt)
numbers_of node added false small little = (inr (node, added), (small, little), refl, λ rest any. tt)

pub reads-stop : IsReader line_at stop_line IsSmallStop Anything
reads-stop =
    reads-record
    (parts-either line_by (reads-choice 118 (codes "ia ")) (parts-line true) (parts-behind 97 (codes "t ") (parts-line false))
    (λ p rest is any. tt) (λ p rest is any. other_word 118 97 (codes "ia ") _ (λ same. absurd (omega arith))))
    (record {
      parts = λ s small. numbers_of s.node s.added s.via small.node small.added;
      fits = elim [ inl p ↦ λ is. record { node = is.0; added = is.1 } | inr p ↦ λ is. record { node = is.0; added = is.1 } ];
      loose = elim [ inl p ↦ λ is. record { node = is.0; added = is.1 } | inr p ↦ λ is. record { node = is.0; added = is.1 } ];
      texts = elim [ inl p ↦ λ is. ap (λ xs. codes "via " ++ xs) (in_line p.0 p.1) | inr p ↦ λ is. ap (λ xs. codes "at " ++ xs) (in_line p.0 p.1) ];
    })

-- ---- all lines

pub has_word : (s : Stop) → HasFirst (stop_line s)
has_word s = by s.via
  where
    by : (via : Bool) → HasFirst ((((if via then codes "via " else codes "at ") ++ decimal s.node) ++ amount_text s.added) ++ 10 ∷ [])
    by true = (118, _, refl)
    by false = (97, _, refl)

reads-lines : IsReader (each_to_end line_at) (joined_texts stop_line) (All IsSmallStop) AtEnd
reads-lines = reader-to_end line_at stop_line IsSmallStop reads-stop has_word

pub lines_are : (stops : List Stop) → joined_texts stop_line stops ≡ stop_lines stops
lines_are [] = refl
lines_are (s ∷ ss) = ap (λ xs. stop_line s ++ xs) (lines_are ss)

-- ---- a charged route

abbrev HasSmall : List Stop × ℕ → Type 0
HasSmall plan = All IsSmallStop plan.0 × (plan.1 ≤ greatest_time)

abbrev charged_text : ℕ → List Stop × ℕ → List ℕ
charged_text d plan = time_text d plan.1 ++ stop_lines plan.0

in_charged : (d : ℕ) (time : ℕ) (stops : List Stop) → codes "time " ++ (decimal time ++ ((47 ∷ (decimal d ++ 10 ∷ [])) ++ joined_texts stop_line stops)) ≡ charged_text d (stops, time)
in_charged d time stops =
    let lines = joined_texts stop_line stops in
    let over : ((decimal time ++ codes "/") ++ decimal d) ++ 10 ∷ [] ≡ decimal time ++ (47 ∷ (decimal d ++ 10 ∷ [])) =
    append_assoc (decimal time ++ codes "/") (decimal d) (10 ∷ []) ∙ append_assoc (decimal time) (codes "/") (decimal d ++ 10 ∷ []) in
    ap (λ xs. codes "time " ++ xs) (sym (ap (λ xs. xs ++ lines) over ∙ append_assoc (decimal time) (47 ∷ (decimal d ++ 10 ∷ [])) lines))
    ∙ ap (λ xs. time_text d time ++ xs) (lines_are stops)

reads-charged : (d : ℕ) → IsReader (charged_at d) (charged_text d) HasSmall (λ plan rest. rest ≡ [])
reads-charged d =
    reads-record
    (parts-behind 116 (codes "ime ") (parts-then (reader-number greatest_time (omega arith))
    (λ time. parts-behind 47 (decimal d ++ 10 ∷ []) (parts-last reads-lines (λ stops. (stops, time)))) (λ time stops rest small fit end. refl)))
    (record {
      parts = λ plan is. ((plan.1, plan.0), (is.1, is.0), refl, λ rest end. end);
      fits = λ p is. (is.1, is.0);
      loose = λ p is. (is.1, is.0);
      texts = λ p is. in_charged d p.0 p.1;
    })

-- a charged route, or none
pub reads-fixed : (d : ℕ) → IsReader (fixed_at d) (fixed_text d) FitsFixed (λ plan rest. rest ≡ [])
reads-fixed d =
    reads-record
    (parts-either (fixed_by d) (reads-choice 105 (codes "nfeasible" ++ 10 ∷ [])) (parts-none None) (parts-last (reads-charged d) (λ plan. Some plan))
    (λ none rest fits any. tt) (λ plan rest is end. other_word 105 116 (codes "nfeasible" ++ 10 ∷ []) _ (λ same. absurd (omega arith))))
    (record {
      parts = elim [ None ↦ λ is. (inl tt, tt, refl, λ rest end. tt) | Some plan ↦ λ is. (inr plan, is, refl, λ rest end. end) ];
      fits = elim [ inl none ↦ λ is. tt | inr plan ↦ λ is. is ];
      loose = elim [ inl none ↦ λ is. tt | inr plan ↦ λ is. is ];
      texts = elim [ inl none ↦ λ is. refl | inr plan ↦ λ is. refl ];
    })
