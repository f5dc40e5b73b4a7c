-- The readers of the labels of a kind, and of all kinds, read exactly their lines.
use Rattle.std.proofs.Common.{◌≡◌, ℕ, ◌+◌, ◌≤◌, List, [], ◌∷◌, ◌++◌, decimal, codes, length, refl, subst, append_assoc, arith}
use Rattle.std.specs.List.{All}
use Rattle.std.proofs.lemmas.List.Elements.{All-head, All-tail}
use Rattle.ev_model.specs.Network.{IsNetwork, Network}
use Rattle.ev_text.specs.Texts.{StandsUnlessLonger, joined_texts}
use Rattle.ev_text.proofs.ReadingLaws.{Reads}
use Rattle.ev_text.proofs.Lines.{loose_length, own_length}
use Rattle.ev_text.proofs.Numbers.{Anything, upto}
use Rattle.ev_text.proofs.Records.{parts-behind, parts-last, parts-none, parts-own, parts-then, reads-record}
use Rattle.route_plan.specs.Limits.{greatest_number}
use Rattle.certificate_parts.specs.Limits.{most_items}
use Rattle.certificate_parts.specs.Texts.{label_text}
use Rattle.certificate_parts.specs.Written.{WrittenLabel}
use Rattle.certificate_parts.specs.WrittenRanges.{LabelLoose}
use Rattle.certificate_parts.proofs.LabelLines.{reads-labels}
use Rattle.certificate_parts.proofs.OwnNumbers.{own_number}
use Rattle.mixed_text.specs.MixedTexts.{kind_text, kinds_text}
use Rattle.mixed_text.specs.Reading.{kind_at, kinds_at}
use Rattle.mixed_text.specs.WrittenRanges.{LabelsAre, LabelsLoose, OneEach}

same_kind : (own kind many : ℕ) (labels : List WrittenLabel) → own ≡ kind → length labels ≡ many
    → codes "kind " ++ (decimal own ++ (codes " " ++ (decimal many ++ (10 ∷ joined_texts label_text labels)))) ≡ kind_text kind labels
same_kind own kind many labels is count =
    subst (λ (n : ℕ). codes "kind " ++ (decimal own ++ (codes " " ++ (decimal n ++ (10 ∷ joined_texts label_text labels)))) ≡ kind_text kind labels) count
    (subst (λ (k : ℕ). codes "kind " ++ (decimal own ++ (codes " " ++ (decimal (length labels) ++ (10 ∷ joined_texts label_text labels)))) ≡ kind_text k labels) is (simp append_assoc))

module _ (kind : ℕ) (small : kind ≤ greatest_number) (g : Network) (network : IsNetwork g) where
  reads-kind : Reads StandsUnlessLonger (kind_at kind g) (kind_text kind) (LabelsAre g) (LabelsLoose g) Anything
  reads-kind =
      reads-record
      (parts-behind 107 (codes "ind ") (parts-then (own_number kind small)
      (λ own. parts-behind 32 [] (parts-then (upto most_items (omega arith))
      (λ many. parts-behind 10 [] (parts-own (reads-labels g (omega (arith, network.small_capacity)) (omega (arith, network.small_limit)) many)))
      (λ many labels rest few are any. refl)))
      (λ own more rest is fits any. refl)))
      (record {
        parts = λ labels are. ((kind, (length labels, labels)), (refl, (are.few, (are.each, refl))), refl, λ rest any. tt);
        fits = λ p is. record { few = omega (arith, is.1.1.1, is.1.0); each = is.1.1.0 };
        loose = λ p is. record { few = omega (arith, loose_length (LabelLoose g) p.1.0 p.1.1 is.1.1, is.1.0); each = own_length (LabelLoose g) p.1.0 p.1.1 is.1.1 };
        texts = λ p is. same_kind p.0 kind p.1.0 p.1.1 is.0 (loose_length (LabelLoose g) p.1.0 p.1.1 is.1.1);
      })

nothing : (lists : List (List WrittenLabel)) → OneEach LabelsAre [] lists → [] ≡ lists
nothing [] are = refl
nothing (labels ∷ lists) are = absurd are

pub reads-kinds : (kind : ℕ) (kinds : List Network) → All IsNetwork kinds → kind + length kinds ≤ greatest_number
    → Reads StandsUnlessLonger (kinds_at kind kinds) (kinds_text kind) (OneEach LabelsAre kinds) (OneEach LabelsLoose kinds) Anything
reads-kinds kind [] networks few =
    reads-record (parts-none [])
    (record { parts = λ lists are. (tt, tt, nothing lists are, λ rest any. tt); fits = λ none any. tt; loose = λ none any. tt; texts = λ none any. refl })
reads-kinds kind (g ∷ kinds) networks few =
    reads-record
    (parts-then (reads-kind kind (omega (arith, few)) g (All-head IsNetwork g kinds networks))
    (λ labels. parts-last (reads-kinds (kind + 1) kinds (All-tail IsNetwork g kinds networks) (omega (arith, few))) (λ others. labels ∷ others))
    (λ labels others rest are fit any. tt))
    (record {
      parts = elim [ [] ↦ λ are. absurd are | labels ∷ others ↦ λ are. ((labels, others), are, refl, λ rest any. tt) ];
      fits = λ p are. are;
      loose = λ p are. are;
      texts = λ p are. refl;
    })
