-- The reader of a section reads exactly its lines.
use Rattle.std.proofs.Common.{◌≡◌, ℕ, ◌^◌, ◌<◌, ℤ, List, [], ◌∷◌, ◌++◌, None, Some, decimal, codes, length, refl, append_assoc, arith, subst}
use Rattle.ev_model.specs.Network.{Network, scaled_limit}
use Rattle.ev_text.specs.Readers.{many_from}
use Rattle.ev_text.specs.Texts.{AreLooseRun, AreRun, StandsUnlessLonger, joined_texts}
use Rattle.ev_text.proofs.ReadingLaws.{Reads}
use Rattle.ev_text.proofs.RunLaws.{reads-many}
use Rattle.ev_text.proofs.Lines.{loose_length, own_length}
use Rattle.ev_text.proofs.Numbers.{Anything, upto}
use Rattle.ev_text.proofs.Records.{parts-behind, parts-last, parts-then, reads-record}
use Rattle.certificate_parts.specs.Texts.{label_text, prices_text}
use Rattle.bound_certificate.specs.CertificateTexts.{pair_text, section_text}
use Rattle.certificate_parts.specs.Limits.{greatest_weight, most_items}
use Rattle.bound_certificate.specs.Limits.{most_pairs}
use Rattle.bound_certificate.specs.Reading.{pair_at, section_at}
use Rattle.certificate_parts.specs.Written.{WrittenLabel}
use Rattle.bound_certificate.specs.Written.{WrittenSection}
use Rattle.certificate_parts.specs.WrittenRanges.{LabelLoose}
use Rattle.bound_certificate.specs.WrittenRanges.{PairFits, PairLoose, SectionIs, SectionLoose, next_pair}
use Rattle.bound_certificate.proofs.Parts.{reads-pair}
use Rattle.certificate_parts.proofs.PriceLines.{reads-prices}
use Rattle.certificate_parts.proofs.LabelLines.{reads-labels}

module _ (g : Network) (small_capacity : g.capacity < 10 ^ 64) (small_limit : scaled_limit g < 10 ^ 64) where
  pairs_read : (count : ℕ) → Reads StandsUnlessLonger (many_from (pair_at g) (λ before pair. Some pair) count None) (joined_texts pair_text) (AreRun (PairFits g) next_pair count None) (AreLooseRun PairLoose count) Anything
  pairs_read count =
      reads-many StandsUnlessLonger (pair_at g) next_pair pair_text (PairFits g) PairLoose Anything ((0, 0), record { first = omega arith; second = omega arith }) (reads-pair g) (λ p rest. tt) count None

  abbrev lines : ℕ → ℕ → ℕ → List ℤ → List (ℕ × ℕ) → List WrittenLabel → List ℕ
  lines weight p l prices pairs labels =
      codes "section " ++ (decimal weight ++ (codes " " ++ (decimal p ++ (codes " " ++ (decimal l ++ (10 ∷ (prices_text prices ++ (joined_texts pair_text pairs ++ joined_texts label_text labels))))))))

  same_texts : (weight p l : ℕ) (prices : List ℤ) (pairs : List (ℕ × ℕ)) (labels : List WrittenLabel) → length pairs ≡ p → length labels ≡ l
      → lines weight p l prices pairs labels ≡ section_text (record { weight = weight; prices = prices; pairs = pairs; labels = labels })
  same_texts weight p l prices pairs labels many_pairs many_labels =
      let s : WrittenSection = record { weight = weight; prices = prices; pairs = pairs; labels = labels } in
      let own : lines weight (length pairs) (length labels) prices pairs labels ≡ section_text s = simp append_assoc in
      subst (λ (n : ℕ). lines weight n l prices pairs labels ≡ section_text s) many_pairs
      (subst (λ (n : ℕ). lines weight (length pairs) n prices pairs labels ≡ section_text s) many_labels own)

  pub reads-section : Reads StandsUnlessLonger (section_at g) section_text (SectionIs g) (SectionLoose g) Anything
  reads-section =
      reads-record
      (parts-behind 115 (codes "ection ") (parts-then (upto greatest_weight (omega arith))
      (λ weight. parts-behind 32 [] (parts-then (upto most_pairs (omega arith))
      (λ p. parts-behind 32 [] (parts-then (upto most_items (omega arith))
      (λ l. parts-behind 10 [] (parts-then (reads-prices g)
      (λ prices. parts-then (pairs_read p)
      (λ pairs. parts-last (reads-labels g small_capacity small_limit l) (λ labels. record { weight = weight; prices = prices; pairs = pairs; labels = labels }))
      (λ pairs labels rest are fit any. tt))
      (λ prices more rest are fits any. tt)))
      (λ l more rest few fits any. refl)))
      (λ p more rest few fits any. refl)))
      (λ weight more rest small fits any. refl)))
      (record {
        parts = λ s is. (
          (s.weight, (length s.pairs, (length s.labels, (s.prices, (s.pairs, s.labels))))),
          (is.weight, (is.few_pairs, (is.few_labels, (is.prices, ((is.pairs, refl), (is.labels, refl)))))),
          refl,
          λ rest any. tt,
        );
        fits = λ p is. record {
          weight = is.0;
          prices = is.1.1.1.0;
          few_pairs = omega (arith, is.1.1.1.1.0.1, is.1.0);
          pairs = is.1.1.1.1.0.0;
          few_labels = omega (arith, is.1.1.1.1.1.1, is.1.1.0);
          labels = is.1.1.1.1.1.0;
        };
        loose = λ p is. record {
          weight = is.0;
          prices = is.1.1.1.0;
          few_pairs = omega (arith, loose_length PairLoose p.1.0 p.1.1.1.1.0 is.1.1.1.1.0, is.1.0);
          pairs = own_length PairLoose p.1.0 p.1.1.1.1.0 is.1.1.1.1.0;
          few_labels = omega (arith, loose_length (LabelLoose g) p.1.1.0 p.1.1.1.1.1 is.1.1.1.1.1, is.1.1.0);
          labels = own_length (LabelLoose g) p.1.1.0 p.1.1.1.1.1 is.1.1.1.1.1;
        };
        texts = λ p is.
            same_texts p.0 p.1.0 p.1.1.0 p.1.1.1.0 p.1.1.1.1.0 p.1.1.1.1.1 (loose_length PairLoose p.1.0 p.1.1.1.1.0 is.1.1.1.1.0) (loose_length (LabelLoose g) p.1.1.0 p.1.1.1.1.1 is.1.1.1.1.1);
      })
