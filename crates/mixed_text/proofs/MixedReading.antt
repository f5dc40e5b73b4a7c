-- The reader of a proof for several kinds of vehicles reads exactly its text.
use Rattle.std.proofs.Common.{◌≡◌, ◌∙◌, ℕ, suc, ℤ, List, [], ◌∷◌, ◌++◌, Option, codes, decimal, length, refl, sym, subst, ap, append_assoc, arith}
use Rattle.std.specs.List.{All}
use Rattle.ev_model.specs.Network.{IsNetwork, Network}
use Rattle.ev_text.specs.Texts.{StandsUnlessLonger}
use Rattle.ev_text.proofs.ReadingLaws.{Reads}
use Rattle.ev_text.proofs.Numbers.{Anything, upto}
use Rattle.ev_text.proofs.Records.{parts-behind, parts-last, parts-then, reads-record}
use Rattle.certificate_parts.specs.Limits.{greatest_weight}
use Rattle.certificate_parts.specs.Texts.{bound_text, prices_text}
use Rattle.certificate_parts.specs.Written.{WrittenLabel}
use Rattle.certificate_parts.proofs.BasisLines.{reads-bound}
use Rattle.certificate_parts.proofs.OwnNumbers.{own_number}
use Rattle.certificate_parts.proofs.PriceLines.{reads-prices}
use Rattle.certificate_parts.proofs.WrittenBasis.{prices_run}
use Rattle.mixed_model.specs.Kinds.{AreKinds, first_of}
use Rattle.mixed_model.specs.declared.proof.MixedRoot.{MixedRoot}
use Rattle.mixed_text.specs.MixedTexts.{kinds_text, mixed_root_text, mixed_text}
use Rattle.mixed_text.specs.Reading.{mixed_proof_at}
use Rattle.mixed_text.specs.Written.{WrittenMixed}
use Rattle.mixed_text.specs.WrittenRanges.{LabelsLoose, MixedIs, MixedLoose, OneEach}
use Rattle.mixed_text.proofs.KindReading.{reads-kinds}
use Rattle.mixed_text.proofs.RootReading.{reads-root}
use Rattle.mixed_text.proofs.TextParts.{each_price}

-- one item for each kind are as many as there are kinds
pub each_length : {A : Type 0} (Fits : Network → A → Type 0) (kinds : List Network) (items : List A) → OneEach Fits kinds items → length items ≡ length kinds
each_length Fits [] [] are = refl
each_length Fits [] (item ∷ items) are = absurd are
each_length Fits (g ∷ kinds) [] are = absurd are
each_length Fits (g ∷ kinds) (item ∷ items) are = ap (λ n. suc n) (each_length Fits kinds items are.1)

abbrev lines : ℕ → Option ℕ → MixedRoot → ℕ → List ℤ → List (List WrittenLabel) → List ℕ
lines n bound root_part weight prices labels =
    (codes "evroute mixed 1" ++ 10 ∷ []) ++ (codes "kinds " ++ (decimal n ++ (10 ∷ (bound_text bound ++ (mixed_root_text root_part ++ (codes "section " ++ (decimal weight ++ (10 ∷ (prices_text prices ++ kinds_text 0 labels)))))))))

same_text : (n : ℕ) (bound : Option ℕ) (root_part : MixedRoot) (weight : ℕ) (prices : List ℤ) (labels : List (List WrittenLabel)) → length labels ≡ n
    → lines n bound root_part weight prices labels ≡ mixed_text (record { bound = bound; root = root_part; weight = weight; prices = prices; labels = labels })
same_text n bound root_part weight prices labels many =
    let w : WrittenMixed = record { bound = bound; root = root_part; weight = weight; prices = prices; labels = labels } in
    subst (λ (k : ℕ). lines k bound root_part weight prices labels ≡ mixed_text w) many (simp append_assoc)

pub reads-mixed : (kinds : List Network) → All IsNetwork kinds → AreKinds kinds → Reads StandsUnlessLonger (mixed_proof_at kinds) mixed_text (MixedIs kinds) (MixedLoose kinds) Anything
reads-mixed kinds networks are =
    let few = are.few in
    reads-record
    (parts-behind 101 (codes "vroute mixed 1" ++ 10 ∷ [])
    (parts-behind 107 (codes "inds ") (parts-then (own_number (length kinds) (omega (arith, few)))
    (λ n. parts-behind 10 [] (parts-then reads-bound
    (λ bound. parts-then (reads-root (length kinds) are.some are.few (first_of kinds))
    (λ root_part. parts-behind 115 (codes "ection ") (parts-then (upto greatest_weight (omega arith))
    (λ weight. parts-behind 10 [] (parts-then (reads-prices (first_of kinds))
    (λ prices. parts-last (reads-kinds 0 kinds networks (omega (arith, few))) (λ labels. record { bound = bound; root = root_part; weight = weight; prices = prices; labels = labels }))
    (λ prices labels rest run fit any. tt)))
    (λ weight more rest is fit any. refl)))
    (λ root_part more rest is fit any. tt))
    (λ bound more rest is fit any. tt)))
    (λ n more rest is fit any. refl))))
    (record {
      parts = λ w is. (
        (length kinds, (w.bound, (w.root, (w.weight, (w.prices, w.labels))))),
        (refl, (is.bound, (is.root_is, (is.weight, ((prices_run w.prices is.prices, is.one_price), is.labels))))),
        refl,
        λ rest any. tt,
      );
      fits = λ p is. record {
        bound = is.1.0;
        root_is = is.1.1.0;
        weight = is.1.1.1.0;
        prices = each_price p.1.1.1.1.0 is.1.1.1.1.0.0;
        one_price = is.1.1.1.1.0.1;
        labels = is.1.1.1.1.1;
      };
      loose = λ p is. record {
        bound = is.1.0;
        root_is = is.1.1.0;
        weight = is.1.1.1.0;
        prices = is.1.1.1.1.0;
        labels = is.1.1.1.1.1;
      };
      texts = λ p is. same_text p.0 p.1.0 p.1.1.0 p.1.1.1.0 p.1.1.1.1.0 p.1.1.1.1.1 (each_length LabelsLoose kinds p.1.1.1.1.1 is.1.1.1.1.1 ∙ sym is.0);
    })
