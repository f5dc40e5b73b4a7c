-- The reader of a line of a tree reads exactly the line.
use Rattle.std.proofs.Common.{inl, inr, ◌&&◌, not, [], ℕ, codes, nat_eq, nat_lt, refl, arith}
use Rattle.ev_model.specs.Network.{Network}
use Rattle.ev_text.specs.Texts.{StandsUnlessLonger}
use Rattle.ev_text.proofs.ChoiceLaws.{other_word}
use Rattle.ev_text.proofs.ReadingLaws.{Reads}
use Rattle.ev_text.proofs.Choices.{parts-either, reads-choice}
use Rattle.ev_text.proofs.Numbers.{Anything, ranged}
use Rattle.ev_text.proofs.Records.{parts-behind, parts-none, parts-then, reads-record}
use Rattle.route_plan.specs.Limits.{greatest_number}
use Rattle.bound_certificate.specs.CertificateTexts.{line_text}
use Rattle.certificate_parts.specs.Limits.{most_items}
use Rattle.certificate_parts.specs.Reading.{is_customer_node}
use Rattle.bound_certificate.specs.Reading.{line_at, split_or_leaf}
use Rattle.bound_certificate.specs.WrittenRanges.{LineIs, LineLoose}
use Rattle.bound_certificate.specs.declared.certificate.TreeLine.TheVariants.{Split, Leaf}

pub reads-tree_line : (g : Network) (sections : ℕ) → Reads StandsUnlessLonger (line_at g sections) line_text (LineIs g sections) LineLoose Anything
reads-tree_line g sections =
    reads-record
    (parts-either (split_or_leaf g sections) (reads-choice 115 (codes "plit "))
    (parts-then (ranged greatest_number (is_customer_node g) (omega arith))
    (λ i. parts-behind 32 [] (parts-then (ranged greatest_number (λ j. is_customer_node g j && not (nat_eq i j)) (omega arith)) (λ j. parts-behind 10 [] (parts-none (Split i j))) (λ j none rest keeps fits any. refl)))
    (λ i more rest keeps fits any. refl))
    (parts-behind 108 (codes "eaf ") (parts-then (ranged most_items (λ n. nat_lt n sections) (omega arith)) (λ n. parts-behind 10 [] (parts-none (Leaf n))) (λ n none rest keeps fits any. refl)))
    (λ p rest fits any. tt) (λ p rest fits any. other_word 115 108 (codes "plit ") _ (λ same. omega arith)))
    (record {
      parts = elim [
        | Split i j ↦ λ is. (inl (i, (j, tt)), (is.0, (is.1, tt)), refl, λ rest any. tt)
        | Leaf n ↦ λ is. (inr (n, tt), (is, tt), refl, λ rest any. tt)
      ];
      fits = elim [ inl p ↦ λ is. (is.0, is.1.0) | inr p ↦ λ is. is.0 ];
      loose = elim [ inl p ↦ λ is. (is.0, is.1.0) | inr p ↦ λ is. is.0 ];
      texts = elim [ inl p ↦ λ is. refl | inr p ↦ λ is. refl ];
    })
