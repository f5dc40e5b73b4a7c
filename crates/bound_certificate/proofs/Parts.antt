-- The reader of a forbidden pair reads exactly its line.
use Rattle.std.proofs.Common.{ℕ, [], Option, codes, refl, arith}
use Rattle.ev_model.specs.Network.{Network}
use Rattle.ev_text.specs.Texts.{StandsUnlessLonger}
use Rattle.ev_text.proofs.ReadingLaws.{Reads}
use Rattle.ev_text.proofs.Numbers.{ranged}
use Rattle.ev_text.proofs.Records.{parts-behind, parts-none, parts-then, reads-record}
use Rattle.route_plan.specs.Limits.{greatest_number}
use Rattle.bound_certificate.specs.CertificateTexts.{pair_text}
use Rattle.certificate_parts.specs.Reading.{is_place}
use Rattle.bound_certificate.specs.Reading.{pair_at}
use Rattle.bound_certificate.specs.WrittenRanges.{PairFits, PairLoose, may_follow}
pub use Rattle.ev_text.proofs.Numbers.{Anything}

pub reads-pair : (g : Network) (last : Option (ℕ × ℕ)) → Reads StandsUnlessLonger (pair_at g last) pair_text (PairFits g last) PairLoose Anything
reads-pair g last =
    reads-record
    (parts-behind 112 (codes "air ") (parts-then (ranged greatest_number (is_place g) (omega arith))
    (λ i. parts-behind 32 [] (parts-then (ranged greatest_number (λ j. may_follow g last i j) (omega arith)) (λ j. parts-behind 10 [] (parts-none (i, j))) (λ j none rest keeps fits any. refl)))
    (λ i more rest keeps fits any. refl)))
    (record {
      parts = λ p fits. ((p.0, (p.1, tt)), (fits.first, (fits.second, tt)), refl, λ rest any. tt);
      fits = λ p is. record { first = is.0; second = is.1.0 };
      loose = λ p is. record { first = is.0; second = is.1.0 };
      texts = λ p is. refl;
    })
