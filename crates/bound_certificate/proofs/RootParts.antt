-- The readers of shares and columns read exactly their lines.
use Rattle.std.proofs.Common.{[], codes, nat_le, refl, arith}
use Rattle.ev_text.specs.Texts.{StandsUnlessLonger}
use Rattle.ev_text.proofs.ReadingLaws.{Reads}
use Rattle.ev_text.proofs.Numbers.{Anything, ranged}
use Rattle.ev_text.proofs.Records.{parts-behind, parts-last, parts-own, parts-then, reads-record}
use Rattle.bound_certificate.specs.CertificateTexts.{column_text, share_text}
use Rattle.certificate_parts.specs.Limits.{greatest_weight}
use Rattle.certificate_parts.specs.Ranges.{ColumnFits}
use Rattle.bound_certificate.specs.Reading.{column_at, share_at}
use Rattle.bound_certificate.specs.WrittenRanges.{ShareIs, ShareLoose}
use Rattle.certificate_parts.proofs.PlanParts.{reads-plan}

pub reads-column : Reads StandsUnlessLonger column_at column_text ColumnFits ColumnFits Anything
reads-column =
    reads-record (parts-behind 99 (codes "olumn ") (parts-own reads-plan))
    (record { parts = λ p is. (p, is, refl, λ rest any. tt); fits = λ p is. is; loose = λ p is. is; texts = λ p is. refl })

pub reads-share : Reads StandsUnlessLonger share_at share_text ShareIs ShareLoose Anything
reads-share =
    reads-record
    (parts-behind 115 (codes "hare ") (parts-then (ranged greatest_weight (λ n. nat_le 1 n) (omega arith))
    (λ share. parts-behind 32 [] (parts-last reads-plan (λ plan. record { share = share; plan = plan })))
    (λ share plan rest is fits any. refl)))
    (record {
      parts = λ x is. ((x.share, x.plan), (is.share, is.plan), refl, λ rest any. tt);
      fits = λ p is. record { share = is.0; plan = is.1 };
      loose = λ p is. record { share = is.0; plan = is.1 };
      texts = λ p is. refl;
    })
