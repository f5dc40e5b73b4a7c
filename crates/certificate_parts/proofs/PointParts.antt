-- The reader of a point of a label reads exactly its text.
use Rattle.std.proofs.Common.{ℕ, ◌^◌, ◌<◌, [], Option, refl}
use Rattle.ev_model.specs.Network.{Network, scaled_limit}
use Rattle.ev_text.specs.Texts.{StandsUnlessLonger}
use Rattle.ev_text.proofs.ReadingLaws.{Reads}
use Rattle.ev_text.proofs.Numbers.{NoDigit, ranged}
use Rattle.ev_text.proofs.Records.{parts-behind, parts-last, parts-then, reads-record}
use Rattle.certificate_parts.specs.Texts.{point_text}
use Rattle.certificate_parts.specs.Reading.{is_higher, is_later, point_at}
use Rattle.certificate_parts.specs.WrittenRanges.{PointIs, PointLoose}

pub reads-point : (g : Network) → g.capacity < 10 ^ 64 → scaled_limit g < 10 ^ 64 → (last : Option (ℕ × ℕ)) → Reads StandsUnlessLonger (point_at g last) point_text (PointIs g last) (PointLoose g) NoDigit
reads-point g small_capacity small_limit last =
    reads-record
    (parts-then (ranged g.capacity (is_higher last) small_capacity)
    (λ level. parts-behind 58 [] (parts-last (ranged (scaled_limit g) (is_later last level) small_limit) (λ time. (level, time))))
    (λ level time rest keeps is before. refl))
    (record {
      parts = λ p is. ((p.0, p.1), (is.level, is.time), refl, λ rest before. before);
      fits = λ p is. record { level = is.0; time = is.1 };
      loose = λ p is. record { level = is.0; time = is.1 };
      texts = λ p is. refl;
    })
