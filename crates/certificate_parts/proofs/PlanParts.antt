-- The reader of a plan as its stops reads exactly its text.
use Rattle.std.proofs.Common.{◌≢◌, ℕ, List, [], ◌∷◌, ◌++◌, codes, refl, arith}
use Rattle.ev_model.specs.declared.Stop.{Stop}
use Rattle.ev_text.specs.Readers.{list_at}
use Rattle.ev_text.specs.Texts.{StandsUnlessLonger, parted_texts}
use Rattle.ev_text.proofs.ListLaws.{AreParted, reader-parted}
use Rattle.ev_text.proofs.ReadingLaws.{Reads}
use Rattle.ev_text.proofs.ReaderLaws.{reads-reader}
use Rattle.ev_text.proofs.Numbers.{Anything}
use Rattle.ev_text.proofs.Records.{parts-last, reads-record}
use Rattle.route_plan.specs.PlanReading.{stop_at}
use Rattle.route_plan.specs.PlanTexts.{IsSmallStop, stop_text}
use Rattle.route_plan.proofs.PlanReaders.{BeforeStop, reader-stop}
use Rattle.certificate_parts.specs.Texts.{stops_text}
use Rattle.certificate_parts.specs.Ranges.{ColumnFits}
use Rattle.certificate_parts.specs.Reading.{plan_line}

ten_differs : ◌≢◌ {A = ℕ} 10 32
ten_differs same = omega arith

before_space : (s : Stop) (rest : List ℕ) → IsSmallStop s → BeforeStop s (32 ∷ rest)
before_space s rest small = (refl, λ same. absurd (omega arith))

before_feed : (s : Stop) (rest : List ℕ) → IsSmallStop s → BeforeStop s (10 ∷ rest)
before_feed s rest small = (refl, λ same. absurd (omega arith))

abbrev StopsAre : List Stop → Type 0
StopsAre stops = AreParted 32 10 [] stop_at stop_text IsSmallStop BeforeStop reader-stop ten_differs before_space before_feed stops

abbrev stops_line : List Stop → List ℕ
stops_line stops = parted_texts (codes " ") stop_text stops ++ 10 ∷ []

stops_read : Reads StandsUnlessLonger (list_at (codes " ") (10 ∷ []) stop_at) stops_line StopsAre StopsAre Anything
stops_read =
    reads-reader StandsUnlessLonger (list_at (codes " ") (10 ∷ []) stop_at) stops_line StopsAre Anything
    (reader-parted 32 10 [] stop_at stop_text IsSmallStop BeforeStop reader-stop ten_differs before_space before_feed)

pub reads-plan : Reads StandsUnlessLonger plan_line stops_text ColumnFits ColumnFits Anything
reads-plan =
    reads-record (parts-last stops_read (λ stops. record { stops = stops }))
    (record {
      parts = λ p is. (p.stops, (is.some, is.small), refl, λ rest any. tt);
      fits = λ stops are. record { some = are.0; small = are.1 };
      loose = λ stops are. record { some = are.0; small = are.1 };
      texts = λ stops are. refl;
    })
