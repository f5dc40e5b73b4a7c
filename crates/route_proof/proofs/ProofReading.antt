-- The reader of a proof reads exactly its text.
use Rattle.std.proofs.Common.{ℕ, ◌≤◌, List, [], ◌∷◌, ◌++◌, codes, length, refl}
use Rattle.ev_model.specs.Network.{Network}
use Rattle.ev_text.specs.Texts.{StandsUnlessLonger}
use Rattle.ev_text.proofs.ReadingLaws.{Reads}
use Rattle.ev_text.proofs.Numbers.{Anything}
use Rattle.ev_text.proofs.Records.{parts-behind, parts-last, parts-then, reads-record}
use Rattle.route_steps.specs.Trips.{IsTrip}
use Rattle.certificate_parts.specs.Limits.{most_items}
use Rattle.route_proof.specs.ProofTexts.{proof_text}
use Rattle.route_proof.specs.Reading.{proof_at}
use Rattle.route_proof.specs.TextRanges.{HasText, ProofLoose}
use Rattle.route_proof.proofs.PartReading.{reads-labels, reads-listed}

pub reads-proof : (g : Network) (route : List ℕ) → IsTrip g route → length route ≤ most_items → Reads StandsUnlessLonger (proof_at g route) proof_text (HasText g route) (ProofLoose g route) Anything
reads-proof g route trip small =
    reads-record
    (parts-behind 101 (codes "vroute proof 1" ++ 10 ∷ [])
    (parts-then reads-listed (λ plan. parts-last (reads-labels g route trip small) (λ labels. record { plan = plan; labels = labels })) (λ plan labels rest is are any. tt)))
    (record {
      parts = λ p is. ((p.plan, p.labels), (is.fits.plan, (is.few, is.fits.labels)), refl, λ rest any. tt);
      fits = λ p is. record { fits = record { plan = is.0; labels = is.1.1 }; few = is.1.0 };
      loose = λ p is. record { plan = is.0; few = is.1.0; labels = is.1.1 };
      texts = λ p is. refl;
    })
