-- The reader of a label reads exactly its line, and that of so many labels their lines.
use Rattle.std.proofs.Common.{◌≡◌, ℕ, ◌^◌, ◌<◌, List, [], ◌∷◌, ◌++◌, decimal, codes, nat_lt, refl, append_assoc, arith, length}
use Rattle.ev_model.specs.Network.{Network, node_count, scaled_limit}
use Rattle.ev_text.specs.Texts.{StandsUnlessLonger, marked_texts, AreLooseRun, joined_texts}
use Rattle.ev_text.proofs.ListLaws.{cons_text}
use Rattle.ev_text.proofs.MarkedLaws.{ended_text}
use Rattle.ev_text.proofs.ReadingLaws.{Reads}
use Rattle.ev_text.proofs.RunLaws.{ConsBehind, reads-so_many}
use Rattle.ev_text.proofs.Numbers.{Anything, ranged}
use Rattle.ev_text.proofs.Records.{parts-behind, parts-last, parts-then, reads-record}
use Rattle.route_plan.specs.Limits.{greatest_number}
use Rattle.certificate_parts.specs.Texts.{label_text, point_text, set_text}
use Rattle.certificate_parts.specs.Reading.{is_place, label_at}
use Rattle.certificate_parts.specs.WrittenRanges.{LabelIs, LabelLoose, PointsLoose}
use Rattle.certificate_parts.proofs.LabelParts.{reads-points, reads-set}
use Rattle.std.specs.List.{All}
use Rattle.ev_text.specs.Readers.{so_many}

module _ (g : Network) (small_capacity : g.capacity < 10 ^ 64) (small_limit : scaled_limit g < 10 ^ 64) where
  same_texts : (last node : ℕ) (served : List ℕ) (points : List (ℕ × ℕ)) → PointsLoose g points
      → codes "label " ++ (decimal last ++ (codes " " ++ (decimal node ++ (codes " " ++ ((set_text served ++ codes " ") ++ cons_text point_text (ended_text 32 10 [] point_text) points)))))
      ≡ (codes "label " ++ (decimal last ++ (codes " " ++ (decimal node ++ codes " ")))) ++ (set_text served ++ (marked_texts (codes " ") point_text points ++ 10 ∷ []))
  same_texts last node served [] loose = absurd loose
  same_texts last node served (p ∷ ps) loose = simp append_assoc

  behind : (points : List (ℕ × ℕ)) (rest : List ℕ) → ConsBehind Anything points rest
  behind [] rest = tt
  behind (p ∷ ps) rest = tt

  pub reads-label : Reads StandsUnlessLonger (label_at g) label_text (LabelIs g) (LabelLoose g) Anything
  reads-label =
      reads-record
      (parts-behind 108 (codes "abel ")
      (parts-then (ranged greatest_number (is_place g) (omega arith))
      (λ last. parts-behind 32 [] (parts-then (ranged greatest_number (λ n. nat_lt n (node_count g)) (omega arith))
      (λ node. parts-behind 32 [] (parts-then (reads-set g 32 (λ same. omega arith) refl)
      (λ served. parts-last (reads-points g small_capacity small_limit) (λ points. record { last = last; node = node; served = served; points = points }))
      (λ served points rest set_is are any. tt)))
      (λ node more rest is fits any. refl)))
      (λ last more rest is fits any. refl)))
      (record {
        parts = λ l is. ((l.last, (l.node, (l.served, l.points))), (is.last, (is.node, (is.served, is.points))), refl, λ rest any. behind l.points rest);
        fits = λ p is. record { last = is.0; node = is.1.0; served = is.1.1.0; points = is.1.1.1 };
        loose = λ p is. record { last = is.0; node = is.1.0; served = is.1.1.0; points = is.1.1.1 };
        texts = λ p is. same_texts p.0 p.1.0 p.1.1.0 p.1.1.1 is.1.1.1;
      })

  pub reads-labels : (count : ℕ) → Reads StandsUnlessLonger (so_many count (label_at g)) (joined_texts label_text) (λ labels. All (LabelIs g) labels × (length labels ≡ count)) (AreLooseRun (LabelLoose g) count) Anything
  reads-labels count = reads-so_many StandsUnlessLonger (label_at g) label_text (LabelIs g) (LabelLoose g) Anything reads-label (λ l rest. tt) count
