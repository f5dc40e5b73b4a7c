-- The readers of the parts of a proof read exactly their texts.
use Rattle.std.proofs.Common.{◌≡◌, inl, inr, ℕ, ◌≤◌, List, [], ◌∷◌, ◌++◌, None, Some, decimal, codes, length, ◌-◌, nat_lt, refl, subst, append_assoc, arith}
use Rattle.std.specs.List.{All}
use Rattle.std.proofs.lemmas.Bool.{ltb-true}
use Rattle.ev_model.specs.Network.{Network, node_count}
use Rattle.ev_text.specs.Readers.{so_many}
use Rattle.ev_text.specs.Texts.{AreLooseRun, StandsUnlessLonger, joined_texts, marked_texts}
use Rattle.ev_text.proofs.ChoiceLaws.{other_word}
use Rattle.ev_text.proofs.ListLaws.{cons_text}
use Rattle.ev_text.proofs.MarkedLaws.{ended_text}
use Rattle.ev_text.proofs.ReadingLaws.{Reads}
use Rattle.ev_text.proofs.RunLaws.{ConsBehind, reads-so_many}
use Rattle.ev_text.proofs.Choices.{parts-either, reads-choice}
use Rattle.ev_text.proofs.Lines.{loose_length, own_length}
use Rattle.ev_text.proofs.Numbers.{Anything, ranged, upto}
use Rattle.ev_text.proofs.Records.{parts-behind, parts-last, parts-none, parts-own, parts-then, reads-record}
use Rattle.route_plan.specs.Limits.{greatest_number}
use Rattle.route_steps.specs.Trips.{IsTrip}
use Rattle.certificate_parts.specs.Limits.{most_items}
use Rattle.certificate_parts.specs.Texts.{point_text}
use Rattle.certificate_parts.specs.WrittenRanges.{PointsLoose}
use Rattle.certificate_parts.proofs.LabelParts.{reads-points}
use Rattle.certificate_parts.proofs.PlanParts.{reads-plan}
use Rattle.certificate_parts.proofs.PointReading.{points_are_valid, points_fit}
use Rattle.certificate_parts.proofs.WrittenParts.{node_is, points_are}
use Rattle.route_proof.specs.Ranges.{ListedPlanFits, RouteLabelFits}
use Rattle.route_proof.specs.declared.proof.RouteLabel.{RouteLabel}
use Rattle.route_proof.specs.ProofTexts.{label_text, labels_text, listed_text}
use Rattle.route_proof.specs.Reading.{label_at, labels_at, listed_at, plan_behind}
use Rattle.route_proof.specs.TextRanges.{RouteLabelLoose}

pub reads-listed : Reads StandsUnlessLonger listed_at listed_text ListedPlanFits ListedPlanFits Anything
reads-listed =
    reads-record
    (parts-either plan_behind (reads-choice 110 (codes "one" ++ 10 ∷ [])) (parts-none None) (parts-behind 114 (codes "oute ") (parts-last reads-plan (λ plan. Some plan))) (λ none rest fits any. tt)
    (λ plan rest fits any. other_word 110 114 (codes "one" ++ 10 ∷ []) _ (λ same. omega arith)))
    (record {
      parts = elim [ None ↦ λ is. (inl tt, tt, refl, λ rest any. tt) | Some plan ↦ λ is. (inr plan, is, refl, λ rest any. tt) ];
      fits = elim [ inl none ↦ λ is. tt | inr plan ↦ λ is. is ];
      loose = elim [ inl none ↦ λ is. tt | inr plan ↦ λ is. is ];
      texts = elim [ inl none ↦ λ is. refl | inr plan ↦ λ is. refl ];
    })

module _ (g : Network) (route : List ℕ) (trip : IsTrip g route) (small : length route ≤ most_items) where
  same_label : (passed node : ℕ) (points : List (ℕ × ℕ)) → PointsLoose g points
      → codes "label " ++ (decimal passed ++ (codes " " ++ (decimal node ++ (codes " " ++ cons_text point_text (ended_text 32 10 [] point_text) points))))
      ≡ (codes "label " ++ (decimal passed ++ (codes " " ++ decimal node))) ++ (marked_texts (codes " ") point_text points ++ 10 ∷ [])
  same_label passed node [] loose = absurd loose
  same_label passed node (p ∷ ps) loose = simp append_assoc

  behind : (points : List (ℕ × ℕ)) (rest : List ℕ) → ConsBehind Anything points rest
  behind [] rest = tt
  behind (p ∷ ps) rest = tt

  pub reads-label : Reads StandsUnlessLonger (label_at g route) label_text (RouteLabelFits g route) (RouteLabelLoose g route) Anything
  reads-label =
      let network = trip.network in
      let two = trip.two in
      reads-record
      (parts-behind 108 (codes "abel ")
      (parts-then (upto (length route - 2) (omega (arith, small)))
      (λ passed. parts-behind 32 [] (parts-then (ranged greatest_number (λ n. nat_lt n (node_count g)) (omega arith))
      (λ node. parts-behind 32 [] (parts-last (reads-points g (omega (arith, network.small_capacity)) (omega (arith, network.small_limit))) (λ points. record { passed = passed; node = node; value = points })))
      (λ node points rest is are any. refl)))
      (λ passed more rest is fits any. refl)))
      (record {
        parts = λ l is. (
          (l.passed, (l.node, l.value)),
          (let passed = is.passed in omega (arith, passed, two), (node_is g network l.node is.node, points_are g l.value is.valid is.points)),
          refl,
          λ rest any. behind l.value rest,
        );
        fits = λ p is. record {
          passed = let passed = is.0 in omega (arith, passed, two);
          node = ltb-true p.1.0 (node_count g) is.1.0.1;
          valid = points_are_valid g p.1.1 is.1.1;
          points = points_fit g p.1.1 is.1.1;
        };
        loose = λ p is. record { passed = is.0; node = is.1.0; points = is.1.1 };
        texts = λ p is. same_label p.0 p.1.0 p.1.1 is.1.1;
      })

  each_label : (count : ℕ) → Reads StandsUnlessLonger (so_many count (label_at g route)) (joined_texts label_text) (λ labels. All (RouteLabelFits g route) labels × (length labels ≡ count)) (AreLooseRun (RouteLabelLoose g route) count) Anything
  each_label count = reads-so_many StandsUnlessLonger (label_at g route) label_text (RouteLabelFits g route) (RouteLabelLoose g route) Anything reads-label (λ l rest. tt) count

  same_labels : (count : ℕ) (labels : List RouteLabel) → length labels ≡ count → codes "labels " ++ (decimal count ++ (10 ∷ joined_texts label_text labels)) ≡ labels_text labels
  same_labels count labels many = subst (λ (n : ℕ). codes "labels " ++ (decimal n ++ (10 ∷ joined_texts label_text labels)) ≡ labels_text labels) many (simp append_assoc)

  abbrev pub LabelsAre : List RouteLabel → Type 0
  LabelsAre labels = (length labels ≤ most_items) × All (RouteLabelFits g route) labels

  abbrev pub LabelsLoose : List RouteLabel → Type 0
  LabelsLoose labels = (length labels ≤ most_items) × AreLooseRun (RouteLabelLoose g route) (length labels) labels

  pub reads-labels : Reads StandsUnlessLonger (labels_at g route) labels_text LabelsAre LabelsLoose Anything
  reads-labels =
      reads-record
      (parts-behind 108 (codes "abels ") (parts-then (upto most_items (omega arith)) (λ count. parts-behind 10 [] (parts-own (each_label count))) (λ count labels rest few are any. refl)))
      (record {
        parts = λ labels are. ((length labels, labels), (are.0, (are.1, refl)), refl, λ rest any. tt);
        fits = λ p are. (omega (arith, are.1.1, are.0), are.1.0);
        loose = λ p are. (omega (arith, loose_length (RouteLabelLoose g route) p.0 p.1 are.1, are.0), own_length (RouteLabelLoose g route) p.0 p.1 are.1);
        texts = λ p are. same_labels p.0 p.1 (loose_length (RouteLabelLoose g route) p.0 p.1 are.1);
      })
