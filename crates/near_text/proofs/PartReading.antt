-- The readers of the parts of a near proof read exactly their texts.
use Rattle.std.proofs.Common.{◌≡◌, ℕ, ◌^◌, ◌<◌, ◌≤◌, List, [], ◌∷◌, ◌++◌, codes, decimal, length, nat_lt, refl, append_assoc, arith}
use Rattle.std.specs.List.{All}
use Rattle.ev_model.specs.Network.{Network, node_count, scaled_limit}
use Rattle.ev_text.specs.Readers.{so_many}
use Rattle.ev_text.specs.Texts.{AreLooseRun, AreRun, StandsUnlessLonger, joined_texts, marked_texts}
use Rattle.ev_text.proofs.ListLaws.{cons_text}
use Rattle.ev_text.proofs.MarkedLaws.{ended_text}
use Rattle.ev_text.proofs.ReadingLaws.{Reads}
use Rattle.ev_text.proofs.RunLaws.{ConsBehind, reads-many, reads-so_many}
use Rattle.ev_text.specs.Numbers.{UpTo}
use Rattle.ev_text.proofs.Lines.{reads-line}
use Rattle.ev_text.proofs.Numbers.{Anything, ranged, upto}
use Rattle.ev_text.proofs.Records.{parts-behind, parts-last, parts-own, parts-then, reads-record}
use Rattle.std.proofs.lemmas.List.Elements.{All-nil}
use Rattle.route_plan.specs.Limits.{greatest_number}
use Rattle.certificate_parts.specs.Limits.{greatest_bound}
use Rattle.certificate_parts.specs.Ranges.{ColumnFits, customer_count}
use Rattle.certificate_parts.specs.Texts.{point_text, set_text}
use Rattle.certificate_parts.specs.Written.{customer_node}
use Rattle.certificate_parts.specs.WrittenRanges.{PointsLoose}
use Rattle.certificate_parts.proofs.LabelParts.{reads-points, reads-set}
use Rattle.certificate_parts.proofs.PlanParts.{reads-plan}
use Rattle.near_proof.specs.Ranges.{greatest_near_price}
use Rattle.near_text.specs.NearTexts.{near_label_text, near_line, price_line, tight_line}
use Rattle.near_text.specs.Reading.{near_at, near_label_at, nears_at, price_at, prices_at, tight_at}
use Rattle.near_text.specs.WrittenRanges.{NearLabelIs, NearLabelLoose, NearSetIs, NearSetLoose, next_number}
use Rattle.near_text.proofs.OwnSets.{reads-own}
use Rattle.instance_reader.specs.Instance.{most_customers}

abbrev pub PricesAre : ℕ → List ℕ → Type 0
PricesAre count = AreRun {S = Unit {0}} (λ none price. UpTo greatest_near_price price) (λ none price. none) count (tt {0})

pub reads-prices : (g : Network) → Reads StandsUnlessLonger (prices_at g) price_line (PricesAre (customer_count g)) (AreLooseRun (UpTo greatest_near_price) (customer_count g)) Anything
reads-prices g =
    reads-line {S = Unit {0}} 112 (codes "rices") price_at (λ none price. none) (λ price. decimal price) (λ none price. UpTo greatest_near_price price) (UpTo greatest_near_price) (0, omega arith)
    (λ none. upto greatest_near_price (omega arith)) (customer_count g) (tt {0})

pub reads-near : (g : Network) (c : ℕ) → Reads StandsUnlessLonger (near_at g c) near_line (NearSetIs g c) NearSetLoose Anything
reads-near g c =
    reads-record (parts-behind 110 (codes "ear ") (parts-own (reads-own g (customer_node g c))))
    (record {
      parts = λ nodes is. (nodes, (is.set, is.own), refl, λ rest any. tt);
      fits = λ nodes is. record { set = is.0; own = is.1 };
      loose = λ nodes is. is;
      texts = λ nodes is. refl;
    })

pub reads-nears : (g : Network) (count c : ℕ) → Reads StandsUnlessLonger (nears_at g count c) (joined_texts near_line) (AreRun (NearSetIs g) next_number count c) (AreLooseRun NearSetLoose count) Anything
reads-nears g count c =
    reads-many StandsUnlessLonger (near_at g) next_number near_line (NearSetIs g) NearSetLoose Anything (0 ∷ [], (omega arith, All-nil (UpTo greatest_number))) (reads-near g) (λ nodes rest. tt) count c

pub reads-tight : Reads StandsUnlessLonger tight_at tight_line ColumnFits ColumnFits Anything
reads-tight =
    reads-record (parts-behind 116 (codes "ight ") (parts-own reads-plan))
    (record { parts = λ plan is. (plan, is, refl, λ rest any. tt); fits = λ plan is. is; loose = λ plan is. is; texts = λ plan is. refl })

pub reads-each_tight : (count : ℕ) → Reads StandsUnlessLonger (so_many count tight_at) (joined_texts tight_line) (λ plans. All ColumnFits plans × (length plans ≡ count)) (AreLooseRun ColumnFits count) Anything
reads-each_tight count = reads-so_many StandsUnlessLonger tight_at tight_line ColumnFits ColumnFits Anything reads-tight (λ plan rest. tt) count

module _ (g : Network) (few : customer_count g ≤ most_customers) (small_capacity : g.capacity < 10 ^ 64) (small_limit : scaled_limit g < 10 ^ 64) where
  same_label : (node : ℕ) (memory : List ℕ) (count earned : ℕ) (points : List (ℕ × ℕ)) → PointsLoose g points
      → codes "label " ++ (decimal node ++ (codes " " ++ ((set_text memory ++ codes " ") ++ (decimal count ++ (codes " " ++ (decimal earned ++ (codes " " ++ cons_text point_text (ended_text 32 10 [] point_text) points)))))))
      ≡ (codes "label " ++ (decimal node ++ (codes " " ++ (set_text memory ++ (codes " " ++ (decimal count ++ (codes " " ++ decimal earned))))))) ++ (marked_texts (codes " ") point_text points ++ 10 ∷ [])
  same_label node memory count earned [] loose = absurd loose
  same_label node memory count earned (p ∷ ps) loose = simp append_assoc

  behind : (points : List (ℕ × ℕ)) (rest : List ℕ) → ConsBehind Anything points rest
  behind [] rest = tt
  behind (p ∷ ps) rest = tt

  pub reads-label : Reads StandsUnlessLonger (near_label_at g) near_label_text (NearLabelIs g) (NearLabelLoose g) Anything
  reads-label =
      reads-record
      (parts-behind 108 (codes "abel ")
      (parts-then (ranged greatest_number (λ n. nat_lt n (node_count g)) (omega arith))
      (λ node. parts-behind 32 [] (parts-then (reads-set g 32 (λ same. omega arith) refl)
      (λ memory. parts-then (upto (customer_count g) (omega (arith, few)))
      (λ count. parts-behind 32 [] (parts-then (upto greatest_bound (omega arith))
      (λ earned. parts-behind 32 [] (parts-last (reads-points g small_capacity small_limit) (λ points. record { node = node; memory = memory; count = count; earned = earned; points = points })))
      (λ earned points rest is are any. refl)))
      (λ count more rest is are any. refl))
      (λ memory more rest is are any. tt)))
      (λ node more rest is fits any. refl)))
      (record {
        parts = λ l is. (
          (l.node, (l.memory, (l.count, (l.earned, l.points)))),
          (is.node, (is.memory, (is.count, (is.earned, is.points)))),
          refl,
          λ rest any. behind l.points rest,
        );
        fits = λ p is. record { node = is.0; memory = is.1.0; count = is.1.1.0; earned = is.1.1.1.0; points = is.1.1.1.1 };
        loose = λ p is. record { node = is.0; memory = is.1.0; count = is.1.1.0; earned = is.1.1.1.0; points = is.1.1.1.1 };
        texts = λ p is. same_label p.0 p.1.0 p.1.1.0 p.1.1.1.0 p.1.1.1.1 is.1.1.1.1;
      })

  pub reads-labels : (count : ℕ) → Reads StandsUnlessLonger (so_many count (near_label_at g)) (joined_texts near_label_text) (λ labels. All (NearLabelIs g) labels × (length labels ≡ count)) (AreLooseRun (NearLabelLoose g) count) Anything
  reads-labels count = reads-so_many StandsUnlessLonger (near_label_at g) near_label_text (NearLabelIs g) (NearLabelLoose g) Anything reads-label (λ l rest. tt) count
