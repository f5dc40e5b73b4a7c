-- The readers of the labels and of the entry prices of a section read exactly their texts.
use Rattle.std.proofs.Common.{◌≡◌, ℕ, ◌^◌, ◌<◌, ◌≤◌, ℤ, Bool, true, false, inl, inr, List, [], ◌∷◌, ◌++◌, codes, decimal, length, nat_lt, refl, sym, subst, append_assoc, arith}
use Rattle.std.specs.Fmt.{signed_decimal}
use Rattle.std.specs.List.{All}
use Rattle.std.specs.Prelude.{unsigned_abs}
use Rattle.ev_model.specs.Network.{Network, node_count, scaled_limit}
use Rattle.ev_text.specs.Numerals.{BeginsWithoutDigit}
use Rattle.ev_text.specs.Readers.{signed_at, so_many}
use Rattle.ev_text.specs.Texts.{AreLooseRun, StandsUnlessLonger, joined_texts, marked_texts}
use Rattle.ev_text.proofs.Choices.{parts-either, reads-optional}
use Rattle.ev_text.proofs.ChoiceLaws.{BeginsOtherwise}
use Rattle.ev_text.proofs.ListLaws.{cons_text}
use Rattle.ev_text.proofs.MarkedLaws.{ended_text}
use Rattle.ev_text.proofs.ReadingLaws.{Reads}
use Rattle.ev_text.proofs.RunLaws.{ConsBehind, reads-so_many}
use Rattle.ev_text.proofs.SignedLaws.{reads-signed}
use Rattle.ev_text.proofs.Numbers.{Anything, number_is_no_mark, ranged}
use Rattle.ev_text.proofs.Records.{parts-behind, parts-last, parts-none, parts-then, reads-record}
use Rattle.route_plan.specs.Limits.{greatest_number}
use Rattle.certificate_parts.specs.Limits.{greatest_bound, greatest_price}
use Rattle.certificate_parts.specs.Ranges.{IsPrice}
use Rattle.certificate_parts.specs.Reading.{is_place}
use Rattle.certificate_parts.specs.Texts.{point_text, set_text}
use Rattle.certificate_parts.specs.WrittenRanges.{PointsLoose}
use Rattle.certificate_parts.proofs.LabelParts.{reads-points, reads-set}
use Rattle.tree_text.specs.Reading.{entry_at, last_at, named_behind, section_label_at}
use Rattle.tree_text.specs.TreeTexts.{entry_line, last_text, section_label_text}
use Rattle.tree_text.specs.Written.{WrittenLast, is_station, named, star, unwritten}
use Rattle.tree_text.specs.WrittenRanges.{LastIs, LastLoose, SectionLabelIs, SectionLabelLoose}

-- a price, of entries or of a customer; and what is earned
pub signed : (limit : ℕ) → 1 ≤ limit → limit < 10 ^ 64 → Reads StandsUnlessLonger (signed_at limit) signed_decimal (λ z. unsigned_abs z ≤ limit) (λ z. unsigned_abs z ≤ limit) (λ z rest. BeginsWithoutDigit rest)
signed limit some small = reads-signed StandsUnlessLonger (λ at text more still longer. still longer) limit some small

pub reads-entry : Reads StandsUnlessLonger entry_at entry_line IsPrice IsPrice Anything
reads-entry =
    reads-record
    (parts-behind 101 (codes "ntry ") (parts-then (signed greatest_price (omega arith) (omega arith)) (λ price. parts-behind 10 [] (parts-none price)) (λ price none rest is fits any. refl)))
    (record {
      parts = λ price is. ((price, tt), (is, tt), refl, λ rest any. tt);
      fits = λ p is. is.0;
      loose = λ p is. is.0;
      texts = λ p is. refl;
    })

pub reads-entries : (count : ℕ) → Reads StandsUnlessLonger (so_many count entry_at) (joined_texts entry_line) (λ prices. All IsPrice prices × (length prices ≡ count)) (AreLooseRun IsPrice count) Anything
reads-entries count = reads-so_many StandsUnlessLonger entry_at entry_line IsPrice IsPrice Anything reads-entry (λ price rest. tt) count

-- ---- lasts

module _ (g : Network) where
  nowhere : Reads StandsUnlessLonger (last_at g false) last_text (LastIs g false) (LastLoose false) Anything
  nowhere =
      reads-record (parts-none unwritten)
      (record {
        parts = elim [ unwritten ↦ λ is. (tt, tt, refl, λ rest any. tt) | star ↦ λ is. absurd is | named n ↦ λ is. absurd is ];
        fits = λ none is. tt;
        loose = λ none is. tt;
        texts = λ none is. refl;
      })

  at_station : Reads StandsUnlessLonger (last_at g true) last_text (LastIs g true) (LastLoose true) Anything
  at_station =
      reads-record
      (parts-either (named_behind g) (reads-optional 42) (parts-behind 32 [] (parts-none star))
      (parts-then (ranged greatest_number (is_place g) (omega arith)) (λ n. parts-behind 32 [] (parts-none (named n))) (λ n none rest is fits any. refl))
      (λ none rest fits any. tt)
      (λ p rest is any. subst (BeginsOtherwise 42) (sym (append_assoc (decimal p.0) (codes " ") rest)) (number_is_no_mark 42 p.0 (codes " " ++ rest) refl (let small = is.0.0 in omega (arith, small)))))
      (record {
        parts = elim [ unwritten ↦ λ is. absurd is | star ↦ λ is. (inl tt, tt, refl, λ rest any. tt) | named n ↦ λ is. (inr (n, tt), (is, tt), refl, λ rest any. tt) ];
        fits = elim [ inl none ↦ λ is. tt | inr p ↦ λ is. is.0 ];
        loose = elim [ inl none ↦ λ is. tt | inr p ↦ λ is. is.0 ];
        texts = elim [ inl none ↦ λ is. refl | inr p ↦ λ is. refl ];
      })

  reads-last : (station : Bool) → Reads StandsUnlessLonger (last_at g station) last_text (LastIs g station) (LastLoose station) Anything
  reads-last true = at_station
  reads-last false = nowhere

module _ (g : Network) (small_capacity : g.capacity < 10 ^ 64) (small_limit : scaled_limit g < 10 ^ 64) where
  same_label : (node : ℕ) (last : WrittenLast) (memory : List ℕ) (earned : ℤ) (points : List (ℕ × ℕ)) → PointsLoose g points
      → codes "label " ++ (decimal node ++ (codes " " ++ (last_text last ++ ((set_text memory ++ codes " ") ++ (signed_decimal earned ++ (codes " " ++ cons_text point_text (ended_text 32 10 [] point_text) points))))))
      ≡ (codes "label " ++ (decimal node ++ (codes " " ++ (last_text last ++ (set_text memory ++ (codes " " ++ signed_decimal earned)))))) ++ (marked_texts (codes " ") point_text points ++ 10 ∷ [])
  same_label node last memory earned [] loose = absurd loose
  same_label node last memory earned (p ∷ ps) loose = simp append_assoc

  behind : (points : List (ℕ × ℕ)) (rest : List ℕ) → ConsBehind Anything points rest
  behind [] rest = tt
  behind (p ∷ ps) rest = tt

  pub reads-label : Reads StandsUnlessLonger (section_label_at g) section_label_text (SectionLabelIs g) (SectionLabelLoose g) Anything
  reads-label =
      reads-record
      (parts-behind 108 (codes "abel ")
      (parts-then (ranged greatest_number (λ n. nat_lt n (node_count g)) (omega arith))
      (λ node. parts-behind 32 [] (parts-then (reads-last g (is_station g node))
      (λ last. parts-then (reads-set g 32 (λ same. omega arith) refl)
      (λ memory. parts-then (signed greatest_bound (omega arith) (omega arith))
      (λ earned. parts-behind 32 [] (parts-last (reads-points g small_capacity small_limit) (λ points. record { node = node; last = last; memory = memory; earned = earned; points = points })))
      (λ earned points rest is are any. refl))
      (λ memory more rest is are any. tt))
      (λ last more rest is are any. tt)))
      (λ node more rest is fits any. refl)))
      (record {
        parts = λ l is. (
          (l.node, (l.last, (l.memory, (l.earned, l.points)))),
          (is.node, (is.last, (is.memory, (is.earned, is.points)))),
          refl,
          λ rest any. behind l.points rest,
        );
        fits = λ p is. record { node = is.0; last = is.1.0; memory = is.1.1.0; earned = is.1.1.1.0; points = is.1.1.1.1 };
        loose = λ p is. record { node = is.0; last = is.1.0; memory = is.1.1.0; earned = is.1.1.1.0; points = is.1.1.1.1 };
        texts = λ p is. same_label p.0 p.1.0 p.1.1.0 p.1.1.1.0 p.1.1.1.1 is.1.1.1.1;
      })

  pub reads-labels : (count : ℕ) → Reads StandsUnlessLonger (so_many count (section_label_at g)) (joined_texts section_label_text) (λ labels. All (SectionLabelIs g) labels × (length labels ≡ count)) (AreLooseRun (SectionLabelLoose g) count) Anything
  reads-labels count = reads-so_many StandsUnlessLonger (section_label_at g) section_label_text (SectionLabelIs g) (SectionLabelLoose g) Anything reads-label (λ l rest. tt) count
