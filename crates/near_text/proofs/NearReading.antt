-- The reader of a near proof reads exactly its text.
use Rattle.std.proofs.Common.{◌≡◌, ℕ, ◌^◌, ◌<◌, ◌≤◌, List, [], ◌∷◌, ◌++◌, Option, codes, decimal, length, refl, subst, ap, append_assoc, arith}
use Rattle.std.specs.List.{All}
use Rattle.ev_model.specs.Network.{Network, scaled_limit}
use Rattle.ev_text.specs.Texts.{AllFrom, StandsUnlessLonger, joined_texts}
use Rattle.ev_text.proofs.ReadingLaws.{Reads}
use Rattle.std.proofs.lemmas.List.Elements.{All-cons, All-head, All-nil, All-tail}
use Rattle.ev_text.specs.Numbers.{UpTo}
use Rattle.ev_text.proofs.Lines.{loose_length, own_length}
use Rattle.ev_text.proofs.Numbers.{Anything, upto}
use Rattle.ev_text.proofs.Records.{parts-behind, parts-last, parts-then, reads-record}
use Rattle.route_plan.specs.declared.plan.RoutePlan.{RoutePlan}
use Rattle.certificate_parts.specs.Limits.{most_items}
use Rattle.certificate_parts.specs.Ranges.{customer_count}
use Rattle.certificate_parts.specs.Texts.{bound_text}
use Rattle.certificate_parts.proofs.BasisLines.{reads-bound}
use Rattle.near_proof.specs.Ranges.{greatest_near_price, tight_count}
use Rattle.near_text.specs.NearTexts.{near_body_text, near_label_text, near_line, near_text, price_line, tight_line}
use Rattle.near_text.specs.Reading.{near_proof_at}
use Rattle.near_text.specs.Written.{WrittenNear, WrittenNearLabel}
use Rattle.near_text.specs.WrittenRanges.{NearIs, NearLabelLoose, NearLoose}
use Rattle.near_text.proofs.PartReading.{reads-each_tight, reads-labels, reads-nears, reads-prices}
use Rattle.instance_reader.specs.Instance.{most_customers}

abbrev Run : List ℕ → Type 0
Run prices = AllFrom {S = Unit {0}} (λ none price. UpTo greatest_near_price price) (λ none price. none) (tt {0}) prices

pub from_run : (prices : List ℕ) → Run prices → All (UpTo greatest_near_price) prices
from_run [] all = All-nil (UpTo greatest_near_price)
from_run (p ∷ ps) all = All-cons (UpTo greatest_near_price) p ps all.0 (from_run ps all.1)

to_run : (prices : List ℕ) → All (UpTo greatest_near_price) prices → Run prices
to_run [] all = tt
to_run (p ∷ ps) all = (All-head (UpTo greatest_near_price) p ps all, to_run ps (All-tail (UpTo greatest_near_price) p ps all))

abbrev lines : Option ℕ → ℕ → ℕ → List ℕ → List (List ℕ) → List WrittenNearLabel → List RoutePlan → List ℕ
lines bound weight n prices sets labels tight =
    bound_text bound ++ (codes "section " ++ (decimal weight ++ (codes " " ++ (decimal n ++ (10 ∷ (price_line prices ++ (joined_texts near_line sets ++ (joined_texts near_label_text labels ++ joined_texts tight_line tight))))))))

same_body : (bound : Option ℕ) (weight n : ℕ) (prices : List ℕ) (sets : List (List ℕ)) (labels : List WrittenNearLabel) (tight : List RoutePlan) → length labels ≡ n
    → lines bound weight n prices sets labels tight ≡ near_body_text (record { bound = bound; weight = weight; prices = prices; sets = sets; labels = labels; tight = tight })
same_body bound weight n prices sets labels tight many =
    let w : WrittenNear = record { bound = bound; weight = weight; prices = prices; sets = sets; labels = labels; tight = tight } in
    subst (λ (k : ℕ). lines bound weight k prices sets labels tight ≡ near_body_text w) many (simp append_assoc)

pub reads-near_proof : (g : Network) → customer_count g ≤ most_customers → g.capacity < 10 ^ 64 → scaled_limit g < 10 ^ 64 → Reads StandsUnlessLonger (near_proof_at g) near_text (NearIs g) (NearLoose g) Anything
reads-near_proof g few small_capacity small_limit =
    reads-record
    (parts-behind 101 (codes "vroute near 1" ++ 10 ∷ [])
    (parts-then reads-bound
    (λ bound. parts-behind 115 (codes "ection ") (parts-then (upto 1 (omega arith))
    (λ weight. parts-behind 32 [] (parts-then (upto most_items (omega arith))
    (λ count. parts-behind 10 [] (parts-then (reads-prices g)
    (λ prices. parts-then (reads-nears g (customer_count g) 0)
    (λ sets. parts-then (reads-labels g few small_capacity small_limit count)
    (λ labels. parts-last (reads-each_tight (tight_count (customer_count g) bound)) (λ tight. record { bound = bound; weight = weight; prices = prices; sets = sets; labels = labels; tight = tight }))
    (λ labels tight rest are fit any. tt))
    (λ sets more rest are fit any. tt))
    (λ prices more rest are fit any. tt)))
    (λ count more rest is fit any. refl)))
    (λ weight more rest is fit any. refl)))
    (λ bound more rest is fit any. tt)))
    (record {
      parts = λ w is. (
        (w.bound, (w.weight, (length w.labels, (w.prices, (w.sets, (w.labels, w.tight)))))),
        (is.bound, (is.weight, (is.few, ((to_run w.prices is.prices, is.one_price), (is.sets, ((is.labels, refl), (is.tight, is.one_tight))))))),
        refl,
        λ rest any. tt,
      );
      fits = λ p is. record {
        bound = is.0;
        weight = is.1.0;
        prices = from_run p.1.1.1.0 is.1.1.1.0.0;
        one_price = is.1.1.1.0.1;
        sets = is.1.1.1.1.0;
        few = omega (arith, is.1.1.1.1.1.0.1, is.1.1.0);
        labels = is.1.1.1.1.1.0.0;
        tight = is.1.1.1.1.1.1.0;
        one_tight = is.1.1.1.1.1.1.1;
      };
      loose = λ p is. record {
        bound = is.0;
        weight = is.1.0;
        prices = is.1.1.1.0;
        sets = is.1.1.1.1.0;
        few = omega (arith, loose_length (NearLabelLoose g) p.1.1.0 p.1.1.1.1.1.0 is.1.1.1.1.1.0, is.1.1.0);
        labels = own_length (NearLabelLoose g) p.1.1.0 p.1.1.1.1.1.0 is.1.1.1.1.1.0;
        tight = is.1.1.1.1.1.1;
      };
      texts = λ p is. ap (λ (xs : List ℕ). (codes "evroute near 1" ++ 10 ∷ []) ++ xs) (same_body p.0 p.1.0 p.1.1.0 p.1.1.1.0 p.1.1.1.1.0 p.1.1.1.1.1.0 p.1.1.1.1.1.1 (loose_length (NearLabelLoose g) p.1.1.0 p.1.1.1.1.1.0 is.1.1.1.1.1.0));
    })
