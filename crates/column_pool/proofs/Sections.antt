-- A section of labels that pricing has closed is a node's.
use Rattle.std.proofs.Common.{◌≡◌, ◌∙◌, ℕ, ◌≤◌, refl, sym, ap, subst, List, [], ◌∷◌, length, map, ℤ}
use Rattle.std.specs.List.{All}
use Rattle.customer_sets.specs.Pairs.{allows_of, ForbiddenPairs}
use Rattle.ev_model.specs.Network.{Network}
use Rattle.fleet_model.specs.ClosedList.{IsClosed}
use Rattle.fleet_model.specs.Labels.{Label as PricedLabel}
use Rattle.fleet_model.specs.Section.{Section as PricedSection}
use Rattle.instance_reader.specs.Instance.{customer_nodes}
use Rattle.closed_lists.specs.Sections.{paid_label, section_of}
use Rattle.piece_fn.specs.PieceFn.{level_times}
use Rattle.piece_fn.specs.declared.label.Label.{Label}
use Rattle.pricing.specs.Answers.{AreClosed, HasPoints, IsInRange}
use Rattle.bound_certificate.specs.Limits.{greatest_weight, most_items}
use Rattle.bound_certificate.specs.Meaning.{priced_label, priced_section}
use Rattle.bound_certificate.specs.Ranges.{IsPrice, LabelFits}
use Rattle.bound_certificate.specs.declared.certificate.Section.{Section}
use Rattle.column_pool.specs.Bounds.{IsNodeSection}
use Rattle.column_pool.specs.Nodes.{asked}

-- ---- labels as pricing and as certificates read them
same_label : (prices : List ℤ) (l : Label) → paid_label prices l ≡ priced_label prices l
unfolding level_times
same_label prices l = refl

same_labels : (prices : List ℤ) (labels : List Label) → map (paid_label prices) labels ≡ map (priced_label prices) labels
same_labels prices [] = refl
same_labels prices (l ∷ labels) = λ i. same_label prices l i ∷ same_labels prices labels i

closed_priced : (g : Network) (s : Section) → IsClosed g (section_of s.pairs s.weight s.prices s.labels) → IsClosed g (priced_section s)
closed_priced g s closed =
    let at : List PricedLabel → PricedSection = λ ls. record { weight = s.weight; prices = s.prices; allows = allows_of s.pairs; labels = ls } in
    subst (λ ls. IsClosed g (at ls)) (same_labels s.prices s.labels) closed

labels_fit : (g : Network) (labels : List Label) → All (IsInRange g) labels → All (HasPoints g) labels → All (LabelFits g) labels
labels_fit g labels ranges points =
    λ k d less.
    let range = ranges k d less in
    let point = points k d less in
    record { last = range.last; node = range.node; set = range.set; valid = point.valid; points = point.points }

pub closed_section : (g : Network) (s : Section) → AreClosed (asked g s.pairs s.weight s.prices) s.labels → s.pairs.customers ≡ length (customer_nodes g)
    → s.weight ≤ greatest_weight → length s.prices ≡ length (customer_nodes g) → All IsPrice s.prices → length s.labels ≤ most_items → IsNodeSection g s.pairs s
closed_section g s closed count weight prices small few = record {
  pairs = refl;
  closed = closed_priced g s closed.closed;
  fits = record {
    weight = weight;
    one_price = prices;
    prices = small;
    pairs = count;
    few = few;
    labels = labels_fit g s.labels closed.ranges closed.points;
  };
}

-- a section whose parts are these
pub section_closed : (g : Network) (p : ForbiddenPairs) (s : Section) (w : ℕ) (prices : List ℤ) (labels : List Label) → AreClosed (asked g p w prices) labels
    → s.pairs ≡ p → s.weight ≡ w → s.prices ≡ prices → s.labels ≡ labels → p.customers ≡ length (customer_nodes g) → w ≤ greatest_weight → length prices ≡ length (customer_nodes g) → All IsPrice prices → length s.labels ≤ most_items → IsNodeSection g p s
section_closed g p s w prices labels closed same weight is_prices is_labels count small_weight count_prices small few =
    let a = subst (λ (q : ForbiddenPairs). AreClosed (asked g q w prices) labels) (sym same) closed in
    let b = subst (λ (v : ℕ). AreClosed (asked g s.pairs v prices) labels) (sym weight) a in
    let d = subst (λ (ps : List ℤ). AreClosed (asked g s.pairs s.weight ps) labels) (sym is_prices) b in
    let e = subst (λ (ls : List Label). AreClosed (asked g s.pairs s.weight s.prices) ls) (sym is_labels) d in
    let fits = subst (λ (v : ℕ). v ≤ greatest_weight) (sym weight) small_weight in
    subst (λ (q : ForbiddenPairs). IsNodeSection g q s) same
    (closed_section g s e (ap (λ (q : ForbiddenPairs). q.customers) same ∙ count) fits (ap length is_prices ∙ count_prices) (subst (All IsPrice) (sym is_prices) small) few)
