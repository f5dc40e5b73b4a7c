-- The labels of a search in the ranges of a closed list.
use Rattle.std.proofs.Common.{◌≡◌, ℕ, ◌<◌, List, [], ◌∷◌, arith, inl, inr}
use Rattle.std.specs.List.{All}
use Rattle.std.proofs.lemmas.List.Elements.{All-cons, All-nil, All-weaker}
use Rattle.charge_curve.specs.Points.{ArePoints, time_on}
use Rattle.ev_model.specs.Network.{IsNetwork, Network, node_count}
use Rattle.label_search.specs.Steps.{IsInRange as IsInRangeOf, IsListed}
use Rattle.piece_fn.proofs.Exact.{Each, each_support, IsWithin}
use Rattle.piece_fn.proofs.Levels.{is_level, time_at-level_times}
use Rattle.piece_fn.specs.declared.label.Label.{Label}
use Rattle.closed_lists.specs.Questions.{Question}
use Rattle.closed_lists.specs.Sections.{IsLabelOf}
use Rattle.pricing.specs.Answers.{HasPoints, IsInRange, IsPointOf}
use Rattle.pricing.specs.Labels.{route_space}

pub last_known : (q : Question) (l : Label) → IsNetwork q.network → IsInRangeOf (route_space q) l → l.last < node_count q.network
last_known q l network range = elim (range.fits.last) [ inl depot ↦ (let some = network.depot in omega (arith, depot, some)) | inr customer ↦ customer.0 ]

pub label_in_range : (q : Question) (l : Label) → IsNetwork q.network → IsInRangeOf (route_space q) l → IsLabelOf q.network l
label_in_range q l network range = record {
  last = last_known q l network range;
  node = range.node;
  levels = range.levels;
}

pub in_range : (q : Question) (l : Label) → IsInRangeOf (route_space q) l → IsInRange q.network l
in_range q l range = record {
  last = range.fits.last;
  node = range.node;
  set = range.fits.set;
  levels = range.levels;
  times = range.times;
}

-- each of some supporting points of a label in range is in range
points_within : (g : Network) (l : Label) → IsInRange g l → ArePoints l.value → (ps : List (ℕ × ℕ))
    → Each (λ p. (time_on l.value p.0 ≡ p.1) × IsWithin l.value p.0) ps → All (IsPointOf g) ps
points_within g l range are [] each = All-nil (IsPointOf g)
points_within g l range are (p ∷ ps) each =
    let level = is_level l.value p.0 are each.0.1.0 each.0.1.1 in
    let time = time_at-level_times l.value p.0 are level in
    let low = range.levels p.0 level in
    let early = range.times p.0 level in
    All-cons (IsPointOf g) p ps (low, omega (arith, time, early, each.0.0)) (points_within g l range are ps each.1)

has_points : (g : Network) (l : Label) → IsInRange g l → ArePoints l.value → HasPoints g l
has_points g l range are = record {
  valid = are;
  points = points_within g l range are l.value (each_support l.value are);
}

module _ (q : Question) (labels : List Label) (listed : All (IsListed (route_space q)) labels) where
  pub labels_of : IsNetwork q.network → All (IsLabelOf q.network) labels
  labels_of network = All-weaker (IsListed (route_space q)) (IsLabelOf q.network) (λ l is. label_in_range q l network is.range) labels listed

  pub ranges_of : All (IsInRange q.network) labels
  ranges_of = All-weaker (IsListed (route_space q)) (IsInRange q.network) (λ l is. in_range q l is.range) labels listed

  pub points_of : All (HasPoints q.network) labels
  points_of = All-weaker (IsListed (route_space q)) (HasPoints q.network) (λ l is. has_points q.network l (in_range q l is.range) is.valid) labels listed
