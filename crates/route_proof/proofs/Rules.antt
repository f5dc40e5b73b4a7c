-- Labels are closed exactly where no rule is broken.
use Rattle.std.proofs.Common.{◌≡◌, ◌∙◌, ◌↔◌, ℕ, zero, suc, ◌<◌, ◌⊎◌, List, [], ◌∷◌, Some, length, get_or, refl, sym, subst, arith, inl, inr}
use Rattle.std.specs.List.{Contains}
use Rattle.std.specs.Prelude.{slice_get}
use Rattle.std.proofs.lemmas.Bool.{cases_Bool, cases_eq, cases_lt, false≢true}
use Rattle.std.proofs.lemmas.Option.{get_or_from_slice_get, slice_get_read, slice_get_within}
use Rattle.dominance.specs.Coverage.{Reaches, does_cover}
use Rattle.dominance.specs.Laws.{covers_exactly}
use Rattle.dominance.specs.LevelTimes.{LevelTimes}
use Rattle.piece_fn.specs.PieceFn.{level_times}
use Rattle.label_steps.specs.OneLevel.{one_level}
use Rattle.label_steps.proofs.Vehicles.{covers_vehicle, reaches_vehicle}
use Rattle.route_steps.specs.Trips.{Journey}
use Rattle.route_steps.specs.Ways.{Leaving, begin, leaving_after}
use Rattle.route_proof.specs.Broken.{IsBroken, Place, at_home, at_start, at_step}
use Rattle.route_proof.specs.Closed.{AreClosed}
use Rattle.route_proof.specs.Covered.{Covers, IsCovered, vehicle_at}
use Rattle.route_proof.specs.declared.proof.RouteLabel.{RouteLabel}

-- coverage can be decided
reaches_or_not : (v : LevelTimes) (level time : ℕ) → Reaches v 0 level time ⊎ (Reaches v 0 level time → ⊥)
reaches_or_not v level time = elim (cases_Bool (does_cover v (one_level level time) 0)) [
  | inl is ↦ inl (reaches_vehicle v level time ((covers_exactly v (one_level level time) 0).0 is))
  | inr other ↦ inr (λ r. false≢true (sym other ∙ (covers_exactly v (one_level level time) 0).1 (covers_vehicle v level time r)))
]

covers_or_not : (l : RouteLabel) (v : Leaving) → Covers l v ⊎ (Covers l v → ⊥)
covers_or_not l v = elim (cases_eq l.passed v.passed) [
  | inl passed ↦ elim (cases_eq l.node v.node) [
    | inl node ↦ elim (reaches_or_not (level_times l.value) v.level v.time) [
      | inl is ↦ inl (record { passed = passed; node = node; reaches = is })
      | inr none ↦ inr (λ c. none c.reaches)
    ]
    | inr other ↦ inr (λ c. other c.node)
  ]
  | inr other ↦ inr (λ c. other c.passed)
]

none_of_more : (l : RouteLabel) (labels : List RouteLabel) (v : Leaving) → (Covers l v → ⊥) → (IsCovered labels v → ⊥) → (m : RouteLabel) (i : ℕ) → i < length (l ∷ labels) → get_or (l ∷ labels) i m ≡ m → Covers m v → ⊥
none_of_more l labels v here later m zero less at covers = here (subst (λ (x : RouteLabel). Covers x v) (sym at) covers)
none_of_more l labels v here later m (suc i) less at covers = later (m, (i, omega (arith, less), at), covers)

pub covered_or_not : (labels : List RouteLabel) (v : Leaving) → IsCovered labels v ⊎ (IsCovered labels v → ⊥)
covered_or_not [] v = inr (λ c. absurd (let less = c.1.1 in omega (arith, less)))
covered_or_not (l ∷ labels) v = elim (covers_or_not l v) [
  | inl is ↦ inl (l, (0, omega arith, refl), is)
  | inr here ↦ elim (covered_or_not labels v) [
    | inl later ↦ (let less = later.1.1 in inl (later.0, (suc later.1.0, omega (arith, less), later.1.2), later.2))
    | inr none ↦ inr (λ c. none_of_more l labels v here none c.0 c.1.0 c.1.1 c.1.2 c.2)
  ]
]

-- what is not uncovered is covered
covered_unless : (labels : List RouteLabel) (v : Leaving) → ((IsCovered labels v → ⊥) → ⊥) → IsCovered labels v
covered_unless labels v h = elim (covered_or_not labels v) [
  | inl is ↦ is
  | inr other ↦ absurd (h other)
]

-- labels by their numbers
pub label_at : (labels : List RouteLabel) (n : ℕ) (l : RouteLabel) → slice_get labels n ≡ Some l → Contains labels l
label_at labels n l at = (n, slice_get_within labels n l at, get_or_from_slice_get labels n l l at)

pub number_of : (labels : List RouteLabel) (l : RouteLabel) (is : Contains labels l) → slice_get labels is.0 ≡ Some l
number_of labels l is = slice_get_read labels (length labels) is.0 l refl is.1 (sym is.2)

none_broken : (t : Journey) (bar : ℕ) (labels : List RouteLabel) → AreClosed t bar labels → (at : Place) → IsBroken t bar labels at → ⊥
none_broken t bar labels closed at_start broken = broken.1 (closed.begins broken.0)
none_broken t bar labels closed (at_step n node via) broken =
    let m = broken.2 in
    m.uncovered (closed.step broken.0 m.level m.stop (label_at labels n broken.0 broken.1) m.step m.on_way m.below)
none_broken t bar labels closed (at_home n) broken =
    let e = broken.2 in
    let past = closed.home broken.0 e.level e.stop (label_at labels n broken.0 broken.1) e.step e.home in
    let below = e.below in
    omega (arith, past, below)

closed_unless : (t : Journey) (bar : ℕ) (labels : List RouteLabel) → ((at : Place) → IsBroken t bar labels at → ⊥) → AreClosed t bar labels
closed_unless t bar labels none = record {
  begins = λ some. covered_unless labels (begin t.start) (λ missed. none at_start (some, missed));
  step = λ l level stop is step way below. covered_unless labels (leaving_after t.network (vehicle_at l level) stop)
      (λ missed. none (at_step is.0 stop.node stop.via) (l, number_of labels l is, record { level = level; stop = stop; step = step; node_is = refl; via_is = refl; on_way = way; below = below; uncovered = missed }));
  home = λ l level stop is step home. elim (cases_lt (leaving_after t.network (vehicle_at l level) stop).time bar) [
    | inl below ↦ absurd (none (at_home is.0) (l, number_of labels l is, record { level = level; stop = stop; step = step; home = home; below = below }))
    | inr past ↦ past
  ];
}

pub closed_by_rules : (t : Journey) (bar : ℕ) (labels : List RouteLabel) → AreClosed t bar labels ↔ ((at : Place) → IsBroken t bar labels at → ⊥)
closed_by_rules t bar labels = (none_broken t bar labels, closed_unless t bar labels)
