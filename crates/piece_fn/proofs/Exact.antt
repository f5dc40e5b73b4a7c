-- The test at supporting points is exact at every whole level.
use Rattle.std.proofs.Common.{◌≡◌, ◌∙◌, ℕ, ◌+◌, ◌<◌, ◌≤◌, Bool, true, false, not, ◌&&◌, ◌||◌, refl, subst, List, [], ◌∷◌, arith, inl, inr, ◌↔◌}
use Rattle.std.specs.List.{list_all}
use Rattle.std.specs.Prelude.{nat_le, nat_eq}
use Rattle.std.proofs.lemmas.Bool.{le-leb, leb-true, eq-eqb, eqb-true, and_parts, and_from, or_cases, or_parts, false≢true}
use Rattle.charge_curve.specs.Points.{ArePoints, last_level, time_on}
use Rattle.dominance.specs.Coverage.{CoversEach}
use Rattle.dominance.specs.LevelTimes.{time_at}
use Rattle.dominance.proofs.Pieces.{time_on-before, time_on-later}
use Rattle.piece_fn.specs.Cuts.{covers_at_points, point_is_reached, point_reaches}
use Rattle.piece_fn.specs.PieceFn.{first_level, is_support, level_times}
use Rattle.piece_fn.proofs.LeastDifference.{below_between, Bends}
use Rattle.piece_fn.proofs.Levels.{first_is_least, is_level, level_is, reached, reaches, time_at-level_times}
use Rattle.piece_fn.proofs.Straight.{straight}

-- a level from the first to the last
abbrev pub IsWithin : List (ℕ × ℕ) → ℕ → Type 0
IsWithin ps level = (first_level ps ≤ level) × (level ≤ last_level ps)

abbrev reached_there : List (ℕ × ℕ) → ℕ → List (ℕ × ℕ) → Bool
reached_there own extra other = list_all (point_is_reached own extra) other

abbrev reaches_there : List (ℕ × ℕ) → ℕ → List (ℕ × ℕ) → Bool
reaches_there other extra own = list_all (point_reaches (first_level other) (last_level other) other extra) own

-- at each level of the other value this one has a time that is no later
abbrev pub IsBelow : List (ℕ × ℕ) → List (ℕ × ℕ) → ℕ → Type 0
IsBelow own other extra = (last_level other ≤ last_level own) × ((level : ℕ) → IsWithin other level → time_on own level + extra ≤ time_on other level)

abbrev pub Each : (ℕ × ℕ → Type 0) → List (ℕ × ℕ) → Type 0
Each P [] = Unit {0}
Each P (p ∷ ps) = P p × Each P ps

each_weaker : (P Q : ℕ × ℕ → Type 0) → ((p : ℕ × ℕ) → P p → Q p) → (ps : List (ℕ × ℕ)) → Each P ps → Each Q ps
each_weaker P Q f [] e = tt
each_weaker P Q f (p ∷ ps) e = (f p e.0, each_weaker P Q f ps e.1)

each_passes : (test : ℕ × ℕ → Bool) (ps : List (ℕ × ℕ)) → list_all test ps ≡ true → Each (λ p. test p ≡ true) ps
each_passes test [] h = tt
each_passes test (p ∷ ps) h = let both = and_parts (test p) (list_all test ps) h in (both.0, each_passes test ps both.1)

all_pass : (test : ℕ × ℕ → Bool) (ps : List (ℕ × ℕ)) → Each (λ p. test p ≡ true) ps → list_all test ps ≡ true
all_pass test [] e = refl
all_pass test (p ∷ ps) e = and_from (test p) (list_all test ps) e.0 (all_pass test ps e.1)

both_each : (P Q : ℕ × ℕ → Type 0) (ps : List (ℕ × ℕ)) → Each P ps → Each Q ps → Each (λ p. P p × Q p) ps
both_each P Q [] e h = tt
both_each P Q (p ∷ ps) e h = ((e.0, h.0), both_each P Q ps e.1 h.1)

find_support : (P : ℕ × ℕ → Type 0) (ps : List (ℕ × ℕ)) (y : ℕ) → is_support ps y ≡ true → Each P ps → (p : ℕ × ℕ) × (p.0 ≡ y) × P p
find_support P [] y is e = absurd (false≢true is)
find_support P (p ∷ ps) y is e = elim (or_cases (nat_eq p.0 y) (is_support ps y) is) [
  | inl here ↦ (p, eqb-true p.0 y here, e.0)
  | inr there ↦ find_support P ps y there e.1
]

-- each supporting point is a level with its time
pub each_support : (ps : List (ℕ × ℕ)) → ArePoints ps → Each (λ p. (time_on ps p.0 ≡ p.1) × IsWithin ps p.0) ps
each_support [] are = tt
each_support (p ∷ []) are = ((refl, (omega arith, omega arith)), tt)
each_support (p ∷ q ∷ ps) are =
    let last = first_is_least (q ∷ ps) are.3 in (
      (time_on-before p (q ∷ ps) p.0 are (omega arith), (omega arith, omega (arith, are.0, last))),
      each_weaker (λ r. (time_on (q ∷ ps) r.0 ≡ r.1) × IsWithin (q ∷ ps) r.0) (λ r. (time_on (p ∷ q ∷ ps) r.0 ≡ r.1) × IsWithin (p ∷ q ∷ ps) r.0)
          (λ r h. (time_on-later p q ps r.0 are h.1.0 ∙ h.0, (omega (arith, are.0, h.1.0), h.1.1))) (q ∷ ps) (each_support (q ∷ ps) are.3),
    )

pub first_support : (ps : List (ℕ × ℕ)) → ArePoints ps → is_support ps (first_level ps) ≡ true
first_support [] are = absurd are
first_support (p ∷ ps) are = let is : nat_eq p.0 p.0 ≡ true = eq-eqb p.0 p.0 refl in rw is refl

pub last_support : (ps : List (ℕ × ℕ)) → ArePoints ps → is_support ps (last_level ps) ≡ true
last_support [] are = absurd are
last_support (p ∷ []) are = first_support (p ∷ []) are
last_support (p ∷ q ∷ ps) are = let rest = last_support (q ∷ ps) are.3 in grind (arith, rest)

point_says : (other : List (ℕ × ℕ)) (extra : ℕ) (p : ℕ × ℕ) (z : ℕ) → p.0 ≡ z → first_level other ≤ z → z ≤ last_level other → point_reaches (first_level other) (last_level other) other extra p ≡ true → p.1 + extra ≤ time_on other z
point_says other extra p z at lz zh says =
    let above : nat_le (first_level other) p.0 ≡ true = le-leb (first_level other) p.0 (omega (arith, at, lz)) in
    let below : nat_le p.0 (last_level other) ≡ true = le-leb p.0 (last_level other) (omega (arith, at, zh)) in
    let test : nat_le (p.1 + extra) (time_on other p.0) ≡ true = rw (above, below) at says in
    subst (λ x. p.1 + extra ≤ time_on other x) at (leb-true _ _ test)

is_below : (own other : List (ℕ × ℕ)) (extra : ℕ) → ArePoints own → ArePoints other → covers_at_points own other extra ≡ true → IsBelow own other extra
is_below own other extra are_own are_other passes =
    let parts = and_parts (nat_le (last_level other) (last_level own)) (reached_there own extra other && reaches_there other extra own) passes in
    let lists = and_parts (reached_there own extra other) (reaches_there other extra own) parts.1 in
    let low = first_level other in
    let high = last_level other in
    let marked = λ (z : ℕ). is_support own z || is_support other z in
    let bends : (z : ℕ) → low < z → z < high → marked z ≡ false → Bends (time_on other) (time_on own) z = λ z lz zh none.
    let both = or_parts (is_support own z) (is_support other z) none in
    let mine = straight own z are_own (omega (arith, lz)) both.0 in
    let its = straight other z are_other (omega (arith, lz)) both.1 in
    omega (arith, mine, its) in
    let at_other : (z : ℕ) → is_support other z ≡ true → time_on own z + extra ≤ time_on other z = λ z is.
    let found = find_support _ other z is (both_each _ _ other (each_support other are_other) (each_passes (point_is_reached own extra) other lists.0)) in
    let time : time_on other z ≡ found.0.1 = subst (λ x. time_on other x ≡ found.0.1) found.1 found.2.0.0 in
    let below : time_on own z + extra ≤ found.0.1 = subst (λ x. time_on own x + extra ≤ found.0.1) found.1 (leb-true _ _ found.2.1) in
    omega (arith, time, below) in
    let at_own : (z : ℕ) → low ≤ z → z ≤ high → is_support own z ≡ true → time_on own z + extra ≤ time_on other z = λ z lz zh is.
    let found = find_support _ own z is (both_each _ _ own (each_support own are_own) (each_passes (point_reaches (first_level other) (last_level other) other extra) own lists.1)) in
    let time : time_on own z ≡ found.0.1 = subst (λ x. time_on own x ≡ found.0.1) found.1 found.2.0.0 in
    let below = point_says other extra found.0 z found.1 lz zh found.2.1 in
    omega (arith, time, below) in
    let at_marks : (z : ℕ) → low ≤ z → z ≤ high → marked z ≡ true → time_on own z + extra ≤ time_on other z = λ z lz zh is.
    elim (or_cases (is_support own z) (is_support other z) is) [
      | inl mine ↦ at_own z lz zh mine
      | inr its ↦ at_other z its
    ] in (
      leb-true (last_level other) (last_level own) parts.0,
      λ level within.
          below_between (time_on other) (time_on own) marked low high extra bends (at_other low (first_support other are_other)) (at_other high (last_support other are_other)) at_marks level within.0 within.1,
    )

reached_at : (own other : List (ℕ × ℕ)) (extra : ℕ) → IsBelow own other extra → (p : ℕ × ℕ) → (time_on other p.0 ≡ p.1) × IsWithin other p.0 → point_is_reached own extra p ≡ true
reached_at own other extra below p at =
    let here = below.1 p.0 at.1 in
    le-leb (time_on own p.0 + extra) p.1 (omega (arith, here, at.0))

says_true : (a b c : Bool) → ((a && b) ≡ true → c ≡ true) → (not (a && b) || c) ≡ true
says_true true true c h = h refl
says_true true false c h = refl
says_true false b c h = refl

reaches_at : (own other : List (ℕ × ℕ)) (extra : ℕ) → IsBelow own other extra → (p : ℕ × ℕ) → (time_on own p.0 ≡ p.1) × IsWithin own p.0 → point_reaches (first_level other) (last_level other) other extra p ≡ true
reaches_at own other extra below p at =
    says_true (nat_le (first_level other) p.0) (nat_le p.0 (last_level other)) (nat_le (p.1 + extra) (time_on other p.0)) (λ inside.
    let parts = and_parts (nat_le (first_level other) p.0) (nat_le p.0 (last_level other)) inside in
    let here = below.1 p.0 (leb-true _ _ parts.0, leb-true _ _ parts.1) in
    le-leb (p.1 + extra) (time_on other p.0) (omega (arith, here, at.0)))

passes : (own other : List (ℕ × ℕ)) (extra : ℕ) → ArePoints own → ArePoints other → IsBelow own other extra → covers_at_points own other extra ≡ true
passes own other extra are_own are_other below =
    let of_other = all_pass (point_is_reached own extra) other (each_weaker _ _ (reached_at own other extra below) other (each_support other are_other)) in
    let of_own = all_pass (point_reaches (first_level other) (last_level other) other extra) own (each_weaker _ _ (reaches_at own other extra below) own (each_support own are_own)) in
    and_from (nat_le (last_level other) (last_level own)) (reached_there own extra other && reaches_there other extra own) (le-leb (last_level other) (last_level own) below.0)
    (and_from (reached_there own extra other) (reaches_there other extra own) of_other of_own)

pub covers_from : (own other : List (ℕ × ℕ)) (extra : ℕ) → ArePoints own → ArePoints other → IsBelow own other extra → CoversEach (level_times own) (level_times other) extra
covers_from own other extra are_own are_other below level is =
    let within = level_is other level are_other is in
    let here = below.1 level within in
    let time = time_at-level_times other level are_other is in
    reaches own extra level (time_at (level_times other) level) are_own (omega (arith, within, below.0)) (omega (arith, here, time))

pub below_from : (own other : List (ℕ × ℕ)) (extra : ℕ) → ArePoints own → ArePoints other → CoversEach (level_times own) (level_times other) extra → IsBelow own other extra
below_from own other extra are_own are_other covers =
    let last = is_level other (last_level other) are_other (first_is_least other are_other) (omega arith) in (
      (reached own extra (last_level other) (time_at (level_times other) (last_level other)) are_own (covers (last_level other) last)).0,
      λ level within.
          let is = is_level other level are_other within.0 within.1 in
          let here = reached own extra level (time_at (level_times other) level) are_own (covers level is) in
          omega (arith, here.1, time_at-level_times other level are_other is),
    )

pub exact : (own other : List (ℕ × ℕ)) (extra : ℕ) → ArePoints own → ArePoints other → (covers_at_points own other extra ≡ true) ↔ CoversEach (level_times own) (level_times other) extra
exact own other extra are_own are_other = (
  λ is. covers_from own other extra are_own are_other (is_below own other extra are_own are_other is),
  λ covers. passes own other extra are_own are_other (below_from own other extra are_own are_other covers),
)
