-- The levels and times of a value by supporting points.
use Rattle.std.proofs.Common.{◌≡◌, ◌∙◌, ℕ, ◌+◌, ◌-◌, ◌<◌, ◌≤◌, refl, List, [], ◌∷◌, arith, inl, inr}
use Rattle.std.proofs.lemmas.Bool.{cases_lt}
use Rattle.std.proofs.lemmas.List.FromFn.{get_or-map-range_with_len, length-map-range_with_len}
use Rattle.charge_curve.specs.Points.{ArePoints, last_level, time_on}
use Rattle.dominance.specs.Coverage.{Reaches}
use Rattle.dominance.specs.LevelTimes.{IsLevel, IsValue, time_at}
use Rattle.dominance.proofs.Pieces.{never_falls, time_on-before}
use Rattle.piece_fn.specs.PieceFn.{first_level, level_times}

pub first_is_least : (ps : List (ℕ × ℕ)) → ArePoints ps → first_level ps ≤ last_level ps
first_is_least [] are = absurd are
first_is_least (p ∷ []) are = omega arith
first_is_least (p ∷ q ∷ ps) are = omega (arith, are.0, first_is_least (q ∷ ps) are.3)

abbrev count : List (ℕ × ℕ) → ℕ
count ps = last_level ps + 1 - first_level ps

pub first-level_times : (ps : List (ℕ × ℕ)) → (level_times ps).first ≡ first_level ps
unfolding level_times
first-level_times ps = refl

pub is_level : (ps : List (ℕ × ℕ)) (level : ℕ) → ArePoints ps → first_level ps ≤ level → level ≤ last_level ps → IsLevel (level_times ps) level
unfolding level_times
is_level ps level are low high =
    let size = length-map-range_with_len (time_on ps) (first_level ps) (count ps) in
    (low, omega (arith, size, low, high))

pub level_is : (ps : List (ℕ × ℕ)) (level : ℕ) → ArePoints ps → IsLevel (level_times ps) level → (first_level ps ≤ level) × (level ≤ last_level ps)
unfolding level_times
level_is ps level are is =
    let size = length-map-range_with_len (time_on ps) (first_level ps) (count ps) in
    (is.0, omega (arith, size, is.1, first_is_least ps are))

pub time_at-level_times : (ps : List (ℕ × ℕ)) (level : ℕ) → ArePoints ps → IsLevel (level_times ps) level → time_at (level_times ps) level ≡ time_on ps level
unfolding level_times
time_at-level_times ps level are is =
    let within = level_is ps level are is in
    get_or-map-range_with_len (time_on ps) (first_level ps) (count ps) (level - first_level ps) level 0 (omega (arith, within)) (omega (arith, within))

pub is_value : (ps : List (ℕ × ℕ)) → ArePoints ps → IsValue (level_times ps)
unfolding level_times
is_value ps are =
    let size = length-map-range_with_len (time_on ps) (first_level ps) (count ps) in
    record {
      some = omega (arith, size, first_is_least ps are);
      rising = λ i j d le less.
          let inside : j < count ps = omega (arith, size, less) in
          let low = get_or-map-range_with_len (time_on ps) (first_level ps) (count ps) i (first_level ps + i) d (omega (arith, inside, le)) (omega arith) in
          let high = get_or-map-range_with_len (time_on ps) (first_level ps) (count ps) j (first_level ps + j) d inside (omega arith) in
          omega (arith, low, high, never_falls ps are (first_level ps + i) (first_level ps + j) (omega (arith, le)));
    }

-- the least level that is at least as high has the time of the points there
pub reaches : (ps : List (ℕ × ℕ)) (extra level time : ℕ) → ArePoints ps → level ≤ last_level ps → time_on ps level + extra ≤ time → Reaches (level_times ps) extra level time
reaches [] extra level time are last below = absurd are
reaches (p ∷ ps) extra level time are last below = elim (cases_lt level p.0) [
  | inl under ↦
      let is = is_level (p ∷ ps) p.0 are (omega arith) (first_is_least (p ∷ ps) are) in
      let here = time_at-level_times (p ∷ ps) p.0 are is ∙ time_on-before p ps p.0 are (omega arith) in
      (p.0, is, (omega (arith, under), omega (arith, here, below, time_on-before p ps level are (omega (arith, under)))))
  | inr over ↦
      let is = is_level (p ∷ ps) level are over last in
      let here = time_at-level_times (p ∷ ps) level are is in
      (level, is, (omega arith, omega (arith, here, below)))
]

pub reached : (ps : List (ℕ × ℕ)) (extra level time : ℕ) → ArePoints ps → Reaches (level_times ps) extra level time → (level ≤ last_level ps) × (time_on ps level + extra ≤ time)
reached ps extra level time are r =
    let within = level_is ps r.0 are r.1 in
    let here = time_at-level_times ps r.0 are r.1 in
    let rises = never_falls ps are level r.0 r.2.0 in
    (omega (arith, within, r.2.0), omega (arith, here, rises, r.2.1))
