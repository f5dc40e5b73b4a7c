-- Values by plain lists of times: what loops over the times give.
use Rattle.std.proofs.Common.{◌≡◌, ◌∙◌, ℕ, ◌+◌, ◌-◌, ◌<◌, ◌≤◌, refl, sym, ap, subst, List, length, arith, inl, inr, get_or, Bool, true, false, ◌↔◌, ◌++◌, ◌∷◌, [], length-append}
use Rattle.std.specs.Prelude.{slice_index, slice_index_or}
use Rattle.std.specs.List.{All}
use Rattle.std.proofs.lemmas.Bool.{cases_lt}
use Rattle.std.proofs.Math.Seq.{get_or-append_seam}
use Rattle.std.proofs.lemmas.List.{get_or_append_left, get_or_default}
use Rattle.std.proofs.lemmas.List.Elements.{Contains-get_or}
use Rattle.charge_curve.specs.Points.{last_level, time_on}
use Rattle.dominance.specs.LevelTimes.{IsLevel, IsValue, LevelTimes, time_at}
use Rattle.dominance.specs.Coverage.{CoversEach, Reaches, SomeReaches}
use Rattle.dominance.specs.Steps.{charged, IsCharge, IsChargeFrom, IsShift, NothingLeft}
use Rattle.dominance.specs.Later.{AreLater}
use Rattle.dominance.specs.Laws.{charge_keeps}

abbrev pub row : ℕ → List ℕ → LevelTimes
row first times = record { first = first; times = times }

pub later_is_shift : (v : LevelTimes) (energy time limit skipped first : ℕ) (times : List ℕ) → skipped ≡ energy - v.first → first ≡ v.first - energy
    → AreLater v skipped time limit times → IsShift energy time limit v (row first times)
later_is_shift v energy time limit skipped first times skips begins is = record {
  lowered = begins;
  left = λ level. (
    λ low.
        let inside : level - first < length times = omega (arith, low) in
        let each = is.each (level - first) inside in
        let place : skipped + (level - first) ≡ level + energy - v.first = omega (arith, low, skips, begins) in
        let before : level + energy - v.first < length v.times = rw place at each.0 in
        let within : slice_index v.times (level + energy - v.first) + time ≤ limit = rw place at each.2 in
        ((omega (arith, low, begins), omega (arith, before, low)), within),
    λ low. elim (cases_lt (level - first) (length times)) [
      | inl inside ↦ (omega (arith, low, begins), omega (arith, inside, low, begins))
      | inr past ↦
          let over = is.no_more (level + energy - v.first) (omega (arith, past, low, skips, begins)) (omega (arith, low)) in
          absurd (omega (arith, over, low))
    ],
  );
  later = λ level low.
      let inside : level - first < length times = omega (arith, low) in
      let each = is.each (level - first) inside in
      let place : skipped + (level - first) ≡ level + energy - v.first = omega (arith, low, skips, begins) in
      each.1 ∙ ap (λ k. slice_index v.times k + time) place;
}

pub later_is_value : (v : LevelTimes) (skipped time limit first : ℕ) (times : List ℕ) → IsValue v → AreLater v skipped time limit times → 0 < length times → IsValue (row first times)
later_is_value v skipped time limit first times valid is some = record {
  some = some;
  rising = λ i j d le less.
      let low = is.each i (omega (arith, le, less)) in
      let high = is.each j less in
      let rises = valid.rising (skipped + i) (skipped + j) 0 (omega (arith, le)) high.0 in
      let here = get_or_default times i d 0 (omega (arith, le, less)) in
      let there = get_or_default times j d 0 less in
      omega (arith, low.1, high.1, rises, here, there);
}

pub none_later : (v : LevelTimes) (energy time limit skipped : ℕ) (times : List ℕ) → skipped ≡ energy - v.first → AreLater v skipped time limit times → length times ≤ 0 → NothingLeft energy time limit v
none_later v energy time limit skipped times skips is none level low enough =
    is.no_more (level - v.first) (omega (arith, none, low, enough, skips)) (omega (arith, low))

-- one level that is not reached is enough
pub not_covered : (own other : LevelTimes) (extra k : ℕ) → k < length other.times → (Reaches own extra (other.first + k) (slice_index other.times k) → ⊥) → CoversEach own other extra → ⊥
not_covered own other extra k less not_reached covers =
    let place : other.first + k - other.first ≡ k = omega arith in
    let reach = covers (other.first + k) (omega arith, omega (arith, less)) in
    not_reached (rw place at reach)

pub all_covered : (own other : LevelTimes) (extra n : ℕ) → length other.times ≤ n → ((k : ℕ) → k < n → Reaches own extra (other.first + k) (slice_index other.times k)) → CoversEach own other extra
all_covered own other extra n whole each level low =
    let place : other.first + (level - other.first) ≡ level = omega (arith, low) in
    let reach = each (level - other.first) (omega (arith, low, whole)) in
    rw place at reach

-- the times of a charge from one level, one for each level from there
pub record AreCharged (v : LevelTimes) (curve : List (ℕ × ℕ)) (limit from : ℕ) (times : List ℕ) : Type 0 where
  pub each : (k : ℕ) → k < length times → (slice_index times k ≡ charged v curve from (from + k)) × (charged v curve from (from + k) ≤ limit) × (from + k ≤ last_level curve)
  pub no_more : (level : ℕ) → from + length times ≤ level → level ≤ last_level curve → limit < charged v curve from level

pub charged_is_charge : (v : LevelTimes) (curve : List (ℕ × ℕ)) (limit from : ℕ) (times : List ℕ) → AreCharged v curve limit from times → IsChargeFrom v curve limit from (row from times)
charged_is_charge v curve limit from times are = record {
  begins = refl;
  levels = λ level. (
    λ low.
        let place : from + (level - from) ≡ level = omega (arith, low) in
        let each = are.each (level - from) (omega (arith, low)) in
        let within : charged v curve from level ≤ limit = rw place at each.1 in
        (low.0, omega (arith, each.2, place), within),
    λ is. elim (cases_lt level (from + length times)) [
      | inl inside ↦ (is.0, inside)
      | inr past ↦ absurd (omega (arith, are.no_more level past is.1, is.2))
    ],
  );
  later = λ level low.
      let place : from + (level - from) ≡ level = omega (arith, low) in
      let each = are.each (level - from) (omega (arith, low)) in
      each.0 ∙ ap (λ x. charged v curve from x) place;
}

-- the same, while levels are added
pub record IsChargedTo (v : LevelTimes) (curve : List (ℕ × ℕ)) (limit from level : ℕ) (times : List ℕ) : Type 0 where
  pub count : from + length times ≡ level
  pub each : (k : ℕ) → k < length times → (slice_index times k ≡ charged v curve from (from + k)) × (charged v curve from (from + k) ≤ limit)

pub charged_more : (v : LevelTimes) (curve : List (ℕ × ℕ)) (limit from level after : ℕ) (times : List ℕ) → IsChargedTo v curve limit from level times → after ≡ charged v curve from level → after ≤ limit
    → IsChargedTo v curve limit from (level + 1) (times ++ after ∷ [])
charged_more v curve limit from level after times is value within =
    let size = length-append times (after ∷ []) in
    record {
      count = omega (arith, size, is.count);
      each = λ k less. elim (cases_lt k (length times)) [
        | inl inside ↦ let old = is.each k inside in (get_or_append_left times (after ∷ []) 0 k inside ∙ old.0, old.1)
        | inr past ↦
            let last : k ≡ length times = omega (arith, past, less, size) in
            let place : from + k ≡ level = omega (arith, last, is.count) in
            let read : slice_index (times ++ after ∷ []) k ≡ after = rw last (get_or-append_seam times after [] 0) in
            (read ∙ value ∙ ap (λ x. charged v curve from x) (sym place), rw place (omega (arith, value, within)))
      ];
    }

pub charged_past : (v : LevelTimes) (curve : List (ℕ × ℕ)) (limit from level : ℕ) (times : List ℕ) → ((a b : ℕ) → a ≤ b → time_on curve a ≤ time_on curve b) → IsChargedTo v curve limit from level times
    → level ≤ last_level curve → limit < charged v curve from level → AreCharged v curve limit from times
charged_past v curve limit from level times rises is fits past = record {
  each = λ k less. let old = is.each k less in (old.0, old.1, omega (arith, less, is.count, fits));
  no_more = λ high over top. omega (arith, past, rises level high (omega (arith, over, is.count)));
}

pub charged_whole : (v : LevelTimes) (curve : List (ℕ × ℕ)) (limit from level : ℕ) (times : List ℕ) → IsChargedTo v curve limit from level times
    → level ≡ last_level curve + 1 → AreCharged v curve limit from times
charged_whole v curve limit from level times is whole = record {
  each = λ k less. let old = is.each k less in (old.0, old.1, omega (arith, less, is.count, whole));
  no_more = λ high over top. absurd (omega (arith, over, top, is.count, whole));
}

-- charging to a higher level takes no less
pub charged_rises : (v : LevelTimes) (curve : List (ℕ × ℕ)) (from low high : ℕ) → ((a b : ℕ) → a ≤ b → time_on curve a ≤ time_on curve b) → low ≤ high → charged v curve from low ≤ charged v curve from high
charged_rises v curve from low high rises le = omega (arith, rises low high le)

pub charged_is_value : (v : LevelTimes) (curve : List (ℕ × ℕ)) (limit from : ℕ) (times : List ℕ) → ((a b : ℕ) → a ≤ b → time_on curve a ≤ time_on curve b) → AreCharged v curve limit from times → 0 < length times → IsValue (row from times)
charged_is_value v curve limit from times rises are some = record {
  some = some;
  rising = λ i j d le less.
      let low = are.each i (omega (arith, le, less)) in
      let high = are.each j less in
      let here = get_or_default times i d 0 (omega (arith, le, less)) in
      let there = get_or_default times j d 0 less in
      omega (arith, low.0, high.0, here, there, charged_rises v curve from (from + i) (from + j) rises (omega (arith, le)));
}

-- a row for each level to charge from, up to the level number n
pub record AreCharges (v : LevelTimes) (curve : List (ℕ × ℕ)) (limit n : ℕ) (rows : List LevelTimes) : Type 0 where
  pub count : length rows ≡ n
  pub each : (k : ℕ) (d : LevelTimes) → k < n → IsValue (slice_index_or rows k d) × IsChargeFrom v curve limit (v.first + k) (slice_index_or rows k d)

pub charges_more : (v : LevelTimes) (curve : List (ℕ × ℕ)) (limit n : ℕ) (rows : List LevelTimes) (w : LevelTimes) → AreCharges v curve limit n rows → IsValue w → IsChargeFrom v curve limit (v.first + n) w
    → AreCharges v curve limit (n + 1) (rows ++ w ∷ [])
charges_more v curve limit n rows w are valid is =
    let size = length-append rows (w ∷ []) in
    record {
      count = omega (arith, size, are.count);
      each = λ k d less. elim (cases_lt k (length rows)) [
        | inl inside ↦ rw (get_or_append_left rows (w ∷ []) d k inside) (are.each k d (omega (arith, inside, are.count)))
        | inr past ↦
            let last : k ≡ length rows = omega (arith, past, less, are.count) in
            let place : k ≡ n = omega (arith, last, are.count) in
            let read : slice_index_or (rows ++ w ∷ []) k d ≡ w = rw last (get_or-append_seam rows w [] d) in
            rw (read, place) (valid, is)
      ];
    }

pub only_charges : (v : LevelTimes) (curve : List (ℕ × ℕ)) (limit : ℕ) (rows : List LevelTimes) → AreCharges v curve limit (length v.times) rows
    → All (λ w. (level : ℕ) → IsLevel w level → IsCharge v curve limit level (time_at w level)) rows
only_charges v curve limit rows are k d less level low =
    let each = are.each k d (omega (arith, less, are.count)) in
    let is = (each.1.levels level).0 low in
    record {
      from = v.first + k;
      starts = (omega arith, omega (arith, less, are.count));
      rises = is.0;
      fits = is.1;
      takes = each.1.later level low;
      in_time = omega (arith, each.1.later level low, is.2);
    }

pub values_charges : (v : LevelTimes) (curve : List (ℕ × ℕ)) (limit : ℕ) (rows : List LevelTimes) → AreCharges v curve limit (length v.times) rows → All IsValue rows
values_charges v curve limit rows are k d less = (are.each k d (omega (arith, less, are.count))).0

pub every_charge : (v : LevelTimes) (curve : List (ℕ × ℕ)) (limit : ℕ) (rows : List LevelTimes) → AreCharges v curve limit (length v.times) rows
    → (level time : ℕ) → IsCharge v curve limit level time → SomeReaches (λ w. w) rows 0 level time
every_charge v curve limit rows are level time is =
    let k = is.from - v.first in
    let inside : is.from - v.first < length rows = omega (arith, is.starts, are.count) in
    let each = are.each (is.from - v.first) v (omega (arith, inside, are.count)) in
    let place : v.first + (is.from - v.first) ≡ is.from = omega (arith, is.starts) in
    let from : IsChargeFrom v curve limit is.from (slice_index_or rows (is.from - v.first) v) = rw place at each.1 in
    let low = (from.levels level).1 (is.rises, is.fits, omega (arith, is.takes, is.in_time)) in
    let here = Contains-get_or rows (is.from - v.first) v inside in
    (here.0, slice_index_or rows (is.from - v.first) v, here.1, here.2, (level, low, (omega arith, omega (arith, from.later level low, is.takes))))

pub charges_keep : {V : Type 0} (meaning : V → LevelTimes) (v : LevelTimes) (curve : List (ℕ × ℕ)) (limit : ℕ) (values : List V) → ((a b : ℕ) → a ≤ b → time_on curve a ≤ time_on curve b) → ((level : ℕ) → IsLevel v level → level ≤ last_level curve)
    → ((level time : ℕ) → IsCharge v curve limit level time → SomeReaches meaning values 0 level time)
    → (other : LevelTimes) (extra level time : ℕ) → CoversEach v other extra → IsCharge other curve limit level time → SomeReaches meaning values extra level time
charges_keep meaning v curve limit values rises fits every other extra level time covers is =
    let own = charge_keeps v other curve limit extra rises fits covers level time is in
    let found = every own.high own.at own.is in
    (found.0, found.1, found.2, found.3, (found.4.0, found.4.1, (omega (arith, found.4.2, own.above), omega (arith, found.4.2, own.in_time))))

-- two tests of one fact agree
pub same_test : (a b : Bool) (P : Type 0) → ((a ≡ true) ↔ P) → ((b ≡ true) ↔ P) → a ≡ b
same_test true b P is same = sym (same.1 (is.0 refl))
same_test false true P is same = is.1 (same.0 refl)
same_test false false P is same = refl

-- the time that is read at a level by its number
pub time_at-number : (v : LevelTimes) (first index item before : ℕ) (times : List ℕ) → row first times ≡ v → index < length v.times → item ≡ get_or times index item → before ≡ item → before ≡ time_at v (first + index)
time_at-number v first index item before times is less read same =
    let inside : index < length times = subst (λ (w : LevelTimes). index < length w.times) (sym is) less in
    let place : index ≡ first + index - first = omega arith in
    same ∙ read ∙ get_or_default times index item 0 inside ∙ ap (λ k. slice_index times k) place ∙ ap (λ (w : LevelTimes). time_at w (first + index)) is

-- where the first level is within the limit, some level is
pub some_charged : (v : LevelTimes) (curve : List (ℕ × ℕ)) (limit from level : ℕ) (times : List ℕ) → IsChargedTo v curve limit from level times → time_at v from ≤ limit → limit < charged v curve from level → 0 < length times
some_charged v curve limit from level times is within past = elim (cases_lt 0 (length times)) [
  | inl some ↦ some
  | inr none ↦
      let same : level ≡ from = omega (arith, none, is.count) in
      let here : limit < charged v curve from from = subst (λ x. limit < charged v curve from x) same past in
      absurd (omega (arith, here, within))
]
