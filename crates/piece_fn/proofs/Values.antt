-- What the parts of points mean as values.
use Rattle.std.proofs.Common.{◌≡◌, ◌∙◌, ℕ, ◌+◌, ◌-◌, ◌<◌, ◌≤◌, min, refl, sym, ap, List, [], ◌∷◌, get_or, length, arith}
use Rattle.charge_curve.specs.Points.{ArePoints, last_level, time_on}
use Rattle.ev_model.specs.Curve.{BeginsEmpty}
use Rattle.dominance.specs.Coverage.{CoversEach, Reaches}
use Rattle.dominance.specs.LevelTimes.{IsLevel, LevelTimes, time_at}
use Rattle.dominance.specs.Steps.{IsChargeFrom, IsShift, NothingLeft}
use Rattle.dominance.proofs.Pieces.{never_falls, time_on-before}
use Rattle.piece_fn.specs.PieceFn.{first_level, IsCut, IsReach, level_times}
use Rattle.piece_fn.specs.Reach.{LastsTo}
use Rattle.piece_fn.proofs.Levels.{first-level_times, first_is_least, is_level, level_is, reached, reaches, time_at-level_times}
use Rattle.piece_fn.proofs.Parts.{IsPart}

pub first_level-get_or : (ps : List (ℕ × ℕ)) (d : ℕ × ℕ) → ArePoints ps → (get_or ps 0 d).0 ≡ first_level ps
first_level-get_or [] d are = absurd are
first_level-get_or (p ∷ ps) d are = refl

pub first_time-get_or : (ps : List (ℕ × ℕ)) (d : ℕ × ℕ) → ArePoints ps → (get_or ps 0 d).1 ≡ time_at (level_times ps) (get_or ps 0 d).0
first_time-get_or [] d are = absurd are
first_time-get_or (p ∷ ps) d are =
    let is = is_level (p ∷ ps) p.0 are (omega arith) (first_is_least (p ∷ ps) are) in
    sym (time_at-level_times (p ∷ ps) p.0 are is ∙ time_on-before p ps p.0 are (omega arith))

-- after an arc
pub part_is_shift : (energy time limit : ℕ) (ps out : List (ℕ × ℕ)) → ArePoints ps → IsPart energy energy 0 time limit ps out → IsShift energy time limit (level_times ps) (level_times out)
part_is_shift energy time limit ps out are is = record {
  lowered = omega (arith, first-level_times ps, first-level_times out, is.first);
  left = λ level. (
    λ low.
        let inside = level_is out level is.are low in
        let there = is_level ps (level + energy) are (omega (arith, inside, is.first)) (omega (arith, inside, is.last)) in
        let value = time_at-level_times ps (level + energy) are there in
        let rises = never_falls ps are (level + energy) (last_level out + energy) (omega (arith, inside)) in
        (there, omega (arith, value, rises, is.within)),
    λ both.
        let inside = level_is ps (level + energy) are both.0 in
        let value = time_at-level_times ps (level + energy) are both.0 in
        let kept = is.all (level + energy) (omega arith) inside.1 (omega (arith, value, both.1)) in
        is_level out level is.are (omega (arith, is.first, inside)) (omega (arith, kept)),
  );
  later = λ level low.
      let inside = level_is out level is.are low in
      let there = is_level ps (level + energy) are (omega (arith, inside, is.first)) (omega (arith, inside, is.last)) in
      let value = time_at-level_times ps (level + energy) are there in
      let here = time_at-level_times out level is.are low in
      let place : level + energy - energy ≡ level = omega arith in
      let moved : time_on out level ≡ time + (time_on ps (level + energy) - 0) = ap (λ x. time_on out x) (sym place) ∙ is.times (level + energy) (omega arith) (omega (arith, inside)) in
      omega (arith, value, here, moved);
}

pub below_energy : (energy time limit : ℕ) (ps : List (ℕ × ℕ)) → ArePoints ps → last_level ps < energy → NothingLeft energy time limit (level_times ps)
below_energy energy time limit ps are less level is enough = let inside = level_is ps level are is in absurd (omega (arith, less, inside, enough))

pub past_limit : (energy time limit : ℕ) (ps : List (ℕ × ℕ)) → ArePoints ps → limit < time_on ps energy + time → NothingLeft energy time limit (level_times ps)
past_limit energy time limit ps are past level is enough =
    let value = time_at-level_times ps level are is in
    omega (arith, value, past, never_falls ps are energy level enough)

-- without the levels below one
pub part_is_cut : (least : ℕ) (ps out : List (ℕ × ℕ)) → ArePoints ps → least ≤ last_level ps → IsPart least 0 0 0 (time_on ps (last_level ps)) ps out → IsCut least (level_times ps) (level_times out)
part_is_cut least ps out are le is =
    let last = is.all (last_level ps) le (omega arith) (omega arith) in
    let place : (level : ℕ) → level - 0 ≡ level = λ level. omega arith in record {
      begins = omega (arith, first-level_times ps, first-level_times out, is.first);
      left = λ level. (
        λ low.
            let inside = level_is out level is.are low in
            (is_level ps level are (omega (arith, inside, is.first)) (omega (arith, inside, is.last)), omega (arith, inside, is.first)),
        λ both. let inside = level_is ps level are both.0 in is_level out level is.are (omega (arith, is.first, inside, both.1)) (omega (arith, last, inside)),
      );
      same = λ level low.
          let inside = level_is out level is.are low in
          let there = is_level ps level are (omega (arith, inside, is.first)) (omega (arith, inside, is.last)) in
          let value = time_at-level_times ps level are there in
          let here = time_at-level_times out level is.are low in
          let moved : time_on out level ≡ 0 + (time_on ps level - 0) = ap (λ x. time_on out x) (sym (place level)) ∙ is.times level (omega (arith, inside, is.first)) (omega (arith, inside)) in
          omega (arith, value, here, moved);
    }

pub below_least : (least : ℕ) (ps : List (ℕ × ℕ)) → ArePoints ps → last_level ps < least → (level : ℕ) → IsLevel (level_times ps) level → level < least
below_least least ps are less level is = let inside = level_is ps level are is in omega (arith, inside, less)

-- a cut keeps coverage
pub cut_keeps : (least extra : ℕ) (own other left mine : LevelTimes) → CoversEach own other extra → IsCut least other left → IsCut least own mine → CoversEach mine left extra
cut_keeps least extra own other left mine covers its ours level low =
    let before = (its.left level).0 low in
    let high = covers level before.0 in
    let there = (ours.left high.0).1 (high.1, omega (arith, before.1, high.2.0)) in
    (high.0, there, (high.2.0, omega (arith, ours.same high.0 there, its.same level low, high.2.1)))

pub cut_keeps_none : (least extra : ℕ) (own other left : LevelTimes) → CoversEach own other extra → IsCut least other left → ((level : ℕ) → IsLevel own level → level < least) → (level : ℕ) → IsLevel left level → ⊥
cut_keeps_none least extra own other left covers its none level low =
    let before = (its.left level).0 low in
    let high = covers level before.0 in
    let under = none high.0 high.1 in
    omega (arith, before.1, high.2.0, under)

-- after a charge
begins_at_zero : (curve : List (ℕ × ℕ)) → BeginsEmpty curve → first_level curve ≡ 0
begins_at_zero [] begins = absurd begins
begins_at_zero (p ∷ ps) begins = ap (λ (x : ℕ × ℕ). x.0) begins

pub part_is_charge : (ps curve : List (ℕ × ℕ)) (limit from empty start : ℕ) (out : List (ℕ × ℕ)) → ArePoints curve → BeginsEmpty curve → empty ≡ time_on curve from → start ≡ time_at (level_times ps) from
    → IsPart from 0 empty start limit curve out → IsChargeFrom (level_times ps) curve limit from (level_times out)
part_is_charge ps curve limit from empty start out are begins is_empty is_start is =
    let zero_is = begins_at_zero curve begins in
    let place : (level : ℕ) → level - 0 ≡ level = λ level. omega arith in record {
      begins = omega (arith, first-level_times out, is.first, zero_is);
      levels = λ level. (
        λ low.
            let inside = level_is out level is.are low in
            let rises = never_falls curve are level (last_level out + 0) (omega (arith, inside)) in
            (omega (arith, inside, is.first), omega (arith, inside, is.last), omega (arith, rises, is.within, is_empty, is_start)),
        λ both.
            let kept = is.all level both.0 both.1 (omega (arith, both.2, is_empty, is_start)) in
            is_level out level is.are (omega (arith, is.first, both.0, zero_is)) (omega (arith, kept)),
      );
      later = λ level low.
          let inside = level_is out level is.are low in
          let here = time_at-level_times out level is.are low in
          let moved : time_on out level ≡ start + (time_on curve level - empty) = ap (λ x. time_on out x) (sym (place level)) ∙ is.times level (omega (arith, inside, is.first)) (omega (arith, inside)) in
          omega (arith, here, moved, is_empty, is_start);
    }

-- how far coverage reaches
pub is_reach : (own other : List (ℕ × ℕ)) (extra from end to : ℕ) → ArePoints own → ArePoints other → end ≡ min (last_level own) (last_level other) → IsLevel (level_times other) from
    → LastsTo (time_on own) (time_on other) extra from end to → IsReach (level_times own) (level_times other) extra from to
is_reach own other extra from end to own_are other_are ends level is =
    let start = level_is other from other_are level in record {
      up = is.above;
      ends = is_level other to other_are (omega (arith, start, is.above)) (omega (arith, is.within, ends));
      reached = λ x le top.
          let there = is_level other x other_are (omega (arith, start, le)) (omega (arith, top, is.within, ends)) in
          let value = time_at-level_times other x other_are there in
          reaches own extra x (time_at (level_times other) x) own_are (omega (arith, top, is.within, ends)) (omega (arith, value, is.covered x le top));
      stops = λ next reach.
          let inside = level_is other (to + 1) other_are next in
          let value = time_at-level_times other (to + 1) other_are next in
          let there = reached own extra (to + 1) (time_at (level_times other) (to + 1)) own_are reach in
          let past = is.stops (omega (arith, inside, there, ends)) in
          omega (arith, past, there, value);
    }

pub not_reached_past : (own other : List (ℕ × ℕ)) (extra from end : ℕ) → ArePoints own → ArePoints other → end ≡ min (last_level own) (last_level other) → IsLevel (level_times other) from → end < from
    → Reaches (level_times own) extra from (time_at (level_times other) from) → ⊥
not_reached_past own other extra from end own_are other_are ends level past reach =
    let inside = level_is other from other_are level in
    let there = reached own extra from (time_at (level_times other) from) own_are reach in
    omega (arith, inside, there, ends, past)

pub not_reached_late : (own other : List (ℕ × ℕ)) (extra from : ℕ) → ArePoints own → ArePoints other → IsLevel (level_times other) from → time_on other from < time_on own from + extra
    → Reaches (level_times own) extra from (time_at (level_times other) from) → ⊥
not_reached_late own other extra from own_are other_are level late reach =
    let value = time_at-level_times other from other_are level in
    let there = reached own extra from (time_at (level_times other) from) own_are reach in
    omega (arith, value, there, late)

-- a value with one level is as late at each lower one
pub single_lasts : (own other : List (ℕ × ℕ)) (extra from end : ℕ) → ArePoints own → ArePoints other → length own ≡ 1 → from ≤ end → time_on own from + extra ≤ time_on other from
    → LastsTo (time_on own) (time_on other) extra from end end
single_lasts [] other extra from end own_are other_are one le covered = absurd own_are
single_lasts (p ∷ []) other extra from end own_are other_are one le covered = record {
  above = le;
  within = omega arith;
  covered = λ level up top. omega (arith, covered, never_falls other other_are from level up);
  stops = λ more. absurd (omega (arith, more));
}
single_lasts (p ∷ q ∷ ps) other extra from end own_are other_are one le covered = absurd (omega (arith, one))
