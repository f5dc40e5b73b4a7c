-- A value with one level after an arc and a charge. What covers it goes on as it does.
use Rattle.std.proofs.Common.{◌≡◌, ℕ, ◌+◌, ◌-◌, ◌≤◌, List, refl, sym, ◌∙◌, ap, arith}
use Rattle.charge_curve.specs.Points.{last_level, time_on}
use Rattle.dominance.specs.Coverage.{CoversEach, Reaches}
use Rattle.dominance.specs.LevelTimes.{IsLevel, LevelTimes, time_at}
use Rattle.dominance.specs.Steps.{IsCharge, IsShift}
use Rattle.label_steps.specs.OneLevel.{one_level}

pub its_level : (level time x : ℕ) → IsLevel (one_level level time) x → x ≡ level
its_level level time x is = omega arith

pub has_level : (level time : ℕ) → IsLevel (one_level level time) level
has_level level time = (omega arith, omega arith)

pub its_time : (level time : ℕ) → time_at (one_level level time) level ≡ time
its_time level time = let e : level - level ≡ 0 = omega arith in rw e refl

pub time_there : (level time x : ℕ) → IsLevel (one_level level time) x → time_at (one_level level time) x ≡ time
time_there level time x is =
    let e : x - level ≡ 0 = omega arith in rw e refl

pub shifted_point : (energy time limit level at : ℕ) → energy ≤ level → at + time ≤ limit → IsShift energy time limit (one_level level at) (one_level (level - energy) (at + time))
shifted_point energy time limit level at enough in_time = record {
  lowered = refl;
  left = λ x. (
    λ low.
        let there : IsLevel (one_level level at) (x + energy) = (omega arith, omega arith) in
        (there, omega (arith, time_there level at (x + energy) there)),
    λ both. (omega (arith, both.0), omega (arith, both.0)),
  );
  later = λ x low.
      let there : IsLevel (one_level level at) (x + energy) = (omega arith, omega arith) in
      time_there (level - energy) (at + time) x low ∙ ap (λ t. t + time) (sym (time_there level at (x + energy) there));
}

pub charged_point : (curve : List (ℕ × ℕ)) (limit level at to : ℕ) → level ≤ to → to ≤ last_level curve → at + (time_on curve to - time_on curve level) ≤ limit
    → IsCharge (one_level level at) curve limit to (at + (time_on curve to - time_on curve level))
charged_point curve limit level at to up fits in_time = record {
  from = level;
  starts = has_level level at;
  rises = up;
  fits = fits;
  takes = ap (λ t. t + (time_on curve to - time_on curve level)) (sym (its_time level at));
  in_time = in_time;
}

pub covers_point : (v : LevelTimes) (extra level time : ℕ) → Reaches v extra level time → CoversEach v (one_level level time) extra
covers_point v extra level time reach x is =
    let same : level ≡ x = sym (its_level level time x is) in
    let there : time ≡ time_at (one_level level time) x = sym (time_there level time x is) in
    (reach.0, reach.1, (omega (arith, reach.2.0), omega (arith, reach.2.1)))

pub reaches_point : (v : LevelTimes) (extra level time : ℕ) → CoversEach v (one_level level time) extra → Reaches v extra level time
reaches_point v extra level time covers =
    let reach = covers level (has_level level time) in
    let there = its_time level time in
    (reach.0, reach.1, (reach.2.0, omega (arith, reach.2.1)))
