-- Times on a list of points, from one point to the next.
use Rattle.std.proofs.Common.{◌≡◌, ◌∙◌, ℕ, suc, ◌+◌, ◌-◌, ◌*◌, ◌/◌, ◌<◌, ◌≤◌, List, [], ◌∷◌, length, length-drop, get_or, drop, refl, sym, ap, subst, arith}
use Rattle.std.proofs.Math.Nat.{mul-sub}
use Rattle.std.proofs.Math.Seq.{drop-cons}
use Rattle.std.proofs.lemmas.Bool.{le-leb, lt-leb}
use Rattle.ev_model.specs.Curve.{charge_time}
use Rattle.ev_model.proofs.ChargeTime.{charge_time-first, charge_time-later}
use Rattle.charge_curve.specs.Points.{ArePoints, slope, time_on}
use Rattle.charge_curve.specs.Scaled.{scaled}
use Rattle.charge_curve.proofs.Denominators.{two_from}

-- the slope between scaled breakpoints
pub slope-scaled : (d : ℕ) (p q : ℕ × ℕ) → slope (scaled d p) (scaled d q) ≡ d * (q.0 - p.0) / (q.1 - p.1)
slope-scaled d p q = ap (λ x. x / (q.1 - p.1)) (sym (mul-sub d q.0 p.0))

no_points : (xs : List (ℕ × ℕ)) → length xs ≤ 0 → xs ≡ []
no_points [] le = refl
no_points (x ∷ xs) le = absurd (omega (arith, le))

-- the last point is left
one_left : (points : List (ℕ × ℕ)) (index : ℕ) (e : ℕ × ℕ) → index < length points → length points ≤ index + 1 → drop index points ≡ get_or points index e ∷ []
one_left points index e less le =
    drop-cons points index e less ∙ ap (λ xs. get_or points index e ∷ xs) (no_points (drop (suc index) points) (omega (arith, length-drop (suc index) points, le)))

-- breakpoints (time, charge)
pub charge_time-next : (d level : ℕ) (points : List (ℕ × ℕ)) (index : ℕ) (e : ℕ × ℕ) → index + 1 < length points → (get_or points (index + 1) e).1 < level →
    charge_time d (drop (index + 1) points) level ≡ charge_time d (drop index points) level
charge_time-next d level points index e less past =
    let two = two_from points index e less in
    rw (two.1, two.2) (sym (charge_time-later d (get_or points index e) (get_or points (index + 1) e) two.0 level past))

pub charge_time-here : (d level : ℕ) (points : List (ℕ × ℕ)) (index : ℕ) (e : ℕ × ℕ) → index + 1 < length points → level ≤ (get_or points (index + 1) e).1 →
    (let p = get_or points index e in let q = get_or points (index + 1) e in
    d * p.0 + slope (scaled d p) (scaled d q) * (level - p.1) ≡ charge_time d (drop index points) level)
charge_time-here d level points index e less within =
    let p = get_or points index e in
    let q = get_or points (index + 1) e in
    let two = two_from points index e less in
    rw (two.1) (ap (λ s. d * p.0 + s * (level - p.1)) (slope-scaled d p q) ∙ sym (charge_time-first d p q two.0 level within))

pub charge_time-last : (d level : ℕ) (points : List (ℕ × ℕ)) (index : ℕ) (e : ℕ × ℕ) → index < length points → length points ≤ index + 1 → d * (get_or points index e).0 ≡ charge_time d (drop index points) level
charge_time-last d level points index e less le = rw (one_left points index e less le) refl

-- points (level, time)
pub time_on-next : (level : ℕ) (points : List (ℕ × ℕ)) (index : ℕ) (e : ℕ × ℕ) → index + 1 < length points → (get_or points (index + 1) e).0 < level →
    time_on (drop (index + 1) points) level ≡ time_on (drop index points) level
time_on-next level points index e less past =
    let q = get_or points (index + 1) e in
    let two = two_from points index e less in
    rw (two.1, two.2, lt-leb level q.0 past) refl

pub time_on-here : (level : ℕ) (points : List (ℕ × ℕ)) (index : ℕ) (e : ℕ × ℕ) → index + 1 < length points → level ≤ (get_or points (index + 1) e).0 →
    (let p = get_or points index e in let q = get_or points (index + 1) e in p.1 + slope p q * (level - p.0) ≡ time_on (drop index points) level)
time_on-here level points index e less within =
    let q = get_or points (index + 1) e in
    let two = two_from points index e less in
    rw (two.1, le-leb level q.0 within) refl

pub time_on-last : (level : ℕ) (points : List (ℕ × ℕ)) (index : ℕ) (e : ℕ × ℕ) → index < length points → length points ≤ index + 1 → (get_or points index e).1 ≡ time_on (drop index points) level
time_on-last level points index e less le = rw (one_left points index e less le) refl

pub ArePoints-next : (points : List (ℕ × ℕ)) (index : ℕ) (e : ℕ × ℕ) → index + 1 < length points → ArePoints (drop index points) →
    ((get_or points index e).0 < (get_or points (index + 1) e).0) × ((get_or points index e).1 ≤ (get_or points (index + 1) e).1) × ArePoints (drop (index + 1) points)
ArePoints-next points index e less are =
    let two = two_from points index e less in
    let all : ArePoints (get_or points index e ∷ get_or points (index + 1) e ∷ two.0) = subst ArePoints two.1 are in
    (all.0, all.1, subst ArePoints (sym two.2) all.3)
