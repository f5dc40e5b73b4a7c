-- Between which times a value is: its first point's, and that of the point after a level.
use Rattle.std.proofs.Common.{◌≡◌, ◌∙◌, ℕ, ◌+◌, ◌≤◌, true, ◌<◌, sym, ap, subst, List, ◌∷◌, length, get_or, arith, inl, inr}
use Rattle.std.specs.List.{list_all}
use Rattle.std.proofs.lemmas.Bool.{and_parts, cases_lt, leb-true}
use Rattle.charge_curve.specs.Points.{ArePoints, time_on}
use Rattle.charge_curve.proofs.Denominators.{two_from}
use Rattle.dominance.proofs.Pieces.{never_falls, piece_end, time_on-before, time_on-first}
use Rattle.piece_fn.specs.Cuts.{IsOnFirst, point_is_reached}

pub first_is_least : (p : ℕ × ℕ) (ps : List (ℕ × ℕ)) (level : ℕ) → ArePoints (p ∷ ps) → p.1 ≤ time_on (p ∷ ps) level
first_is_least p ps level are = elim (cases_lt level p.0) [
  | inl before ↦ omega (arith, time_on-before p ps level are (omega (arith, before)))
  | inr past ↦ omega (arith, time_on-before p ps p.0 are (omega arith), never_falls (p ∷ ps) are p.0 level past)
]

pub next_is_most : (p q : ℕ × ℕ) (ps : List (ℕ × ℕ)) (level : ℕ) → ArePoints (p ∷ q ∷ ps) → level ≤ q.0 → time_on (p ∷ q ∷ ps) level ≤ q.1
next_is_most p q ps level are le =
    let end : time_on (p ∷ q ∷ ps) q.0 ≡ q.1 = time_on-first p q ps q.0 (omega arith) ∙ piece_end p q are.1 are.2 in
    omega (arith, end, never_falls (p ∷ q ∷ ps) are level q.0 le)

-- the same of the first two points of a list
pub second_is_most : (ps : List (ℕ × ℕ)) (d : ℕ × ℕ) (level : ℕ) → ArePoints ps → 1 < length ps → IsOnFirst level ps → time_on ps level ≤ (get_or ps 1 d).1
second_is_most ps d level are more on =
    let two = two_from ps 0 d more in
    subst (λ (xs : List (ℕ × ℕ)). time_on xs level ≤ (get_or ps 1 d).1) (sym two.1)
    (next_is_most (get_or ps 0 d) (get_or ps 1 d) two.0 level (subst ArePoints two.1 are) (subst (IsOnFirst level) two.1 on))

-- where each point is reached, the least time is no later
pub least_is_in_time : (own other : List (ℕ × ℕ)) (extra : ℕ) (p q : ℕ × ℕ) (ps qs : List (ℕ × ℕ)) → ArePoints own → own ≡ p ∷ ps → other ≡ q ∷ qs → list_all (point_is_reached own extra) other ≡ true → p.1 + extra ≤ q.1
least_is_in_time own other extra p q ps qs are here there all =
    let first = and_parts (point_is_reached own extra q) (list_all (point_is_reached own extra) qs) (sym (ap (λ xs. list_all (point_is_reached own extra) xs) there) ∙ all) in
    let reached = leb-true (time_on own q.0 + extra) q.1 first.0 in
    let least = first_is_least p ps q.0 (subst ArePoints here are) in
    omega (arith, reached, least, ap (λ xs. time_on xs q.0) here)
