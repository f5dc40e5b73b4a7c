-- Times by supporting points are straight off the supporting levels, and a slowing list bends upward alone.
use Rattle.std.proofs.Common.{◌≡◌, ◌≢◌, ◌∙◌, ℕ, zero, suc, ◌+◌, ◌-◌, ◌*◌, ◌<◌, ◌≤◌, Bool, false, ◌||◌, refl, sym, subst, List, [], ◌∷◌, arith, inl, inr}
use Rattle.std.specs.Prelude.{nat_eq}
use Rattle.std.proofs.lemmas.Bool.{cases_eq, cases_lt, eq-eqb, or_parts, false≢true}
use Rattle.charge_curve.specs.Points.{ArePoints, IsSlowing, last_level, slope, time_on}
use Rattle.dominance.proofs.Pieces.{piece_end, time_on-first, time_on-later}
use Rattle.piece_fn.specs.PieceFn.{is_support}

scaled_sum : (a m d : ℕ) → 0 < d → (a + m * (d + 1)) + (a + m * (d - 1)) ≡ 2 * (a + m * d)
scaled_sum a m zero some = absurd (omega arith)
scaled_sum a m (suc d) some = let less : suc d - 1 ≡ d = omega arith in rw less (omega arith)

-- three neighbours on one piece, whose first level is b
pub straight_piece : (a m b level : ℕ) → level ≢ b → 0 < level → (a + m * (level + 1 - b)) + (a + m * (level - 1 - b)) ≡ 2 * (a + m * (level - b))
straight_piece a m b level apart some = elim (cases_lt level b) [
  | inl under ↦
      let first : level + 1 - b ≡ 0 = omega (arith, under) in
      let second : level - 1 - b ≡ 0 = omega (arith, under) in
      let third : level - b ≡ 0 = omega (arith, under) in
      rw (first, second, third) (omega arith)
  | inr over ↦
      let first : level + 1 - b ≡ (level - b) + 1 = omega (arith, over) in
      let second : level - 1 - b ≡ (level - b) - 1 = omega (arith, over, apart) in
      rw (first, second) (scaled_sum a m (level - b) (omega (arith, over, apart)))
]

not_here : (p : ℕ × ℕ) (level : ℕ) (rest : Bool) → (nat_eq p.0 level || rest) ≡ false → level ≢ p.0
not_here p level rest none same = false≢true (sym (or_parts (nat_eq p.0 level) rest none).0 ∙ eq-eqb p.0 level (sym same))

pub straight : (ps : List (ℕ × ℕ)) (level : ℕ) → ArePoints ps → 0 < level → is_support ps level ≡ false → time_on ps (level + 1) + time_on ps (level - 1) ≡ 2 * time_on ps level
straight [] level are some none = refl
straight (p ∷ []) level are some none = omega arith
straight (p ∷ q ∷ ps) level are some none = elim (cases_lt level q.0) [
  | inl under ↦
      rw (time_on-first p q ps (level + 1) (omega (arith, under)), time_on-first p q ps (level - 1) (omega (arith, under)), time_on-first p q ps level (omega (arith, under)))
      (straight_piece p.1 (slope p q) p.0 level (not_here p level (is_support (q ∷ ps) level) none) some)
  | inr over ↦
      let later = (or_parts (nat_eq p.0 level) (is_support (q ∷ ps) level) none).1 in
      let apart = not_here q level (is_support ps level) later in
      rw (time_on-later p q ps (level + 1) are (omega (arith, over)), time_on-later p q ps (level - 1) are (omega (arith, over, apart)), time_on-later p q ps level are over)
      (straight (q ∷ ps) level are.3 some later)
]

-- a piece bends upward at its first level
bent_piece : (a m b level : ℕ) → 0 < level → 2 * (a + m * (level - b)) ≤ (a + m * (level + 1 - b)) + (a + m * (level - 1 - b))
bent_piece a m b level some = elim (cases_eq level b) [
  | inl same ↦
      let none : level - b ≡ 0 = omega (arith, same) in
      rw none (omega arith)
  | inr apart ↦ omega (arith, straight_piece a m b level apart some)
]

step_back : (a m d : ℕ) → 0 < d → (a + m * (d - 1)) + m ≡ a + m * d
step_back a m zero some = absurd (omega arith)
step_back a m (suc d) some = let less : suc d - 1 ≡ d = omega arith in rw less (omega arith)

-- where a piece follows that is no faster
corner : (p q r : ℕ × ℕ) (ps : List (ℕ × ℕ)) → ArePoints (p ∷ q ∷ r ∷ ps) → slope p q ≤ slope q r
    → 2 * time_on (p ∷ q ∷ r ∷ ps) q.0 ≤ time_on (p ∷ q ∷ r ∷ ps) (q.0 + 1) + time_on (p ∷ q ∷ r ∷ ps) (q.0 - 1)
corner p q r ps are less =
    let here : time_on (p ∷ q ∷ r ∷ ps) q.0 ≡ p.1 + slope p q * (q.0 - p.0) = time_on-first p q (r ∷ ps) q.0 (omega arith) in
    let end = piece_end p q are.1 are.2 in
    let back : time_on (p ∷ q ∷ r ∷ ps) (q.0 - 1) ≡ p.1 + slope p q * (q.0 - 1 - p.0) = time_on-first p q (r ∷ ps) (q.0 - 1) (omega arith) in
    let gap : q.0 - 1 - p.0 ≡ (q.0 - p.0) - 1 = omega arith in
    let back_step = step_back p.1 (slope p q) (q.0 - p.0) (omega (arith, are.0)) in
    let next : time_on (p ∷ q ∷ r ∷ ps) (q.0 + 1) ≡ q.1 + slope q r * (q.0 + 1 - q.0) = time_on-later p q (r ∷ ps) (q.0 + 1) are (omega arith) ∙ time_on-first q r ps (q.0 + 1) (omega (arith, are.3.0)) in
    let one : q.0 + 1 - q.0 ≡ 1 = omega arith in
    rw (here, back, next, gap, one) (omega (arith, end, back_step, less))

-- no level below the last takes less than the one before it
pub slows : (ps : List (ℕ × ℕ)) (level : ℕ) → ArePoints ps → IsSlowing ps → 0 < level → level < last_level ps → 2 * time_on ps level ≤ time_on ps (level + 1) + time_on ps (level - 1)
slows [] level are slow some under = absurd are
slows (p ∷ []) level are slow some under = omega arith
slows (p ∷ q ∷ []) level are slow some under =
    rw (time_on-first p q [] (level + 1) (omega (arith, under)), time_on-first p q [] (level - 1) (omega (arith, under)), time_on-first p q [] level (omega (arith, under))) (bent_piece p.1 (slope p q) p.0 level some)
slows (p ∷ q ∷ r ∷ ps) level are slow some under = elim (cases_lt level q.0) [
  | inl before ↦
      rw (time_on-first p q (r ∷ ps) (level + 1) (omega (arith, before)), time_on-first p q (r ∷ ps) (level - 1) (omega (arith, before)), time_on-first p q (r ∷ ps) level (omega (arith, before)))
      (bent_piece p.1 (slope p q) p.0 level some)
  | inr from ↦ elim (cases_eq level q.0) [
    | inl same ↦ subst (λ x. 2 * time_on (p ∷ q ∷ r ∷ ps) x ≤ time_on (p ∷ q ∷ r ∷ ps) (x + 1) + time_on (p ∷ q ∷ r ∷ ps) (x - 1)) (sym same) (corner p q r ps are slow.0)
    | inr apart ↦
        rw (time_on-later p q (r ∷ ps) (level + 1) are (omega (arith, from)), time_on-later p q (r ∷ ps) (level - 1) are (omega (arith, from, apart)), time_on-later p q (r ∷ ps) level are from)
        (slows (q ∷ r ∷ ps) level are.3 slow.1 some under)
  ]
]
