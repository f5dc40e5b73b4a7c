-- Times by supporting points: piece by piece, and never falling.
use Rattle.std.proofs.Common.{◌≡◌, ◌∙◌, ℕ, zero, suc, ◌+◌, ◌-◌, ◌*◌, ◌%◌, ◌<◌, ◌≤◌, refl, sym, ap, subst, List, [], ◌∷◌, arith, inl, inr, length, get_or}
use Rattle.std.proofs.Math.Nat.{div-add-mod', mul-le-mul_left}
use Rattle.std.proofs.lemmas.Bool.{cases_eq, cases_lt, le-leb, lt-leb}
use Rattle.charge_curve.specs.Points.{ArePoints, last_level, slope, time_on}

-- on the first piece
pub time_on-first : (p q : ℕ × ℕ) (ps : List (ℕ × ℕ)) (level : ℕ) → level ≤ q.0 → time_on (p ∷ q ∷ ps) level ≡ p.1 + slope p q * (level - p.0)
time_on-first p q ps level le = rw (le-leb level q.0 le) refl

-- which ends at the next point
pub piece_end : (p q : ℕ × ℕ) → p.1 ≤ q.1 → (q.1 - p.1) % (q.0 - p.0) ≡ 0 → p.1 + slope p q * (q.0 - p.0) ≡ q.1
piece_end p q le whole =
    let all = div-add-mod' (q.1 - p.1) (q.0 - p.0) in
    omega (arith, all, whole, le)

-- at the first point and below it
pub time_on-before : (p : ℕ × ℕ) (ps : List (ℕ × ℕ)) (level : ℕ) → ArePoints (p ∷ ps) → level ≤ p.0 → time_on (p ∷ ps) level ≡ p.1
time_on-before p [] level are le = refl
time_on-before p (q ∷ ps) level are le =
    let none : level - p.0 ≡ 0 = omega (arith, le) in
    time_on-first p q ps level (omega (arith, are.0, le)) ∙ ap (λ d. p.1 + slope p q * d) none ∙ omega arith

-- past the first piece the further points count alone
pub time_on-later : (p q : ℕ × ℕ) (ps : List (ℕ × ℕ)) (level : ℕ) → ArePoints (p ∷ q ∷ ps) → q.0 ≤ level → time_on (p ∷ q ∷ ps) level ≡ time_on (q ∷ ps) level
time_on-later p q ps level are le = elim (cases_eq level q.0) [
  | inl same ↦
      let here = time_on-first p q ps q.0 (omega arith) ∙ piece_end p q are.1 are.2 in
      let there = time_on-before q ps q.0 are.3 (omega arith) in
      ap (λ x. time_on (p ∷ q ∷ ps) x) same ∙ here ∙ sym there ∙ ap (λ x. time_on (q ∷ ps) x) (sym same)
  | inr apart ↦ rw (lt-leb level q.0 (omega (arith, le, apart))) refl
]

-- the next level takes no less time
pub time_on-next : (ps : List (ℕ × ℕ)) (level : ℕ) → ArePoints ps → time_on ps level ≤ time_on ps (level + 1)
time_on-next [] level are = omega arith
time_on-next (p ∷ []) level are = omega arith
time_on-next (p ∷ q ∷ ps) level are = elim (cases_lt level q.0) [
  | inl under ↦
      let more : slope p q * (level - p.0) ≤ slope p q * (level + 1 - p.0) = mul-le-mul_left (slope p q) (omega arith) in
      rw (time_on-first p q ps (level + 1) (omega (arith, under)), time_on-first p q ps level (omega (arith, under))) (omega (arith, more))
  | inr over ↦ rw (time_on-later p q ps (level + 1) are (omega (arith, over)), time_on-later p q ps level are over) (time_on-next (q ∷ ps) level are.3)
]

rises_by : (ps : List (ℕ × ℕ)) (level n : ℕ) → ArePoints ps → time_on ps level ≤ time_on ps (level + n)
rises_by ps level zero are = let same : level + 0 ≡ level = omega arith in rw same (omega arith)
rises_by ps level (suc n) are =
    let same : level + suc n ≡ level + n + 1 = omega arith in
    rw same (omega (arith, rises_by ps level n are, time_on-next ps (level + n) are))

pub never_falls : (ps : List (ℕ × ℕ)) → ArePoints ps → (low high : ℕ) → low ≤ high → time_on ps low ≤ time_on ps high
never_falls ps are low high le =
    let same : low + (high - low) ≡ high = omega (arith, le) in
    subst (λ x. time_on ps low ≤ time_on ps x) same (rises_by ps low (high - low) are)

-- the level of the last point
pub last_level-get_or : (ps : List (ℕ × ℕ)) (d : ℕ × ℕ) → 0 < length ps → (get_or ps (length ps - 1) d).0 ≡ last_level ps
last_level-get_or [] d some = absurd (omega arith)
last_level-get_or (p ∷ []) d some = refl
last_level-get_or (p ∷ q ∷ ps) d some =
    let step : length (p ∷ q ∷ ps) - 1 ≡ suc (length (q ∷ ps) - 1) = omega arith in
    ap (λ k. (get_or (p ∷ q ∷ ps) k d).0) step ∙ last_level-get_or (q ∷ ps) d (omega arith)
