-- Charging from where it pays is enough: each charge is covered by one that begins there, or by the value itself.
use Rattle.std.proofs.Common.{◌≡◌, ◌∙◌, ℕ, zero, suc, ◌+◌, ◌-◌, ◌*◌, ◌<◌, ◌≤◌, Bool, true, false, ◌⊎◌, refl, sym, ap, subst, List, [], ◌∷◌, ◌++◌, length, take, drop, get_or, arith, inl, inr, Option, Some, None}
use Rattle.std.specs.Prelude.{IfSome, MatchOption, nat_eq, nat_le, nat_lt}
use Rattle.std.specs.List.{All, AllZip, Any}
use Rattle.std.proofs.lemmas.Bool.{cases_Bool, cases_lt, eqb-true, false≢true, le-leb, or_cases}
use Rattle.std.proofs.lemmas.List.{append_assoc, drop_more, length-drop, take_all, take_more}
use Rattle.std.proofs.lemmas.List.Elements.{All-cons, All-head, All-nil, All-tail}
use Rattle.charge_curve.specs.Points.{ArePoints, IsSlowing, last_level, slope, time_on}
use Rattle.dominance.specs.Coverage.{Reaches, SomeReaches}
use Rattle.dominance.specs.LevelTimes.{IsLevel, LevelTimes, time_at}
use Rattle.dominance.specs.Steps.{IsCharge, IsChargeFrom}
use Rattle.dominance.proofs.Pieces.{never_falls, piece_end, time_on-before, time_on-first, time_on-later}
use Rattle.piece_fn.specs.PieceFn.{first_level, is_support, level_times, starts}
use Rattle.piece_fn.proofs.Exact.{Each, IsWithin, each_support, first_support, last_support}
use Rattle.piece_fn.proofs.LeastDifference.{Bends, IsLeastAt, least_at}
use Rattle.piece_fn.proofs.Levels.{first_is_least, is_level, level_is, time_at-level_times}
use Rattle.piece_fn.proofs.Straight.{slows, straight}
use Rattle.label_steps.specs.Paying.{AreCharged, is_sooner, paying, pays}

-- a level takes no less time than one before it
unit_grows : (curve : List (ℕ × ℕ)) (a n : ℕ) → ArePoints curve → IsSlowing curve → a + n + 1 ≤ last_level curve → time_on curve (a + n) + (time_on curve (a + 1) - time_on curve a) ≤ time_on curve (a + n + 1)
unit_grows curve a zero are slow fits =
    let same : a + 0 ≡ a = omega arith in
    let up = never_falls curve are a (a + 1) (omega arith) in
    rw same (omega (arith, up))
unit_grows curve a (suc n) are slow fits =
    let same : a + suc n ≡ a + n + 1 = omega arith in
    let back : a + n + 1 - 1 ≡ a + n = omega arith in
    let before = unit_grows curve a n are slow (omega (arith, fits)) in
    let bent = slows curve (a + n + 1) are slow (omega arith) (omega (arith, fits)) in
    let bent_here : 2 * time_on curve (a + n + 1) ≤ time_on curve (a + n + 1 + 1) + time_on curve (a + n) = rw back at bent in
    rw same (omega (arith, before, bent_here))

-- so charging takes at least as long for each level as for the first
charge_takes : (curve : List (ℕ × ℕ)) (a n : ℕ) → ArePoints curve → IsSlowing curve → a + n ≤ last_level curve → time_on curve a + n * (time_on curve (a + 1) - time_on curve a) ≤ time_on curve (a + n)
charge_takes curve a zero are slow fits = let same : a + 0 ≡ a = omega arith in rw same (omega arith)
charge_takes curve a (suc n) are slow fits =
    let same : a + suc n ≡ a + n + 1 = omega arith in
    let before = charge_takes curve a n are slow (omega (arith, fits)) in
    let next = unit_grows curve a n are slow (omega (arith, fits)) in
    rw same (omega (arith, before, next))

scaled_le : (m u n : ℕ) → m ≤ u → m * n ≤ n * u
scaled_le m u zero le = omega arith
scaled_le m u (suc n) le = omega (arith, le, scaled_le m u n le)

-- a support is no lower than the first
support_above : (ps : List (ℕ × ℕ)) (y : ℕ) → ArePoints ps → is_support ps y ≡ true → first_level ps ≤ y
support_above [] y are is = absurd are
support_above (p ∷ []) y are is = elim (or_cases (nat_eq p.0 y) false is) [
  | inl here ↦ (let same = eqb-true p.0 y here in omega (arith, same))
  | inr none ↦ absurd (false≢true none)
]
support_above (p ∷ q ∷ ps) y are is = elim (or_cases (nat_eq p.0 y) (is_support (q ∷ ps) y) is) [
  | inl here ↦ (let same = eqb-true p.0 y here in omega (arith, same))
  | inr there ↦ (let above = support_above (q ∷ ps) y are.3 there in omega (arith, are.0, above))
]

-- charging to a level from the point r ends no later than from a level with a time
abbrev IsGood : List (ℕ × ℕ) → ℕ → ℕ → ℕ → ℕ × ℕ → Type 0
IsGood curve level start time r = (r.0 ≤ level) × (r.1 + time_on curve start ≤ time + time_on curve r.0)

abbrev Has : (ℕ × ℕ → Type 0) → List (ℕ × ℕ) → Type 0
Has P [] = ⊥
Has P (p ∷ ps) = P p ⊎ Has P ps

has_weaker : (P Q : ℕ × ℕ → Type 0) → ((p : ℕ × ℕ) → P p → Q p) → (ps : List (ℕ × ℕ)) → Has P ps → Has Q ps
has_weaker P Q each [] has = absurd has
has_weaker P Q each (p ∷ ps) has = elim has [ inl here ↦ inl (each p here) | inr there ↦ inr (has_weaker P Q each ps there) ]

-- a level with a time is matched by the last start before some points, by one of the starts, or by the points at that level
abbrev IsMatched : List (ℕ × ℕ) → ℕ → ℕ → ℕ → Option (ℕ × ℕ) → List (ℕ × ℕ) → List (ℕ × ℕ) → Type 0
IsMatched curve level start time before starts ps =
    MatchOption before ⊥ (IsGood curve level start time) ⊎ Has (IsGood curve level start time) starts ⊎ (IsWithin ps level × (time_on ps level + time_on curve start ≤ time + time_on curve level))

good_weaker : (curve : List (ℕ × ℕ)) (level a s b t : ℕ) → s + time_on curve b ≤ t + time_on curve a → (r : ℕ × ℕ) → IsGood curve level a s r → IsGood curve level b t r
good_weaker curve level a s b t less r good = (good.0, omega (arith, less, good.1))

option_weaker : (P Q : ℕ × ℕ → Type 0) → ((p : ℕ × ℕ) → P p → Q p) → (o : Option (ℕ × ℕ)) → MatchOption o ⊥ P → MatchOption o ⊥ Q
option_weaker P Q each None is = absurd is
option_weaker P Q each (Some p) is = each p is

-- what is matched among the further points is matched among all, also for a level from which a charge ends no sooner
carry : (curve : List (ℕ × ℕ)) (level : ℕ) (before : Option (ℕ × ℕ)) (starts : List (ℕ × ℕ)) (p q : ℕ × ℕ) (ps : List (ℕ × ℕ)) (a s b t : ℕ) → ArePoints (p ∷ q ∷ ps) → s + time_on curve b ≤ t + time_on curve a
    → IsMatched curve level a s before starts (q ∷ ps) → IsMatched curve level b t before starts (p ∷ q ∷ ps)
carry curve level before starts p q ps a s b t are less is = elim is [
  | inl earlier ↦ inl (option_weaker (IsGood curve level a s) (IsGood curve level b t) (good_weaker curve level a s b t less) before earlier)
  | inr (inl one) ↦ inr (inl (has_weaker (IsGood curve level a s) (IsGood curve level b t) (good_weaker curve level a s b t less) starts one))
  | inr (inr own) ↦
      let later = time_on-later p q ps level are own.0.0 in
      inr (inr ((omega (arith, are.0, own.0.0), own.0.1), omega (arith, later, own.1, less)))
]

kept_too : (curve : List (ℕ × ℕ)) (level start time : ℕ) (before : Option (ℕ × ℕ)) (p : ℕ × ℕ) (starts ps : List (ℕ × ℕ)) → IsMatched curve level start time (Some p) starts ps → IsMatched curve level start time before (p ∷ starts) ps
kept_too curve level start time before p starts ps is = elim is [
  | inl first ↦ inr (inl (inl first))
  | inr (inl one) ↦ inr (inl (inr one))
  | inr (inr own) ↦ inr (inr own)
]

not_less : (x y : ℕ) → nat_lt x y ≡ false → y ≤ x
not_less x y is = elim (cases_lt x y) [
  | inl less ↦ absurd (false≢true (sym is ∙ le-leb (suc x) y (omega (arith, less))))
  | inr le ↦ le
]

not_le : (x y : ℕ) → nat_le x y ≡ false → y ≤ x
not_le x y is = elim (cases_lt y x) [
  | inl less ↦ omega (arith, less)
  | inr le ↦ absurd (false≢true (sym is ∙ le-leb x y le))
]

not_sooner : (curve : List (ℕ × ℕ)) (level : ℕ) (before : Option (ℕ × ℕ)) (p : ℕ × ℕ) → is_sooner curve before p ≡ false → p.0 ≤ level → IfSome before (λ b. b.0 ≤ p.0) → MatchOption before ⊥ (IsGood curve level p.0 p.1)
not_sooner curve level None p is low earlier = absurd (false≢true (sym is))
not_sooner curve level (Some b) p is low earlier =
    let less = not_less (p.1 + time_on curve b.0) (b.1 + time_on curve p.0) is in
    (omega (arith, low, earlier), omega (arith, less))

-- where a piece of the value is no slower than charging
piece_pays : (curve : List (ℕ × ℕ)) (p q : ℕ × ℕ) (level : ℕ) → ArePoints curve → IsSlowing curve → level ≤ last_level curve → p.0 ≤ level → slope p q ≤ time_on curve (p.0 + 1) - time_on curve p.0
    → p.1 + slope p q * (level - p.0) + time_on curve p.0 ≤ p.1 + time_on curve level
piece_pays curve p q level are slow top low less =
    let same : p.0 + (level - p.0) ≡ level = omega (arith, low) in
    let takes : time_on curve p.0 + (level - p.0) * (time_on curve (p.0 + 1) - time_on curve p.0) ≤ time_on curve (p.0 + (level - p.0)) = charge_takes curve p.0 (level - p.0) are slow (omega (arith, same, top)) in
    let takes_there : time_on curve p.0 + (level - p.0) * (time_on curve (p.0 + 1) - time_on curve p.0) ≤ time_on curve level = rw same at takes in
    let part = scaled_le (slope p q) (time_on curve (p.0 + 1) - time_on curve p.0) (level - p.0) less in
    omega (arith, takes_there, part)

-- each of some points is matched, whatever came before them
abbrev AreMatched : List (ℕ × ℕ) → ℕ → List (ℕ × ℕ) → Type 0
AreMatched curve level ps =
    (before : Option (ℕ × ℕ)) → IfSome before (λ b. b.0 ≤ first_level ps)
    → (start : ℕ) → is_support ps start ≡ true → start ≤ level → IsMatched curve level start (time_on ps start) before (paying curve before ps) ps

earlier_next : (before : Option (ℕ × ℕ)) (a b : ℕ) → a ≤ b → IfSome before (λ p. p.0 ≤ a) → IfSome before (λ p. p.0 ≤ b)
earlier_next None a b le is = is
earlier_next (Some p) a b le is = omega (arith, le, is)

kept_matched : (curve : List (ℕ × ℕ)) (level : ℕ) (before : Option (ℕ × ℕ)) (p q : ℕ × ℕ) (ps : List (ℕ × ℕ)) → ArePoints (p ∷ q ∷ ps) → AreMatched curve level (q ∷ ps) → IfSome before (λ b. b.0 ≤ p.0)
    → (start : ℕ) → is_support (p ∷ q ∷ ps) start ≡ true → start ≤ level → IsMatched curve level start (time_on (p ∷ q ∷ ps) start) before (p ∷ paying curve (Some p) (q ∷ ps)) (p ∷ q ∷ ps)
kept_matched curve level before p q ps are rest earlier start is low =
    elim (or_cases (nat_eq p.0 start) (is_support (q ∷ ps) start) is) [
      | inl here ↦
          let same = eqb-true p.0 start here in
          let time = time_on-before p (q ∷ ps) start are (omega (arith, same)) in
          let psi = ap (λ x. time_on curve x) same in
          inr (inl (inl (omega (arith, same, low), omega (arith, time, psi))))
      | inr there ↦
          let above = support_above (q ∷ ps) start are.3 there in
          let time = time_on-later p q ps start are above in
          kept_too curve level start (time_on (p ∷ q ∷ ps) start) before p (paying curve (Some p) (q ∷ ps)) (p ∷ q ∷ ps)
          (carry curve level (Some p) (paying curve (Some p) (q ∷ ps)) p q ps start (time_on (q ∷ ps) start) start (time_on (p ∷ q ∷ ps) start) are (omega (arith, time))
          (rest (Some p) (omega (arith, are.0)) start there low))
    ]

dropped_matched : (curve : List (ℕ × ℕ)) (level : ℕ) → ArePoints curve → IsSlowing curve → level ≤ last_level curve → (before : Option (ℕ × ℕ)) (p q : ℕ × ℕ) (ps : List (ℕ × ℕ)) → ArePoints (p ∷ q ∷ ps) → AreMatched curve level (q ∷ ps) → IfSome before (λ b. b.0 ≤ p.0)
    → (start : ℕ) → is_support (p ∷ q ∷ ps) start ≡ true → start ≤ level → pays curve before (p ∷ q ∷ ps) ≡ false → IsMatched curve level start (time_on (p ∷ q ∷ ps) start) before (paying curve before (q ∷ ps)) (p ∷ q ∷ ps)
dropped_matched curve level curve_are slow top before p q ps are rest earlier start is low dropped =
    let before_next = earlier_next before p.0 q.0 (omega (arith, are.0)) earlier in
    elim (or_cases (nat_eq p.0 start) (is_support (q ∷ ps) start) is) [
      | inl here ↦
          let same = eqb-true p.0 start here in
          let time : time_on (p ∷ q ∷ ps) p.0 ≡ p.1 = time_on-before p (q ∷ ps) p.0 are (omega arith) in
          subst (λ s. IsMatched curve level s (time_on (p ∷ q ∷ ps) s) before (paying curve before (q ∷ ps)) (p ∷ q ∷ ps)) same
          (rw time (elim (cases_Bool (is_sooner curve before p)) [
            | inr none ↦ inl (not_sooner curve level before p none (omega (arith, same, low)) earlier)
            | inl sooner ↦
                let quick : slope p q ≤ time_on curve (p.0 + 1) - time_on curve p.0 = not_le (time_on curve (p.0 + 1) - time_on curve p.0) (slope p q) (rw sooner at dropped) in
                elim (cases_lt level q.0) [
                  | inl under ↦
                      let first = time_on-first p q ps level (omega (arith, under)) in
                      let part = piece_pays curve p q level curve_are slow top (omega (arith, same, low)) quick in
                      let last = first_is_least (q ∷ ps) are.3 in
                      inr (inr ((omega (arith, same, low), omega (arith, under, last)), omega (arith, first, part)))
                  | inr over ↦
                      let part = piece_pays curve p q q.0 curve_are slow (omega (arith, over, top)) (omega (arith, are.0)) quick in
                      let end = piece_end p q are.1 are.2 in
                      let next : time_on (q ∷ ps) q.0 ≡ q.1 = time_on-before q ps q.0 are.3 (omega arith) in
                      carry curve level before (paying curve before (q ∷ ps)) p q ps q.0 (time_on (q ∷ ps) q.0) p.0 p.1 are (omega (arith, next, end, part))
                      (rest before before_next q.0 (first_support (q ∷ ps) are.3) over)
                ]
          ]))
      | inr there ↦
          let above = support_above (q ∷ ps) start are.3 there in
          let time = time_on-later p q ps start are above in
          carry curve level before (paying curve before (q ∷ ps)) p q ps start (time_on (q ∷ ps) start) start (time_on (p ∷ q ∷ ps) start) are (omega (arith, time))
          (rest before before_next start there low)
    ]

-- the last point, where it does not pay
last_matched : (curve : List (ℕ × ℕ)) (level : ℕ) → level ≤ last_level curve → (before : Option (ℕ × ℕ)) (p : ℕ × ℕ) → IfSome before (λ b. b.0 ≤ p.0) → p.0 ≤ level → pays curve before (p ∷ []) ≡ false → IsMatched curve level p.0 p.1 before [] (p ∷ [])
last_matched curve level top before p earlier low none = elim (cases_lt p.0 (last_level curve)) [
  | inl under ↦
      let flag : nat_lt p.0 (last_level curve) ≡ true = le-leb (suc p.0) (last_level curve) (omega (arith, under)) in
      inl (not_sooner curve level before p (rw flag at none) low earlier)
  | inr over ↦
      let same : level ≡ p.0 = omega (arith, top, low, over) in
      inr (inr ((omega (arith, same), omega (arith, same)), rw same (omega arith)))
]

-- each support is matched
matched : (curve : List (ℕ × ℕ)) (level : ℕ) → ArePoints curve → IsSlowing curve → level ≤ last_level curve → (ps : List (ℕ × ℕ)) → ArePoints ps → AreMatched curve level ps
matched curve level curve_are slow top [] are before earlier start is low = absurd are
matched curve level curve_are slow top (p ∷ []) are before earlier start is low =
    let same : p.0 ≡ start = elim (or_cases (nat_eq p.0 start) false is) [ inl here ↦ eqb-true p.0 start here | inr none ↦ absurd (false≢true none) ] in
    subst (λ s. IsMatched curve level s p.1 before (paying curve before (p ∷ [])) (p ∷ [])) same
    (elim (cases_Bool (pays curve before (p ∷ []))) [
      | inl kept ↦ rw kept (inr (inl (inl (omega (arith, same, low), omega arith))))
      | inr none ↦ rw none (last_matched curve level top before p earlier (omega (arith, same, low)) none)
    ])
matched curve level curve_are slow top (p ∷ q ∷ ps) are before earlier start is low =
    elim (cases_Bool (pays curve before (p ∷ q ∷ ps))) [
      | inl kept ↦ rw kept (kept_matched curve level before p q ps are (matched curve level curve_are slow top (q ∷ ps) are.3) earlier start is low)
      | inr dropped ↦ rw dropped (dropped_matched curve level curve_are slow top before p q ps are (matched curve level curve_are slow top (q ∷ ps) are.3) earlier start is low dropped)
    ]

-- no charge to a level ends sooner than one from a supporting level, or none at all
record HasStart (ps curve : List (ℕ × ℕ)) (from level : ℕ) : Type 0 where
  start : ℕ
  above : first_level ps ≤ start
  within : start ≤ last_level ps
  below : start ≤ level
  place : (start ≡ level) ⊎ (is_support ps start ≡ true)
  less : time_on ps start + time_on curve from ≤ time_on ps from + time_on curve start

search_to : (ps curve : List (ℕ × ℕ)) (from high : ℕ) → ArePoints ps → ArePoints curve → IsSlowing curve → high ≤ last_level curve → first_level ps ≤ from → from ≤ high
    → IsLeastAt (time_on ps) (time_on curve) (is_support ps) (first_level ps) high from
search_to ps curve from high are curve_are slow top low le =
    let bends : (x : ℕ) → first_level ps < x → x < high → is_support ps x ≡ false → Bends (time_on ps) (time_on curve) x = λ x lx xh none.
    let same = straight ps x are (omega (arith, lx)) none in
    let more = slows curve x curve_are slow (omega (arith, lx)) (omega (arith, xh, top)) in
    omega (arith, same, more) in
    least_at (time_on ps) (time_on curve) (is_support ps) (first_level ps) high bends from low le

has_start : (ps curve : List (ℕ × ℕ)) (from level : ℕ) → ArePoints ps → ArePoints curve → IsSlowing curve → level ≤ last_level curve → first_level ps ≤ from → from ≤ last_level ps → from ≤ level → HasStart ps curve from level
has_start ps curve from level are curve_are slow top low high le = elim (cases_lt (last_level ps) level) [
  | inl beyond ↦
      let found = search_to ps curve from (last_level ps) are curve_are slow (omega (arith, beyond, top)) low high in
      let marked : is_support ps found.at ≡ true = elim found.place [
        | inl first ↦ rw first (first_support ps are)
        | inr (inl last) ↦ rw last (last_support ps are)
        | inr (inr mark) ↦ mark
      ] in
      record { start = found.at; above = found.above; within = found.below; below = omega (arith, found.below, beyond); place = inr marked; less = found.less }
  | inr within ↦
      let found = search_to ps curve from level are curve_are slow top low le in
      let where_from : (found.at ≡ level) ⊎ (is_support ps found.at ≡ true) = elim found.place [
        | inl first ↦ inr (rw first (first_support ps are))
        | inr (inl end) ↦ inl end
        | inr (inr mark) ↦ inr mark
      ] in
      record { start = found.at; above = found.above; within = omega (arith, found.below, within); below = found.below; place = where_from; less = found.less }
]

pub paying_each : (P : ℕ × ℕ → Type 0) (curve : List (ℕ × ℕ)) (before : Option (ℕ × ℕ)) (ps : List (ℕ × ℕ)) → Each P ps → All P (paying curve before ps)
paying_each P curve before [] each = All-nil P
paying_each P curve before (p ∷ ps) each = elim (cases_Bool (pays curve before (p ∷ ps))) [
  | inl kept ↦ rw kept (All-cons P p (paying curve (Some p) ps) each.0 (paying_each P curve (Some p) ps each.1))
  | inr dropped ↦ rw dropped (paying_each P curve before ps each.1)
]

-- a point of a value at one of its levels
abbrev pub IsPointOf : List (ℕ × ℕ) → ℕ × ℕ → Type 0
IsPointOf ps p = IsLevel (level_times ps) p.0 × (time_at (level_times ps) p.0 ≡ p.1)

each_weaker : (P Q : ℕ × ℕ → Type 0) → ((p : ℕ × ℕ) → P p → Q p) → (ps : List (ℕ × ℕ)) → Each P ps → Each Q ps
each_weaker P Q f [] e = tt
each_weaker P Q f (p ∷ ps) e = (f p e.0, each_weaker P Q f ps e.1)

pub starts_are : (curve ps : List (ℕ × ℕ)) → ArePoints ps → All (IsPointOf ps) (paying curve None ps)
starts_are curve ps are =
    paying_each (IsPointOf ps) curve None ps (each_weaker (λ p. (time_on ps p.0 ≡ p.1) × IsWithin ps p.0) (IsPointOf ps) (λ p h.
    let is = is_level ps p.0 are h.1.0 h.1.1 in
    (is, time_at-level_times ps p.0 are is ∙ h.0)) ps (each_support ps are))

any_later : {V : Type 0} (P : V → Type 0) (x : V) (xs : List V) → Any P xs → Any P (x ∷ xs)
any_later P x xs found = (suc found.0, found.1, omega (arith, found.2), found.3, found.4)

zip_has : (P Q : ℕ × ℕ → Type 0) (R : ℕ × ℕ → List (ℕ × ℕ) → Type 0) (S : List (ℕ × ℕ) → Type 0) → ((x : ℕ × ℕ) (y : List (ℕ × ℕ)) → P x → Q x → R x y → S y) → (xs : List (ℕ × ℕ)) (ys : List (List (ℕ × ℕ))) → AllZip R xs ys → All Q xs → Has P xs → Any S ys
zip_has P Q R S each [] ys zip all has = absurd has
zip_has P Q R S each (x ∷ xs) [] zip all has = absurd zip
zip_has P Q R S each (x ∷ xs) (y ∷ ys) zip all has = elim has [
  | inl here ↦ (zero, y, omega arith, refl, each x y here (All-head Q x xs all) zip.0)
  | inr there ↦ any_later S y ys (zip_has P Q R S each xs ys zip.1 (All-tail Q x xs all) there)
]

-- each charge of a vehicle of the value is covered
pub every_charge : (ps curve : List (ℕ × ℕ)) (limit : ℕ) (values : List (List (ℕ × ℕ))) → ArePoints ps → ArePoints curve → IsSlowing curve → AreCharged ps curve limit (paying curve None ps) values
    → (level time : ℕ) → IsCharge (level_times ps) curve limit level time → SomeReaches level_times values 0 level time
every_charge ps curve limit [] are curve_are slow list level time is = absurd list
every_charge ps curve limit (u ∷ charged_values) are curve_are slow list level time is =
    let Q : List (ℕ × ℕ) → Type 0 = λ value. Reaches (level_times value) 0 level time in
    let begins = level_is ps is.from are is.starts in
    let start_time = time_at-level_times ps is.from are is.starts in
    let found = has_start ps curve is.from level are curve_are slow is.fits begins.0 begins.1 is.rises in
    let takes = is.takes in
    let in_time = is.in_time in
    let fits = is.fits in
    let psi_from = never_falls curve curve_are is.from level is.rises in
    let own : (first_level ps ≤ level) → (level ≤ last_level ps) → time_on ps level + time_on curve is.from ≤ time_on ps is.from + time_on curve level → SomeReaches level_times (u ∷ charged_values) 0 level time = λ low high less.
    let here = is_level ps level are low high in
    let here_time = time_at-level_times ps level are here in
    let reach : Q u = subst Q (sym list.0) (level, here, (omega arith, omega (arith, here_time, start_time, takes, psi_from, less))) in
    (zero, u, omega arith, refl, reach) in
    elim found.place [
      | inl same ↦
          let less : time_on ps level + time_on curve is.from ≤ time_on ps is.from + time_on curve level = subst (λ x. time_on ps x + time_on curve is.from ≤ time_on ps is.from + time_on curve x) same found.less in
          own (subst (λ x. first_level ps ≤ x) same found.above) (subst (λ x. x ≤ last_level ps) same found.within) less
      | inr support ↦
          let found_less = found.less in
          elim (matched curve level curve_are slow is.fits ps are None tt found.start support found.below) [
            | inl none ↦ absurd none
            | inr (inl one) ↦
                any_later Q u charged_values
                (zip_has (IsGood curve level found.start (time_on ps found.start)) (IsPointOf ps) (λ start after. IsChargeFrom (level_times ps) curve limit start.0 (level_times after)) Q (λ r w good point from.
                let psi = never_falls curve curve_are r.0 level good.0 in
                let ends : time_at (level_times ps) r.0 + (time_on curve level - time_on curve r.0) ≤ time = omega (arith, point.1, good.1, found_less, psi, psi_from, takes, start_time) in
                let low = (from.levels level).1 (good.0, fits, omega (arith, ends, in_time)) in
                (level, low, (omega arith, omega (arith, from.later level low, ends)))) (paying curve None ps) charged_values list.1 (starts_are curve ps are) one)
            | inr (inr reached) ↦ own reached.0.0 reached.0.1 (omega (arith, reached.1, found_less))
          ]
    ]

-- the next point in turn
pub paying_next : (curve : List (ℕ × ℕ)) (before : Option (ℕ × ℕ)) (ps : List (ℕ × ℕ)) (n : ℕ) (d : ℕ × ℕ) → n < length ps → pays curve before (drop n ps) ≡ true → paying curve before (drop n ps) ≡ get_or ps n d ∷ paying curve (Some (get_or ps n d)) (drop (n + 1) ps)
paying_next curve before ps n d less is =
    let split = drop_more ps n d less in
    let pays_there : pays curve before (get_or ps n d ∷ drop (n + 1) ps) ≡ true = subst (λ xs. pays curve before xs ≡ true) split is in
    ap (λ xs. paying curve before xs) split ∙ rw pays_there refl

pub paying_over : (curve : List (ℕ × ℕ)) (before : Option (ℕ × ℕ)) (ps : List (ℕ × ℕ)) (n : ℕ) (d : ℕ × ℕ) → n < length ps → pays curve before (drop n ps) ≡ false → paying curve before (drop n ps) ≡ paying curve before (drop (n + 1) ps)
paying_over curve before ps n d less is =
    let split = drop_more ps n d less in
    let pays_not : pays curve before (get_or ps n d ∷ drop (n + 1) ps) ≡ false = subst (λ xs. pays curve before xs ≡ false) split is in
    ap (λ xs. paying curve before xs) split ∙ rw pays_not refl

zip_push : (R : ℕ × ℕ → List (ℕ × ℕ) → Type 0) (xs : List (ℕ × ℕ)) (ys : List (List (ℕ × ℕ))) (x : ℕ × ℕ) (y : List (ℕ × ℕ)) → AllZip R xs ys → R x y → AllZip R (xs ++ x ∷ []) (ys ++ y ∷ [])
zip_push R [] [] x y zip is = (is, tt)
zip_push R [] (b ∷ ys) x y zip is = absurd zip
zip_push R (a ∷ xs) [] x y zip is = absurd zip
zip_push R (a ∷ xs) (b ∷ ys) x y zip is = (zip.0, zip_push R xs ys x y zip.1 is)

-- one more value in the list
pub charge_more : (ps curve : List (ℕ × ℕ)) (limit : ℕ) (all : List (ℕ × ℕ)) (n : ℕ) (values : List (List (ℕ × ℕ))) (w : List (ℕ × ℕ)) → n < length all → AreCharged ps curve limit (take n all) values
    → IsChargeFrom (level_times ps) curve limit (get_or all n (0, 0)).0 (level_times w) → AreCharged ps curve limit (take (n + 1) all) (values ++ w ∷ [])
charge_more ps curve limit all n [] w less list is = absurd list
charge_more ps curve limit all n (u ∷ charged_values) w less list is =
    let R : ℕ × ℕ → List (ℕ × ℕ) → Type 0 = λ start after. IsChargeFrom (level_times ps) curve limit start.0 (level_times after) in
    let zip = zip_push R (take n all) charged_values (get_or all n (0, 0)) w list.1 is in
    (list.0, rw (take_more all n (0, 0) less) zip)

-- a charge from a point of a value is one of the value
pub charge_of_point : (ps curve : List (ℕ × ℕ)) (limit : ℕ) (p : ℕ × ℕ) (w : LevelTimes) → IsPointOf ps p → IsChargeFrom (level_times (p ∷ [])) curve limit p.0 w → IsChargeFrom (level_times ps) curve limit p.0 w
charge_of_point ps curve limit p w point from =
    let there : IsLevel (level_times (p ∷ [])) p.0 = is_level (p ∷ []) p.0 tt (omega arith) (omega arith) in
    let time : time_at (level_times (p ∷ [])) p.0 ≡ time_at (level_times ps) p.0 = time_at-level_times (p ∷ []) p.0 tt there ∙ sym point.1 in
    record {
      begins = from.begins;
      levels = λ level. (
        λ is. (let has = (from.levels level).0 is in (has.0, has.1, omega (arith, time, has.2))),
        λ has. (from.levels level).1 (has.0, has.1, omega (arith, time, has.2)),
      );
      later = λ level is. from.later level is ∙ ap (λ t. t + (time_on curve level - time_on curve p.0)) time;
    }

-- the value with one point
pub one_has_level : (v : List (ℕ × ℕ)) (p : ℕ × ℕ) → v ≡ p ∷ [] → IsLevel (level_times v) p.0
one_has_level v p same = subst (λ x. IsLevel (level_times x) p.0) (sym same) (is_level (p ∷ []) p.0 tt (omega arith) (omega arith))

pub one_times : (v : List (ℕ × ℕ)) (p : ℕ × ℕ) (limit : ℕ) → v ≡ p ∷ [] → p.1 ≤ limit → (level : ℕ) → IsLevel (level_times v) level → time_at (level_times v) level ≤ limit
one_times v p limit same in_time level is =
    let there : IsLevel (level_times (p ∷ [])) level = subst (λ x. IsLevel (level_times x) level) same is in
    let time = time_at-level_times (p ∷ []) level tt there in
    subst (λ x. time_at (level_times x) level ≤ limit) (sym same) (omega (arith, time, in_time))

pub last_from : (ps : List (ℕ × ℕ)) (n : ℕ) → n < length ps → last_level (drop n ps) ≡ last_level ps
last_from [] n less = absurd (omega arith)
last_from (p ∷ ps) zero less = refl
last_from (p ∷ []) (suc n) less = absurd (omega arith)
last_from (p ∷ q ∷ ps) (suc n) less = last_from (q ∷ ps) n (omega arith)

pub get_low : (ps : List (ℕ × ℕ)) (n : ℕ) → ArePoints ps → n < length ps → (get_or ps n (0, 0)).0 ≤ last_level ps
get_low [] n are less = absurd are
get_low (p ∷ ps) zero are less = first_is_least (p ∷ ps) are
get_low (p ∷ []) (suc n) are less = absurd (omega arith)
get_low (p ∷ q ∷ ps) (suc n) are less = get_low (q ∷ ps) n are.3 (omega arith)

pub first_low : (ps : List (ℕ × ℕ)) → ArePoints ps → 1 < length ps → (get_or ps 0 (0, 0)).0 < last_level ps
first_low [] are more = absurd are
first_low (p ∷ []) are more = absurd (omega arith)
first_low (p ∷ q ∷ ps) are more = let last = first_is_least (q ∷ ps) are.3 in omega (arith, are.0, last)

-- the slice from a place on
pub slice_is : (ps : List (ℕ × ℕ)) (n : ℕ) → take (length ps - n) (drop n ps) ≡ drop n ps
slice_is ps n = take_all (length ps - n) (drop n ps) (let count = length-drop n ps in omega (arith, count))

pub step_on : (curve ps : List (ℕ × ℕ)) (before now : Option (ℕ × ℕ)) (n : ℕ) (starts more all : List (ℕ × ℕ)) (result : Bool) → n < length ps → result ≡ pays curve before (take (length ps - n) (drop n ps)) → result ≡ true
    → more ≡ starts ++ get_or ps n (0, 0) ∷ [] → now ≡ Some (get_or ps n (0, 0)) → starts ++ paying curve before (drop n ps) ≡ all → more ++ paying curve now (drop (n + 1) ps) ≡ all
step_on curve ps before now n starts more all result less told is more_is now_is found =
    let here : pays curve before (drop n ps) ≡ true = ap (λ xs. pays curve before xs) (sym (slice_is ps n)) ∙ sym told ∙ is in
    let next = paying_next curve before ps n (0, 0) less here in
    ap (λ xs. xs ++ paying curve now (drop (n + 1) ps)) more_is ∙ append_assoc starts (get_or ps n (0, 0) ∷ []) (paying curve now (drop (n + 1) ps)) ∙ ap (λ o. starts ++ (get_or ps n (0, 0) ∷ paying curve o (drop (n + 1) ps))) now_is
    ∙ ap (λ xs. starts ++ xs) (sym next) ∙ found

pub step_over : (curve ps : List (ℕ × ℕ)) (before now : Option (ℕ × ℕ)) (n : ℕ) (starts more all : List (ℕ × ℕ)) (result : Bool) → n < length ps → result ≡ pays curve before (take (length ps - n) (drop n ps)) → result ≡ false
    → more ≡ starts → now ≡ before → starts ++ paying curve before (drop n ps) ≡ all → more ++ paying curve now (drop (n + 1) ps) ≡ all
step_over curve ps before now n starts more all result less told is more_is now_is found =
    let here : pays curve before (drop n ps) ≡ false = ap (λ xs. pays curve before xs) (sym (slice_is ps n)) ∙ sym told ∙ is in
    let over = paying_over curve before ps n (0, 0) less here in
    ap (λ xs. xs ++ paying curve now (drop (n + 1) ps)) more_is ∙ ap (λ o. starts ++ paying curve o (drop (n + 1) ps)) now_is ∙ ap (λ xs. starts ++ xs) (sym over) ∙ found
