-- The supporting levels, one after another, are all levels at which there is a supporting point.
use Rattle.std.proofs.Common.{◌≡◌, ◌∙◌, ℕ, zero, suc, ◌+◌, ◌-◌, ◌<◌, ◌≤◌, Bool, true, false, ◌&&◌, ◌||◌, refl, sym, ap, subst, List, [], ◌∷◌, ◌++◌, map, length, arith, drop, get_or, inl, inr}
use Rattle.std.specs.Prelude.{nat_eq, nat_lt}
use Rattle.std.specs.List.{filter, list_any, range_with_len}
use Rattle.std.proofs.lemmas.Bool.{and_from, and_parts, cases_Bool, cases_eq, cases_lt, eq-eqb, false≢true, lt-ltb, ltb-true, ne_eqb}
use Rattle.std.proofs.lemmas.List.FromFn.{length-map-range_with_len}
use Rattle.charge_curve.specs.Points.{ArePoints, last_level, time_on}
use Rattle.piece_fn.specs.Cuts.{between, supports}
use Rattle.piece_fn.specs.PieceFn.{first_level, is_support, level_times, starts}
use Rattle.piece_fn.proofs.Levels.{first_is_least}

abbrev has : List ℕ → ℕ → Bool
has xs y = list_any (λ x. nat_eq x y) xs

-- rising numbers from low on and below high
abbrev RisesWithin : ℕ → ℕ → List ℕ → Type 0
RisesWithin low high [] = Unit {0}
RisesWithin low high (x ∷ xs) = (low ≤ x) × (x < high) × RisesWithin (x + 1) high xs

wider : (low lower high : ℕ) (xs : List ℕ) → lower ≤ low → RisesWithin low high xs → RisesWithin lower high xs
wider low lower high [] le rises = tt
wider low lower high (x ∷ xs) le rises = (omega (arith, le, rises.0), rises.1, rises.2)

joined : (low middle high : ℕ) (xs ys : List ℕ) → low ≤ middle → middle ≤ high → RisesWithin low middle xs → RisesWithin middle high ys → RisesWithin low high (xs ++ ys)
joined low middle high [] ys le top first second = wider middle low high ys le second
joined low middle high (x ∷ xs) ys le top first second = (first.0, omega (arith, first.1, top), joined (x + 1) middle high xs ys (omega (arith, first.1)) top first.2 second)

none_has : (low high : ℕ) (xs : List ℕ) (y : ℕ) → RisesWithin low high xs → y < low → has xs y ≡ false
none_has low high [] y rises less = refl
none_has low high (x ∷ xs) y rises less = rw (ne_eqb x y (λ same. omega (arith, same, rises.0, less))) (none_has (x + 1) high xs y rises.2 (omega (arith, rises.0, less)))

-- such a list is the part of the range that passes the test of being in it
is_filter : (test : ℕ → Bool) (n low : ℕ) (xs : List ℕ) → RisesWithin low (low + n) xs → ((y : ℕ) → low ≤ y → y < low + n → has xs y ≡ test y) → filter test (range_with_len low n) ≡ xs
is_filter test zero low [] rises same = refl
is_filter test zero low (x ∷ xs) rises same = absurd (omega (arith, rises.0, rises.1))
is_filter test (suc n) low [] rises same =
    let here = same low (omega arith) (omega arith) in
    rw (← here) (is_filter test n (low + 1) [] tt (λ y le less. same y (omega (arith, le)) (omega (arith, less))))
is_filter test (suc n) low (x ∷ xs) rises same =
    let place : low + suc n ≡ low + 1 + n = omega arith in
    elim (cases_eq x low) [
      | inl first ↦
          let there : RisesWithin (low + 1) (low + suc n) xs = subst (λ z. RisesWithin (z + 1) (low + suc n) xs) first rises.2 in
          let later : RisesWithin (low + 1) (low + 1 + n) xs = rw (← place) there in
          let here : test low ≡ true = sym (same low (omega arith) (omega arith)) ∙ rw (eq-eqb x low first) refl in
          let rest = is_filter test n (low + 1) xs later (λ y le less.
          let apart : nat_eq x y ≡ false = ne_eqb x y (λ is. omega (arith, is, first, le)) in
          let there = same y (omega (arith, le)) (omega (arith, less)) in
          rw apart at there) in
          rw here (ap (λ ys. low ∷ ys) rest ∙ ap (λ z. z ∷ xs) (sym first))
      | inr above ↦
          let higher : RisesWithin (low + 1) (low + 1 + n) (x ∷ xs) = rw (← place) (omega (arith, rises.0, above), rises.1, rises.2) in
          let none = none_has (low + 1) (low + 1 + n) (x ∷ xs) low higher (omega arith) in
          let here : test low ≡ false = sym (same low (omega arith) (omega arith)) ∙ none in
          rw here (is_filter test n (low + 1) (x ∷ xs) higher (λ y le less. same y (omega (arith, le)) (omega (arith, less))))
    ]

-- the points between two levels
after : (high : ℕ) (test : ℕ × ℕ → Bool) → ((p : ℕ × ℕ) → test p ≡ true → p.0 < high) → (b : ℕ × ℕ) (bs : List (ℕ × ℕ)) → ArePoints (b ∷ bs) → RisesWithin (b.0 + 1) high (map (λ p. p.0) (filter test bs))
after high test below b [] are = tt
after high test below b (q ∷ qs) are =
    let rest = after high test below q qs are.3 in
    elim (cases_Bool (test q)) [
      | inl passes ↦ rw passes (omega (arith, are.0), below q passes, rest)
      | inr none ↦ rw none (wider (q.0 + 1) (b.0 + 1) high (map (λ p. p.0) (filter test qs)) (omega (arith, are.0)) rest)
    ]

filter_rises : (low high : ℕ) (test : ℕ × ℕ → Bool) → ((p : ℕ × ℕ) → test p ≡ true → (low ≤ p.0) × (p.0 < high)) → (bs : List (ℕ × ℕ)) → ArePoints bs → RisesWithin low high (map (λ p. p.0) (filter test bs))
filter_rises low high test inside [] are = absurd are
filter_rises low high test inside (b ∷ []) are = elim (cases_Bool (test b)) [
  | inl passes ↦ rw passes ((inside b passes).0, (inside b passes).1, tt)
  | inr none ↦ rw none tt
]
filter_rises low high test inside (b ∷ q ∷ qs) are = elim (cases_Bool (test b)) [
  | inl passes ↦ rw passes ((inside b passes).0, (inside b passes).1, after high test (λ p is. (inside p is).1) b (q ∷ qs) are)
  | inr none ↦ rw none (filter_rises low high test inside (q ∷ qs) are.3)
]

between_test : (low high : ℕ) (p : ℕ × ℕ) → (nat_lt low p.0 && nat_lt p.0 high) ≡ true → (low + 1 ≤ p.0) × (p.0 < high)
between_test low high p is =
    let both = and_parts (nat_lt low p.0) (nat_lt p.0 high) is in
    (omega (arith, ltb-true low p.0 both.0), ltb-true p.0 high both.1)

between_rises : (low high : ℕ) (bs : List (ℕ × ℕ)) → ArePoints bs → RisesWithin (low + 1) high (between low high bs)
between_rises low high bs are = filter_rises (low + 1) high (λ p. nat_lt low p.0 && nat_lt p.0 high) (between_test low high) bs are

has_between : (low high y : ℕ) (bs : List (ℕ × ℕ)) → low < y → y < high → has (between low high bs) y ≡ is_support bs y
has_between low high y [] above below = refl
has_between low high y (b ∷ bs) above below =
    let rest = has_between low high y bs above below in
    elim (cases_Bool (nat_lt low b.0 && nat_lt b.0 high)) [
      | inl passes ↦ rw passes (ap (λ r. nat_eq b.0 y || r) rest)
      | inr none ↦
          let apart : nat_eq b.0 y ≡ false = ne_eqb b.0 y (λ same. false≢true (sym none ∙ and_from (nat_lt low b.0) (nat_lt b.0 high) (lt-ltb low b.0 (omega (arith, same, above))) (lt-ltb b.0 high (omega (arith, same, below))))) in
          rw (none, apart) rest
    ]

past_has : (low high : ℕ) (xs : List ℕ) (y : ℕ) → RisesWithin low high xs → high ≤ y → has xs y ≡ false
past_has low high [] y rises past = refl
past_has low high (x ∷ xs) y rises past = rw (ne_eqb x y (λ same. omega (arith, same, rises.1, past))) (past_has (x + 1) high xs y rises.2 past)

moved_or : (a b c : Bool) → (a || (b || c)) ≡ ((a || b) || c)
moved_or true b c = refl
moved_or false b c = refl

has-append : (xs ys : List ℕ) (y : ℕ) → has (xs ++ ys) y ≡ (has xs y || has ys y)
has-append [] ys y = refl
has-append (x ∷ xs) ys y = ap (λ r. nat_eq x y || r) (has-append xs ys y) ∙ moved_or (nat_eq x y) (has xs y) (has ys y)

or_false : (a : Bool) → (a || false) ≡ a
or_false true = refl
or_false false = refl

supports_rise : (curve ps : List (ℕ × ℕ)) → ArePoints curve → ArePoints ps → RisesWithin (first_level ps) (last_level ps + 1) (supports curve ps)
supports_rise curve [] curve_are are = absurd are
supports_rise curve (p ∷ []) curve_are are = (omega arith, omega arith, tt)
supports_rise curve (p ∷ q ∷ ps) curve_are are =
    let rest = supports_rise curve (q ∷ ps) curve_are are.3 in
    let end = first_is_least (q ∷ ps) are.3 in (
      omega arith,
      omega (arith, end, are.0),
      joined (p.0 + 1) q.0 (last_level (q ∷ ps) + 1) (between p.0 q.0 curve) (supports curve (q ∷ ps)) (omega (arith, are.0)) (omega (arith, end)) (between_rises p.0 q.0 curve curve_are) rest,
    )

none_support : (p : ℕ × ℕ) (ps : List (ℕ × ℕ)) (level : ℕ) → ArePoints (p ∷ ps) → level < p.0 → is_support (p ∷ ps) level ≡ false
none_support p [] level are less = rw (ne_eqb p.0 level (λ same. omega (arith, same, less))) refl
none_support p (q ∷ ps) level are less = rw (ne_eqb p.0 level (λ same. omega (arith, same, less))) (none_support q ps level are.3 (omega (arith, are.0, less)))

has_supports : (curve ps : List (ℕ × ℕ)) (y : ℕ) → ArePoints curve → ArePoints ps → first_level ps ≤ y → y ≤ last_level ps → has (supports curve ps) y ≡ (is_support ps y || is_support curve y)
has_supports curve [] y curve_are are low high = absurd are
has_supports curve (p ∷ []) y curve_are are low high = rw (eq-eqb p.0 y (omega (arith, low, high))) refl
has_supports curve (p ∷ q ∷ ps) y curve_are are low high = elim (cases_eq p.0 y) [
  | inl same ↦ rw (eq-eqb p.0 y same) refl
  | inr apart ↦
      let parts = has-append (between p.0 q.0 curve) (supports curve (q ∷ ps)) y in
      elim (cases_lt y q.0) [
        | inl inside ↦
            let here = has_between p.0 q.0 y curve (omega (arith, low, apart)) inside in
            let later = none_has q.0 (last_level (q ∷ ps) + 1) (supports curve (q ∷ ps)) y (supports_rise curve (q ∷ ps) curve_are are.3) inside in
            let value = parts ∙ ap (λ b. b || has (supports curve (q ∷ ps)) y) here ∙ ap (λ b. is_support curve y || b) later ∙ or_false (is_support curve y) in
            let none = none_support q ps y are.3 inside in
            rw (ne_eqb p.0 y apart) (value ∙ ap (λ b. b || is_support curve y) (sym none))
        | inr beyond ↦
            let here = past_has (p.0 + 1) q.0 (between p.0 q.0 curve) y (between_rises p.0 q.0 curve curve_are) beyond in
            let later = has_supports curve (q ∷ ps) y curve_are are.3 beyond high in
            let value = parts ∙ ap (λ b. b || has (supports curve (q ∷ ps)) y) here ∙ later in
            rw (ne_eqb p.0 y apart) value
      ]
]

pub supports_are_starts : (curve ps : List (ℕ × ℕ)) → ArePoints curve → ArePoints ps → starts ps curve ≡ supports curve ps
unfolding starts level_times
supports_are_starts curve ps curve_are are =
    let n = last_level ps + 1 - first_level ps in
    let size = length-map-range_with_len (time_on ps) (first_level ps) n in
    let end : last_level ps + 1 ≡ first_level ps + n = omega (arith, first_is_least ps are) in
    let rises : RisesWithin (first_level ps) (first_level ps + n) (supports curve ps) = subst (λ top. RisesWithin (first_level ps) top (supports curve ps)) end (supports_rise curve ps curve_are are) in
    let same = is_filter (λ level. is_support ps level || is_support curve level) n (first_level ps) (supports curve ps) rises (λ y low high. has_supports curve ps y curve_are are low (omega (arith, high, end))) in
    ap (λ k. filter (λ level. is_support ps level || is_support curve level) (range_with_len (first_level ps) k)) size ∙ same

pub supports_end : (curve ps : List (ℕ × ℕ)) (n : ℕ) (d : ℕ × ℕ) → n < length ps → length ps ≤ n + 1 → supports curve (drop n ps) ≡ (get_or ps n d).0 ∷ []
supports_end curve [] n d less last = absurd (omega arith)
supports_end curve (p ∷ []) zero d less last = refl
supports_end curve (p ∷ q ∷ ps) zero d less last = absurd (omega arith)
supports_end curve (p ∷ ps) (suc n) d less last = supports_end curve ps n d (omega arith) (omega arith)
