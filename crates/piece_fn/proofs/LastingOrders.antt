-- How long one time stays below another: on straight parts up to a quotient, and no further.
use Rattle.std.proofs.Common.{◌≡◌, ◌∙◌, ℕ, zero, suc, ◌+◌, ◌-◌, ◌*◌, ◌/◌, ◌<◌, ◌≤◌, sym, ap, subst, List, [], ◌∷◌, arith, inl, inr, ◌↔◌, length, get_or}
use Rattle.std.proofs.Math.Nat.{div-mul-le_self, mul-le-mul_left, mul-le-mul_right}
use Rattle.std.proofs.lemmas.Bool.{cases_lt}
use Rattle.std.proofs.lemmas.Nat.{le-div}
use Rattle.charge_curve.specs.Points.{ArePoints, last_level, slope, time_on}
use Rattle.dominance.proofs.Pieces.{time_on-before, time_on-first, time_on-next}
use Rattle.piece_fn.specs.Cuts.{IsBeforeSecond, IsOnFirst}
use Rattle.piece_fn.specs.PieceFn.{first_level}
use Rattle.piece_fn.specs.Reach.{IsStraightTo, LastsTo}
use Rattle.piece_fn.proofs.Levels.{first_is_least}
use Rattle.piece_fn.proofs.Straight.{straight_piece}

-- the same growth at each level
abbrev IsStraight : (ℕ → ℕ) → ℕ → ℕ → Type 0
IsStraight f low n = (level : ℕ) → low < level → level < low + n → f (level + 1) + f (level - 1) ≡ 2 * f level

same_step : (f : ℕ → ℕ) (low n : ℕ) → IsStraight f low n → (i : ℕ) → i < n → f (low + i + 1) + f low ≡ f (low + i) + f (low + 1)
same_step f low n straight zero less = let same : low + 0 ≡ low = omega arith in rw same (omega arith)
same_step f low n straight (suc i) less =
    let here : low + suc i ≡ low + i + 1 = omega arith in
    let back : low + i + 1 - 1 ≡ low + i = omega arith in
    let bend : f (low + i + 1 + 1) + f (low + i + 1 - 1) ≡ 2 * f (low + i + 1) = straight (low + i + 1) (omega arith) (omega (arith, less)) in
    let bend_here : f (low + i + 1 + 1) + f (low + i) ≡ 2 * f (low + i + 1) = rw back at bend in
    rw here (omega (arith, bend_here, same_step f low n straight i (omega (arith, less))))

grown : (next here first second i : ℕ) → first ≤ second → next + first ≡ here + second → here ≡ first + (second - first) * i → next ≡ first + (second - first) * suc i
grown next here first second i up step before =
    let split : second ≡ first + (second - first) = omega (arith, up) in
    let product : (second - first) * suc i ≡ (second - first) * i + (second - first) = omega arith in
    omega (arith, split, product, step, before)

affine : (f : ℕ → ℕ) (low n : ℕ) → IsStraight f low n → f low ≤ f (low + 1) → (i : ℕ) → i ≤ n → f (low + i) ≡ f low + (f (low + 1) - f low) * i
affine f low n straight up zero le = let same : low + 0 ≡ low = omega arith in rw same (omega arith)
affine f low n straight up (suc i) le =
    let here : low + suc i ≡ low + i + 1 = omega arith in
    let step = same_step f low n straight i (omega (arith, le)) in
    let before = affine f low n straight up i (omega (arith, le)) in
    rw here (grown (f (low + i + 1)) (f (low + i)) (f low) (f (low + 1)) i up step before)

-- where one time grows by n and d more a level and the other by n: how many levels it stays below
stays : (a b n d i : ℕ) → 0 < d → a ≤ b → (a + (n + d) * i ≤ b + n * i) ↔ (i ≤ (b - a) / d)
stays a b n d i some le = (
  λ below. le-div i (b - a) d some (omega (arith, below, le)),
  λ within.
      let back = div-mul-le_self (b - a) d in
      let scaled : d * i ≤ d * ((b - a) / d) = mul-le-mul_left d within in
      omega (arith, back, scaled, le),
)

-- two functions that are straight from low on for n levels
pub record AreStraight (own other : ℕ → ℕ) (low n : ℕ) : Type 0 where
  pub own_straight : IsStraight own low n
  pub other_straight : IsStraight other low n
  pub own_up : own low ≤ own (low + 1)
  pub other_up : other low ≤ other (low + 1)

pub is_steeper : (own other : ℕ → ℕ) (extra low n : ℕ) → AreStraight own other low n → own low + extra ≤ other low → other (low + n) < own (low + n) + extra → (other (low + 1) - other low) < (own (low + 1) - own low)
is_steeper own other extra low n are covered fails = elim (cases_lt (other (low + 1) - other low) (own (low + 1) - own low)) [
  | inl less ↦ less
  | inr more ↦
      let end_own = affine own low n are.own_straight are.own_up n (omega arith) in
      let end_other = affine other low n are.other_straight are.other_up n (omega arith) in
      let scaled : (own (low + 1) - own low) * n ≤ (other (low + 1) - other low) * n = mul-le-mul_right n more in
      absurd (omega (arith, end_own, end_other, scaled, covered, fails))
]

abbrev pub last_covered : (ℕ → ℕ) → (ℕ → ℕ) → ℕ → ℕ → ℕ
last_covered own other extra low = (other low - own low - extra) / ((own (low + 1) - own low) - (other (low + 1) - other low))

covered_to : (own other : ℕ → ℕ) (extra low n : ℕ) → AreStraight own other low n → own low + extra ≤ other low → other (low + n) < own (low + n) + extra
    → (i : ℕ) → i ≤ n → (own (low + i) + extra ≤ other (low + i)) ↔ (i ≤ last_covered own other extra low)
covered_to own other extra low n are covered fails i le =
    let less = is_steeper own other extra low n are covered fails in
    let d = (own (low + 1) - own low) - (other (low + 1) - other low) in
    let split : own (low + 1) - own low ≡ (other (low + 1) - other low) + ((own (low + 1) - own low) - (other (low + 1) - other low)) = omega (arith, less) in
    let at_own = affine own low n are.own_straight are.own_up i le in
    let at_other = affine other low n are.other_straight are.other_up i le in
    let value : own (low + i) ≡ own low + ((other (low + 1) - other low) + ((own (low + 1) - own low) - (other (low + 1) - other low))) * i = at_own ∙ ap (λ m. own low + m * i) split in
    let gap : other low - (own low + extra) ≡ other low - own low - extra = omega arith in
    let tells = stays (own low + extra) (other low) (other (low + 1) - other low) d i (omega (arith, less)) covered in (
      λ below. subst (λ g. i ≤ g / ((own (low + 1) - own low) - (other (low + 1) - other low))) gap (tells.0 (omega (arith, value, at_other, below))),
      λ within.
          let there = tells.1 (subst (λ g. i ≤ g / ((own (low + 1) - own low) - (other (low + 1) - other low))) (sym gap) within) in
          omega (arith, value, at_other, there),
    )

pub lasts : (own other : ℕ → ℕ) (extra low n : ℕ) → AreStraight own other low n → own low + extra ≤ other low → other (low + n) < own (low + n) + extra → LastsTo own other extra low (low + n) (low + last_covered own other extra low)
lasts own other extra low n are covered fails =
    let tells = covered_to own other extra low n are covered fails in
    let within : last_covered own other extra low < n = elim (cases_lt (last_covered own other extra low) n) [
      | inl less ↦ less
      | inr more ↦ let there = (tells n (omega arith)).1 more in absurd (omega (arith, there, fails))
    ] in
    record {
      above = omega arith;
      within = omega (arith, within);
      covered = λ level le high.
          let place : low + (level - low) ≡ level = omega (arith, le) in
          let there = (tells (level - low) (omega (arith, le, high, within))).1 (omega (arith, le, high)) in
          subst (λ x. own x + extra ≤ other x) place there;
      stops = λ less.
          let place : low + (last_covered own other extra low + 1) ≡ low + last_covered own other extra low + 1 = omega arith in
          elim (cases_lt (other (low + last_covered own other extra low + 1)) (own (low + last_covered own other extra low + 1) + extra)) [
            | inl over ↦ over
            | inr under ↦
                let there = (tells (last_covered own other extra low + 1) (omega (arith, within))).0 (subst (λ x. own x + extra ≤ other x) (sym place) under) in
                absurd (omega (arith, there))
          ];
    }

-- a line below another at both ends is below it between
chord : (a b m k n i : ℕ) → i ≤ n → a ≤ b → a + m * n ≤ b + k * n → a + m * i ≤ b + k * i
chord a b m k n i le first last = elim (cases_lt k m) [
  | inl steeper ↦
      let split : m ≡ k + (m - k) = omega (arith, steeper) in
      let at_n : m * n ≡ k * n + (m - k) * n = ap (λ x. x * n) split ∙ omega arith in
      let at_i : m * i ≡ k * i + (m - k) * i = ap (λ x. x * i) split ∙ omega arith in
      let scaled : (m - k) * i ≤ (m - k) * n = mul-le-mul_left (m - k) le in
      omega (arith, at_n, at_i, scaled, first, last)
  | inr flatter ↦
      let scaled : m * i ≤ k * i = mul-le-mul_right i flatter in
      omega (arith, scaled, first)
]

-- where coverage lasts to the end
pub lasts_whole : (own other : ℕ → ℕ) (extra low n : ℕ) → AreStraight own other low n → own low + extra ≤ other low → own (low + n) + extra ≤ other (low + n) → LastsTo own other extra low (low + n) (low + n)
lasts_whole own other extra low n are covered ends = record {
  above = omega arith;
  within = omega arith;
  covered = λ level le high.
      let place : low + (level - low) ≡ level = omega (arith, le) in
      let at_own = affine own low n are.own_straight are.own_up (level - low) (omega (arith, high, le)) in
      let at_other = affine other low n are.other_straight are.other_up (level - low) (omega (arith, high, le)) in
      let end_own = affine own low n are.own_straight are.own_up n (omega arith) in
      let end_other = affine other low n are.other_straight are.other_up n (omega arith) in
      let there = chord (own low + extra) (other low) (own (low + 1) - own low) (other (low + 1) - other low) n (level - low) (omega (arith, high, le)) covered (omega (arith, ends, end_own, end_other)) in
      subst (λ x. own x + extra ≤ other x) place (omega (arith, at_own, at_other, there));
  stops = λ less. absurd (omega (arith, less));
}

first_on : (p : ℕ × ℕ) (ps : List (ℕ × ℕ)) → ArePoints (p ∷ ps) → IsOnFirst p.0 (p ∷ ps)
first_on p [] are = tt
first_on p (q ∷ ps) are = omega (arith, are.0)

-- up to the next point times are straight
pub next_is_straight : (ps : List (ℕ × ℕ)) (low : ℕ) → ArePoints ps → low < last_level ps → IsBeforeSecond low ps → low < first_level ps → IsStraightTo ps low (first_level ps)
next_is_straight [] low are less before under = absurd are
next_is_straight (p ∷ ps) low are less before under = record {
  first = first_on p ps are;
  straight = λ level above below.
      let one = time_on-before p ps (level + 1) are (omega (arith, below)) in
      let two = time_on-before p ps (level - 1) are (omega (arith, below)) in
      let three = time_on-before p ps level are (omega (arith, below)) in
      omega (arith, one, two, three);
}

pub second_is_straight : (p q : ℕ × ℕ) (ps : List (ℕ × ℕ)) (low : ℕ) → ArePoints (p ∷ q ∷ ps) → p.0 ≤ low → IsStraightTo (p ∷ q ∷ ps) low q.0
second_is_straight p q ps low are over = record {
  first = omega arith;
  straight = λ level above below.
      rw (time_on-first p q ps (level + 1) (omega (arith, below)), time_on-first p q ps (level - 1) (omega (arith, below)), time_on-first p q ps level (omega (arith, below)))
      (straight_piece p.1 (slope p q) p.0 level (λ same. omega (arith, same, above, over)) (omega (arith, above)));
}

pub one_is_straight : (p : ℕ × ℕ) (low : ℕ) → IsStraightTo (p ∷ []) low p.0
one_is_straight p low = record { first = tt; straight = λ level above below. omega arith }

-- two lists of points that are straight up to a level
pub are_straight : (own other : List (ℕ × ℕ)) (low high : ℕ) → ArePoints own → ArePoints other → low < high → IsStraightTo own low high → IsStraightTo other low high → AreStraight (time_on own) (time_on other) low (high - low)
are_straight own other low high own_are other_are less mine its = record {
  own_straight = λ level above below. mine.straight level above (omega (arith, below, less));
  other_straight = λ level above below. its.straight level above (omega (arith, below, less));
  own_up = time_on-next own low own_are;
  other_up = time_on-next other low other_are;
}

pub lasts_to_high : (own other : List (ℕ × ℕ)) (extra low high : ℕ) → ArePoints own → ArePoints other → low < high → IsStraightTo own low high → IsStraightTo other low high
    → time_on own low + extra ≤ time_on other low → time_on own high + extra ≤ time_on other high → LastsTo (time_on own) (time_on other) extra low high high
lasts_to_high own other extra low high own_are other_are less mine its covered ends =
    let are = are_straight own other low high own_are other_are less mine its in
    let place : low + (high - low) ≡ high = omega (arith, less) in
    subst (λ x. LastsTo (time_on own) (time_on other) extra low x x) place
    (lasts_whole (time_on own) (time_on other) extra low (high - low) are covered (subst (λ x. time_on own x + extra ≤ time_on other x) (sym place) ends))

pub lasts_below : (own other : List (ℕ × ℕ)) (extra low high : ℕ) → ArePoints own → ArePoints other → low < high → IsStraightTo own low high → IsStraightTo other low high
    → time_on own low + extra ≤ time_on other low → time_on other high < time_on own high + extra → LastsTo (time_on own) (time_on other) extra low high (low + last_covered (time_on own) (time_on other) extra low)
lasts_below own other extra low high own_are other_are less mine its covered fails =
    let are = are_straight own other low high own_are other_are less mine its in
    let place : low + (high - low) ≡ high = omega (arith, less) in
    subst (λ x. LastsTo (time_on own) (time_on other) extra low x (low + last_covered (time_on own) (time_on other) extra low)) place
    (lasts (time_on own) (time_on other) extra low (high - low) are covered (subst (λ x. time_on other x < time_on own x + extra) (sym place) fails))

pub steeper : (own other : List (ℕ × ℕ)) (extra low high : ℕ) → ArePoints own → ArePoints other → low < high → IsStraightTo own low high → IsStraightTo other low high
    → time_on own low + extra ≤ time_on other low → time_on other high < time_on own high + extra → (time_on other (low + 1) - time_on other low) < (time_on own (low + 1) - time_on own low)
steeper own other extra low high own_are other_are less mine its covered fails =
    let are = are_straight own other low high own_are other_are less mine its in
    let place : low + (high - low) ≡ high = omega (arith, less) in
    is_steeper (time_on own) (time_on other) extra low (high - low) are covered (subst (λ x. time_on other x < time_on own x + extra) (sym place) fails)

first_less : (ps : List (ℕ × ℕ)) (high less : ℕ) → IsOnFirst high ps → less ≤ high → IsOnFirst less ps
first_less [] high less on le = tt
first_less (p ∷ []) high less on le = tt
first_less (p ∷ q ∷ ps) high less on le = omega (arith, on, le)

pub straight_to_less : (ps : List (ℕ × ℕ)) (low high less : ℕ) → IsStraightTo ps low high → less ≤ high → IsStraightTo ps low less
straight_to_less ps low high less is le = record {
  first = first_less ps high less is.first le;
  straight = λ level above below. is.straight level above (omega (arith, below, le));
}

-- the points of a list by their places
pub first_within : (ps : List (ℕ × ℕ)) (d : ℕ × ℕ) → ArePoints ps → (get_or ps 0 d).0 ≤ last_level ps
first_within [] d are = absurd are
first_within (p ∷ ps) d are = first_is_least (p ∷ ps) are

pub second_within : (ps : List (ℕ × ℕ)) (d : ℕ × ℕ) → ArePoints ps → 2 ≤ length ps → (get_or ps 1 d).0 ≤ last_level ps
second_within [] d are two = absurd are
second_within (p ∷ []) d are two = absurd (omega arith)
second_within (p ∷ q ∷ ps) d are two = first_is_least (q ∷ ps) are.3

pub straight_to_second : (ps : List (ℕ × ℕ)) (low : ℕ) (d : ℕ × ℕ) → ArePoints ps → 2 ≤ length ps → (get_or ps 0 d).0 ≤ low → IsStraightTo ps low (get_or ps 1 d).0
straight_to_second [] low d are two over = absurd are
straight_to_second (p ∷ []) low d are two over = absurd (omega arith)
straight_to_second (p ∷ q ∷ ps) low d are two over = second_is_straight p q ps low are over

-- coverage from a level on, lasting further
pub covered_further : (own other mine its : ℕ → ℕ) (extra from low high last : ℕ) → ((level : ℕ) → low ≤ level → mine level ≡ own level) → ((level : ℕ) → low ≤ level → its level ≡ other level)
    → ((level : ℕ) → from ≤ level → level ≤ low → own level + extra ≤ other level) → LastsTo mine its extra low high last → (level : ℕ) → from ≤ level → level ≤ last → own level + extra ≤ other level
covered_further own other mine its extra from low high last mine_is its_is covered is level le top = elim (cases_lt low level) [
  | inl over ↦ omega (arith, is.covered level (omega (arith, over)) top, mine_is level (omega (arith, over)), its_is level (omega (arith, over)))
  | inr under ↦ covered level le under
]

pub last_further : (own other mine its : ℕ → ℕ) (extra from low high last end : ℕ) → ((level : ℕ) → low ≤ level → mine level ≡ own level) → ((level : ℕ) → low ≤ level → its level ≡ other level)
    → ((level : ℕ) → from ≤ level → level ≤ low → own level + extra ≤ other level) → LastsTo mine its extra low high last → last < high → from ≤ low → high ≤ end → LastsTo own other extra from end last
last_further own other mine its extra from low high last end mine_is its_is covered is less above within = record {
  above = omega (arith, above, is.above);
  within = omega (arith, less, within);
  covered = covered_further own other mine its extra from low high last mine_is its_is covered is;
  stops = λ _. omega (arith, is.stops less, mine_is (last + 1) (omega (arith, is.above)), its_is (last + 1) (omega (arith, is.above)));
}
