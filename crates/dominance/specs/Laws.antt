-- The laws of coverage, which hold for any times at whole levels.
use Rattle.std.specs.Prelude.{◌≡◌, ◌↔◌, ℕ, zero, suc, ◌+◌, ◌-◌, ◌<◌, ◌≤◌, Bool, true, ◌&&◌, List, length, nat_le, refl}
use Rattle.std.specs.List.{list_all, list_any, range_with_len}
use Rattle.std.proofs.Common.{◌∙◌, ap, sym, arith, inl, inr}
use Rattle.std.proofs.lemmas.Bool.{and_from, and_parts, cases_eq, cases_lt, false≢true, le-leb, leb-true, or_cases, or_left, or_right}
use Rattle.charge_curve.specs.Points.{last_level, time_on}
use Rattle.dominance.specs.LevelTimes.{IsLevel, LevelTimes, time_at}
use Rattle.dominance.specs.Coverage.{CoversEach, does_cover, does_reach, Reaches}
use Rattle.dominance.specs.Steps.{charged, IsCharge, IsShift}

pub covers_itself : (v : LevelTimes) → CoversEach v v 0
covers_itself v level is = (level, is, (omega arith, omega arith))

pub adds_extras : (x y z : LevelTimes) (a b : ℕ) → CoversEach x y a → CoversEach y z b →
    CoversEach x z (a + b)
adds_extras x y z a b first second level is =
    let middle = second level is in
    let high = first middle.0 middle.1 in
    (high.0, high.1, (omega (arith, middle.2.0, high.2.0), omega (arith, middle.2.1, high.2.1)))

-- tests over a range of levels
any_below : (p : ℕ → Bool) (n a : ℕ) → list_any p (range_with_len a n) ≡ true →
    (x : ℕ) × ((a ≤ x) × (x < a + n)) × (p x ≡ true)
any_below p zero a is = absurd (false≢true is)
any_below p (suc n) a is = elim (or_cases (p a) (list_any p (range_with_len (a + 1) n)) is) [
  | inl here ↦ (a, (omega arith, omega arith), here)
  | inr later ↦ let rest = any_below p n (a + 1) later in (rest.0, (omega (arith, rest.1.0), omega (arith, rest.1.1)), rest.2)
]

any_from : (p : ℕ → Bool) (n a x : ℕ) → a ≤ x → x < a + n → p x ≡ true →
    list_any p (range_with_len a n) ≡ true
any_from p zero a x low high is = absurd (omega (arith, low, high))
any_from p (suc n) a x low high is = elim (cases_eq a x) [
  | inl same ↦ or_left (p a) (list_any p (range_with_len (a + 1) n)) (ap p same ∙ is)
  | inr other ↦ or_right (p a) (list_any p (range_with_len (a + 1) n)) (any_from p n (a + 1) x (omega (arith, low, other)) (omega (arith, high)) is)
]

all_below : (p : ℕ → Bool) (n a : ℕ) → list_all p (range_with_len a n) ≡ true → (x : ℕ) → a ≤ x →
    x < a + n → p x ≡ true
all_below p zero a is x low high = absurd (omega (arith, low, high))
all_below p (suc n) a is x low high =
    let both = and_parts (p a) (list_all p (range_with_len (a + 1) n)) is in
    elim (cases_eq a x) [
      | inl same ↦ sym (ap p same) ∙ both.0
      | inr other ↦ all_below p n (a + 1) both.1 x (omega (arith, low, other)) (omega (arith, high))
    ]

all_from : (p : ℕ → Bool) (n a : ℕ) → ((x : ℕ) → a ≤ x → x < a + n → p x ≡ true) →
    list_all p (range_with_len a n) ≡ true
all_from p zero a each = refl
all_from p (suc n) a each =
    and_from (p a) (list_all p (range_with_len (a + 1) n)) (each a (omega arith) (omega arith))
    (all_from p n (a + 1) (λ x low high. each x (omega (arith, low)) (omega (arith, high))))

reaches : (v : LevelTimes) (extra level time : ℕ) → (does_reach v extra level time ≡ true) ↔
    Reaches v extra level time
reaches v extra level time =
    let test : ℕ → Bool = λ high. nat_le level high && nat_le (time_at v high + extra) time in (
      λ is.
          let found = any_below test (length v.times) v.first is in
          let both = and_parts (nat_le level found.0) (nat_le (time_at v found.0 + extra) time) found.2 in
          (found.0, found.1, (leb-true _ _ both.0, leb-true _ _ both.1)),
      λ r.
          any_from test (length v.times) v.first r.0 r.1.0 r.1.1
          (and_from (nat_le level r.0) (nat_le (time_at v r.0 + extra) time) (le-leb _ _ r.2.0) (le-leb _ _ r.2.1)),
    )

-- the test is exact
pub covers_exactly : (own other : LevelTimes) (extra : ℕ) → (does_cover own other extra ≡ true) ↔
    CoversEach own other extra
unfolding does_cover
covers_exactly own other extra =
    let test : ℕ → Bool = λ level. does_reach own extra level (time_at other level) in (
      λ is level low. (reaches own extra level (time_at other level)).0 (all_below test (length other.times) other.first is level low.0 low.1),
      λ each. all_from test (length other.times) other.first (λ level low high. (reaches own extra level (time_at other level)).1 (each level (low, high))),
    )

pub dominates_itself : (v : LevelTimes) → does_cover v v 0 ≡ true
dominates_itself v = (covers_exactly v v 0).1 (covers_itself v)

pub dominates_on : (x y z : LevelTimes) → does_cover x y 0 ≡ true → does_cover y z 0 ≡ true →
    does_cover x z 0 ≡ true
dominates_on x y z first second =
    (covers_exactly x z 0).1 (adds_extras x y z 0 0 ((covers_exactly x y 0).0 first) ((covers_exactly y z 0).0 second))

-- an arc keeps coverage
shift_reaches : (energy time limit extra : ℕ) (own other left : LevelTimes) →
    CoversEach own other extra → IsShift energy time limit other left → (level : ℕ) →
    IsLevel left level
    → (high : ℕ) × IsLevel own high ×
    ((level + energy ≤ high) × (time_at own high + time + extra ≤ time_at left level) ×
    (time_at own high + time ≤ limit))
shift_reaches energy time limit extra own other left covers is level low =
    let before = (is.left level).0 low in
    let high = covers (level + energy) before.0 in (
      high.0,
      high.1,
      (high.2.0, omega (arith, high.2.1, is.later level low), omega (arith, high.2.1, before.1)),
    )

pub shift_keeps : (energy time limit extra : ℕ) (own other left mine : LevelTimes) →
    CoversEach own other extra → IsShift energy time limit other left →
    IsShift energy time limit own mine → CoversEach mine left extra
shift_keeps energy time limit extra own other left mine covers its ours level low =
    let r = shift_reaches energy time limit extra own other left covers its level low in
    let back : r.0 - energy + energy ≡ r.0 = omega (arith, r.2.0) in
    let is : IsLevel own (r.0 - energy + energy) × (time_at own (r.0 - energy + energy) + time ≤ limit) = rw back (r.1, r.2.2) in
    let there = (ours.left (r.0 - energy)).1 is in
    let value : time_at mine (r.0 - energy) ≡ time_at own r.0 + time = rw back at (ours.later (r.0 - energy) there) in
    (r.0 - energy, there, (omega (arith, r.2.0), omega (arith, value, r.2.1)))

pub shift_keeps_some : (energy time limit extra : ℕ) (own other left : LevelTimes) →
    CoversEach own other extra → IsShift energy time limit other left
    → ((level : ℕ) → IsLevel own level → energy ≤ level → limit < time_at own level + time) →
    (level : ℕ) → IsLevel left level → ⊥
shift_keeps_some energy time limit extra own other left covers its none level low =
    let r = shift_reaches energy time limit extra own other left covers its level low in
    let past = none r.0 r.1 (omega (arith, r.2.0)) in
    omega (arith, past, r.2.2)

-- a charge keeps coverage: what a vehicle of the other value reaches, one of this value reaches by some charge
pub record ReachesCharge (v : LevelTimes) (curve : List (ℕ × ℕ)) (limit extra level time : ℕ) : Type 0 where
  pub high : ℕ
  pub at : ℕ
  pub is : IsCharge v curve limit high at
  pub above : level ≤ high
  pub in_time : at + extra ≤ time

pub charge_keeps : (own other : LevelTimes) (curve : List (ℕ × ℕ)) (limit extra : ℕ) →
    ((a b : ℕ) → a ≤ b → time_on curve a ≤ time_on curve b) →
    ((level : ℕ) → IsLevel own level → level ≤ last_level curve)
    → CoversEach own other extra → (level time : ℕ) → IsCharge other curve limit level time →
    ReachesCharge own curve limit extra level time
charge_keeps own other curve limit extra rises fits covers level time is =
    let reach = covers is.from is.starts in
    elim (cases_lt level reach.0) [
      | inl over ↦ record {
        high = reach.0;
        at = time_at own reach.0;
        is = record {
          from = reach.0;
          starts = reach.1;
          rises = omega arith;
          fits = fits reach.0 reach.1;
          takes = omega arith;
          in_time =
              omega (arith, reach.2.1, is.takes, is.in_time);
        };
        above = omega (arith, over);
        in_time = omega (arith, reach.2.1, is.takes);
      }
      | inr under ↦
          let later = rises is.from reach.0 reach.2.0 in
          let more = rises reach.0 level under in
          record {
            high = level;
            at = charged own curve reach.0 level;
            is = record {
              from = reach.0;
              starts = reach.1;
              rises = under;
              fits = is.fits;
              takes = refl;
              in_time =
                  omega (arith, reach.2.1, is.takes, is.in_time, later, more);
            };
            above = omega arith;
            in_time = omega (arith, reach.2.1, is.takes, later, more);
          }
    ]
