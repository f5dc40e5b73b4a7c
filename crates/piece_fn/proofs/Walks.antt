-- Lists of points, walked from piece to piece.
use Rattle.std.proofs.Common.{◌≡◌, ◌∙◌, ℕ, zero, suc, ◌+◌, ◌-◌, ◌%◌, ◌<◌, ◌≤◌, Bool, true, false, ◌&&◌, not, ◌||◌, refl, sym, ap, subst, List, [], ◌∷◌, length, drop, get_or, arith, inl, inr}
use Rattle.std.specs.List.{list_all}
use Rattle.std.specs.Prelude.{nat_eq, nat_le, nat_lt}
use Rattle.std.proofs.Math.Seq.{drop-cons}
use Rattle.std.proofs.lemmas.Bool.{and_parts, and_from, cases_lt, eq-eqb, eqb-true, false≢true, le-leb, leb-true, le-ltb, lt-ltb, ltb-true}
use Rattle.charge_curve.specs.Points.{ArePoints, last_level, time_on}
use Rattle.charge_curve.proofs.Denominators.{two_from}
use Rattle.dominance.proofs.Pieces.{time_on-later}
use Rattle.piece_fn.specs.Cuts.{are_points, from_piece, IsBeforeSecond, IsOnFirst, is_step, point_is_reached, point_reaches}

pub some_point : (ps : List (ℕ × ℕ)) → ArePoints ps → 0 < length ps
some_point [] are = absurd are
some_point (p ∷ ps) are = omega arith

-- the test of points
pub one_point : (ps : List (ℕ × ℕ)) (n : ℕ) → n < length ps → length ps ≤ n + 1 → are_points (drop n ps) ≡ true
one_point [] n some last = absurd (omega arith)
one_point (p ∷ []) zero some last = refl
one_point (p ∷ q ∷ ps) zero some last = absurd (omega arith)
one_point (p ∷ ps) (suc n) some last = one_point ps n (omega arith) (omega arith)

pub points_from_test : (ps : List (ℕ × ℕ)) → are_points ps ≡ true → ArePoints ps
points_from_test [] is = absurd (false≢true is)
points_from_test (p ∷ []) is = tt
points_from_test (p ∷ q ∷ ps) is =
    let both = and_parts (is_step p q) (are_points (q ∷ ps)) is in
    let step = and_parts (nat_lt p.0 q.0) (nat_le p.1 q.1 && nat_eq ((q.1 - p.1) % (q.0 - p.0)) 0) both.0 in
    let rest = and_parts (nat_le p.1 q.1) (nat_eq ((q.1 - p.1) % (q.0 - p.0)) 0) step.1 in
    (ltb-true p.0 q.0 step.0, leb-true p.1 q.1 rest.0, eqb-true _ 0 rest.1, points_from_test (q ∷ ps) both.1)

pub test_from_points : (ps : List (ℕ × ℕ)) → ArePoints ps → are_points ps ≡ true
test_from_points [] are = absurd are
test_from_points (p ∷ []) are = refl
test_from_points (p ∷ q ∷ ps) are =
    and_from (is_step p q) (are_points (q ∷ ps))
    (and_from (nat_lt p.0 q.0) (nat_le p.1 q.1 && nat_eq ((q.1 - p.1) % (q.0 - p.0)) 0) (lt-ltb p.0 q.0 are.0)
    (and_from (nat_le p.1 q.1) (nat_eq ((q.1 - p.1) % (q.0 - p.0)) 0) (le-leb p.1 q.1 are.1) (eq-eqb _ 0 are.2)))
    (test_from_points (q ∷ ps) are.3)

-- one step of the walk
pub from_piece-next : (level : ℕ) (ps : List (ℕ × ℕ)) (n : ℕ) (d : ℕ × ℕ) → n + 1 < length ps → (get_or ps (n + 1) d).0 ≤ level → from_piece level (drop (n + 1) ps) ≡ from_piece level (drop n ps)
from_piece-next level ps n d less past =
    let q = get_or ps (n + 1) d in
    let two = two_from ps n d less in
    rw (two.1, two.2, le-ltb level q.0 past) refl

-- the points from a level's piece on
pub from_piece-points : (level : ℕ) (ps : List (ℕ × ℕ)) → ArePoints ps → ArePoints (from_piece level ps)
from_piece-points level [] are = are
from_piece-points level (p ∷ []) are = are
from_piece-points level (p ∷ q ∷ ps) are = elim (cases_lt level q.0) [
  | inl under ↦ rw (lt-ltb level q.0 under) are
  | inr over ↦ rw (le-ltb level q.0 over) (from_piece-points level (q ∷ ps) are.3)
]

pub from_piece-on_first : (level : ℕ) (ps : List (ℕ × ℕ)) → ArePoints ps → IsOnFirst level (from_piece level ps)
from_piece-on_first level [] are = tt
from_piece-on_first level (p ∷ []) are = tt
from_piece-on_first level (p ∷ q ∷ ps) are = elim (cases_lt level q.0) [
  | inl under ↦ rw (lt-ltb level q.0 under) (omega (arith, under))
  | inr over ↦ rw (le-ltb level q.0 over) (from_piece-on_first level (q ∷ ps) are.3)
]

pub from_piece-before_second : (level : ℕ) (ps : List (ℕ × ℕ)) → ArePoints ps → IsBeforeSecond level (from_piece level ps)
from_piece-before_second level [] are = tt
from_piece-before_second level (p ∷ []) are = tt
from_piece-before_second level (p ∷ q ∷ ps) are = elim (cases_lt level q.0) [
  | inl under ↦ rw (lt-ltb level q.0 under) under
  | inr over ↦ rw (le-ltb level q.0 over) (from_piece-before_second level (q ∷ ps) are.3)
]

pub time_on-from_piece : (level : ℕ) (ps : List (ℕ × ℕ)) (high : ℕ) → ArePoints ps → level ≤ high → time_on (from_piece level ps) high ≡ time_on ps high
time_on-from_piece level [] high are le = refl
time_on-from_piece level (p ∷ []) high are le = refl
time_on-from_piece level (p ∷ q ∷ ps) high are le = elim (cases_lt level q.0) [
  | inl under ↦ rw (lt-ltb level q.0 under) refl
  | inr over ↦ rw (le-ltb level q.0 over) (time_on-from_piece level (q ∷ ps) high are.3 le ∙ sym (time_on-later p q ps high are (omega (arith, over, le))))
]

pub last_level-from_piece : (level : ℕ) (ps : List (ℕ × ℕ)) → last_level (from_piece level ps) ≡ last_level ps
last_level-from_piece level [] = refl
last_level-from_piece level (p ∷ []) = refl
last_level-from_piece level (p ∷ q ∷ ps) = elim (cases_lt level q.0) [
  | inl under ↦ rw (lt-ltb level q.0 under) refl
  | inr over ↦ rw (le-ltb level q.0 over) (last_level-from_piece level (q ∷ ps))
]

-- what holds of each point
abbrev pub EachAbove : ℕ → List (ℕ × ℕ) → Type 0
EachAbove level [] = Unit {0}
EachAbove level (p ∷ ps) = (level ≤ p.0) × EachAbove level ps

above_weaker : (low level : ℕ) (ps : List (ℕ × ℕ)) → low ≤ level → EachAbove level ps → EachAbove low ps
above_weaker low level [] le above = tt
above_weaker low level (p ∷ ps) le above = (omega (arith, le, above.0), above_weaker low level ps le above.1)

pub later_above : (p : ℕ × ℕ) (ps : List (ℕ × ℕ)) → ArePoints (p ∷ ps) → EachAbove p.0 ps
later_above p [] are = tt
later_above p (q ∷ ps) are = (omega (arith, are.0), above_weaker p.0 q.0 ps (omega (arith, are.0)) (later_above q ps are.3))

pub points_from : (ps : List (ℕ × ℕ)) (n : ℕ) → ArePoints ps → n < length ps → ArePoints (drop n ps)
points_from [] n are less = absurd are
points_from (p ∷ ps) zero are less = are
points_from (p ∷ []) (suc n) are less = absurd (omega arith)
points_from (p ∷ q ∷ ps) (suc n) are less = points_from (q ∷ ps) n are.3 (omega arith)

-- a test of points against the times of a list agrees with one against its points from a level on
abbrev pub Agrees : (List (ℕ × ℕ) → ℕ × ℕ → Bool) → Type 0
Agrees test = (level : ℕ) (rest : List (ℕ × ℕ)) (p : ℕ × ℕ) → ArePoints rest → level ≤ p.0 → test (from_piece level rest) p ≡ test rest p

all_agree : (test : List (ℕ × ℕ) → ℕ × ℕ → Bool) → Agrees test → (level : ℕ) (rest ps : List (ℕ × ℕ)) → ArePoints rest → EachAbove level ps → list_all (test (from_piece level rest)) ps ≡ list_all (test rest) ps
all_agree test agrees level rest [] are above = refl
all_agree test agrees level rest (p ∷ ps) are above =
    let here = agrees level rest p are above.0 in
    let later = all_agree test agrees level rest ps are above.1 in
    ap (λ b. b && list_all (test (from_piece level rest)) ps) here ∙ ap (λ b. test rest p && b) later

one_more : (test : List (ℕ × ℕ) → ℕ × ℕ → Bool) (rest ps : List (ℕ × ℕ)) (n : ℕ) (d : ℕ × ℕ) → n < length ps → list_all (test rest) (drop n ps) ≡ (test rest (get_or ps n d) && list_all (test rest) (drop (n + 1) ps))
one_more test rest ps n d less =
    let next : suc n ≡ n + 1 = omega arith in
    ap (λ xs. list_all (test rest) xs) (drop-cons ps n d less) ∙ ap (λ k. test rest (get_or ps n d) && list_all (test rest) (drop k ps)) next

pub pass_over : (test : List (ℕ × ℕ) → ℕ × ℕ → Bool) (rest ps : List (ℕ × ℕ)) (n : ℕ) (d : ℕ × ℕ) → n < length ps → test rest (get_or ps n d) ≡ true → list_all (test rest) (drop (n + 1) ps) ≡ list_all (test rest) (drop n ps)
pass_over test rest ps n d less passes = sym (one_more test rest ps n d less ∙ ap (λ b. b && list_all (test rest) (drop (n + 1) ps)) passes)

pub pass_on : (test : List (ℕ × ℕ) → ℕ × ℕ → Bool) → Agrees test → (rest ps : List (ℕ × ℕ)) (n : ℕ) (d : ℕ × ℕ) → ArePoints rest → ArePoints ps → n < length ps
    → test (from_piece (get_or ps n d).0 rest) (get_or ps n d) ≡ true → list_all (test (from_piece (get_or ps n d).0 rest)) (drop (n + 1) ps) ≡ list_all (test rest) (drop n ps)
pass_on test agrees rest ps n d are points less passes =
    let p = get_or ps n d in
    let next : suc n ≡ n + 1 = omega arith in
    let front = drop-cons ps n d less ∙ ap (λ k. get_or ps n d ∷ drop k ps) next in
    let all : ArePoints (get_or ps n d ∷ drop (n + 1) ps) = rw front at (points_from ps n points less) in
    let above = later_above (get_or ps n d) (drop (n + 1) ps) all in
    let here = sym (agrees p.0 rest p are (omega arith)) ∙ passes in
    all_agree test agrees p.0 rest (drop (n + 1) ps) are above ∙ pass_over test rest ps n d less here

pub fail_on : (test : List (ℕ × ℕ) → ℕ × ℕ → Bool) → Agrees test → (rest ps : List (ℕ × ℕ)) (n : ℕ) (d : ℕ × ℕ) → ArePoints rest → n < length ps
    → test (from_piece (get_or ps n d).0 rest) (get_or ps n d) ≡ false → list_all (test rest) (drop n ps) ≡ false
fail_on test agrees rest ps n d are less fails =
    let p = get_or ps n d in
    let here = sym (agrees p.0 rest p are (omega arith)) ∙ fails in
    one_more test rest ps n d less ∙ ap (λ b. b && list_all (test rest) (drop (n + 1) ps)) here

pub reached_agrees : (extra : ℕ) → Agrees (λ rest. point_is_reached rest extra)
reached_agrees extra level rest p are le = ap (λ t. nat_le (t + extra) p.1) (time_on-from_piece level rest p.0 are le)

pub reaches_agrees : (low high extra : ℕ) → Agrees (λ rest. point_reaches low high rest extra)
reaches_agrees low high extra level rest p are le = ap (λ t. not (nat_le low p.0 && nat_le p.0 high) || nat_le (p.1 + extra) t) (time_on-from_piece level rest p.0 are le)

-- points walked to a level
pub record IsWalked (low : ℕ) (ps now : List (ℕ × ℕ)) : Type 0 where
  pub are : ArePoints now
  pub before : IsBeforeSecond low now
  pub last : last_level now ≡ last_level ps
  pub times : (level : ℕ) → low ≤ level → time_on now level ≡ time_on ps level

pub walked : (low : ℕ) (ps rest now : List (ℕ × ℕ)) → ArePoints rest → last_level rest ≡ last_level ps → ((level : ℕ) → low ≤ level → time_on rest level ≡ time_on ps level) → now ≡ from_piece low rest → IsWalked low ps now
walked low ps rest now are last times is = subst (λ xs. IsWalked low ps xs) (sym is) (record {
  are = from_piece-points low rest are;
  before = from_piece-before_second low rest are;
  last = last_level-from_piece low rest ∙ last;
  times = λ level le. time_on-from_piece low rest level are le ∙ times level le;
})
