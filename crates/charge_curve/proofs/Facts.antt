-- A scaled curve has the times of its breakpoints, and no piece is faster than the one before it.
use Rattle.std.proofs.Common.{◌≡◌, ◌∙◌, ℕ, zero, suc, ◌+◌, ◌-◌, ◌*◌, ◌/◌, ◌^◌, ◌<◌, ◌≤◌, List, [], ◌∷◌, refl, sym, ap, subst, arith, inl, inr}
use Rattle.std.specs.List.{All}
use Rattle.std.proofs.Math.Nat.{mul-le-mul}
use Rattle.std.proofs.lemmas.Bool.{cases_lt, le-leb, lt-leb}
use Rattle.std.proofs.lemmas.List.Elements.{All-cons, All-head, All-nil, All-tail}
use Rattle.ev_model.specs.Curve.{IsConcave, IsCurve, IsMultipleOfSlopes, Rises, charge_time, last_charge}
use Rattle.ev_model.proofs.ChargeTime.{charge_time-first, charge_time-later}
use Rattle.charge_curve.specs.CutCurve.{CutCurve, IsAccepted}
use Rattle.charge_curve.specs.Points.{ArePoints, IsSlowing, last_level, slope, time_on}
use Rattle.charge_curve.specs.Scaled.{IsScaledCurve, breaks_of, scaled}
use Rattle.charge_curve.proofs.Cut.{IsPiece, breaks_are_cut, cut, cut_at, cut_over, cut_piece, cut_under, none_below, slower, whole_piece}

abbrev pub IsSmallTime : ℕ × ℕ → Type 0
IsSmallTime x = x.1 ≤ 10 ^ 18

abbrev pub IsSmallPoint : ℕ × ℕ → Type 0
IsSmallPoint p = p.0 ≤ 10 ^ 9

-- what is known of the breakpoints from p on
record IsRest (d full : ℕ) (p : ℕ × ℕ) (ps : List (ℕ × ℕ)) : Type 0 where
  pub below : p.1 < full
  pub rises : Rises (p ∷ ps)
  pub concave : IsConcave (p ∷ ps)
  pub reaches : full ≤ last_charge (p ∷ ps)
  pub multiple : IsMultipleOfSlopes full (p ∷ ps) d
  pub small : All IsSmallPoint (p ∷ ps)

-- what holds of the scaled curve from p on
record IsFine (d full : ℕ) (p q : ℕ × ℕ) (ps : List (ℕ × ℕ)) : Type 0 where
  pub next : ℕ × ℕ
  pub rest : List (ℕ × ℕ)
  pub is : cut d full (p ∷ q ∷ ps) ≡ scaled d p ∷ next ∷ rest
  pub piece : IsPiece d full p q next
  pub points : ArePoints (scaled d p ∷ next ∷ rest)
  pub slowing : IsSlowing (scaled d p ∷ next ∷ rest)
  pub last : last_level (scaled d p ∷ next ∷ rest) ≡ full
  pub small : All IsSmallTime (scaled d p ∷ next ∷ rest)
  pub times : (level : ℕ) → level ≤ full → time_on (scaled d p ∷ next ∷ rest) level ≡ charge_time d (p ∷ q ∷ ps) level

small_time : (d : ℕ) (p : ℕ × ℕ) → d ≤ 10 ^ 9 → IsSmallPoint p → d * p.0 ≤ 10 ^ 18
small_time d p small point = mul-le-mul small point

-- the time on the first piece
on_first : (d full : ℕ) (p q next : ℕ × ℕ) (ps rest : List (ℕ × ℕ)) (level : ℕ) → IsPiece d full p q next → level ≤ next.0 → level ≤ q.1 →
    time_on (scaled d p ∷ next ∷ rest) level ≡ charge_time d (p ∷ q ∷ ps) level
on_first d full p q next ps rest level piece within le =
    let first : time_on (scaled d p ∷ next ∷ rest) level ≡ d * p.0 + slope (scaled d p) next * (level - p.1) = rw (le-leb level next.0 within) refl in
    first ∙ ap (λ s. d * p.0 + s * (level - p.1)) piece.slope_is ∙ sym (charge_time-first d p q ps level le)

past_first : (d : ℕ) (p next : ℕ × ℕ) (rest : List (ℕ × ℕ)) (level : ℕ) → next.0 < level → time_on (scaled d p ∷ next ∷ rest) level ≡ time_on (next ∷ rest) level
past_first d p next rest level past = rw (lt-leb level next.0 past) refl

fine_over : (d full : ℕ) (p q : ℕ × ℕ) (ps : List (ℕ × ℕ)) → d ≤ 10 ^ 9 → IsRest d full p (q ∷ ps) → full ≤ q.1 → IsFine d full p q ps
fine_over d full p q ps small known over =
    let divides = known.multiple.0 known.below in
    let piece = cut_piece d full p q known.rises.0 known.below over divides in
    let end = piece.end in
    let tail = All-tail IsSmallPoint p (q ∷ ps) known.small in
    let here = small_time d p small (All-head IsSmallPoint p (q ∷ ps) known.small) in
    let there = small_time d q small (All-head IsSmallPoint q ps tail) in
    record {
      next = cut_at d full p q;
      rest = [];
      is = cut_over d full p q ps over;
      piece = piece;
      points = (piece.higher, piece.later, piece.whole, tt);
      slowing = tt;
      last = refl;
      small = All-cons IsSmallTime (scaled d p) (cut_at d full p q ∷ []) here (All-cons IsSmallTime (cut_at d full p q) [] (omega (arith, end, there)) (All-nil IsSmallTime));
      times = λ level le. on_first d full p q (cut_at d full p q) ps [] level piece le (omega (arith, le, over));
    }

fine_under : (d full : ℕ) (p q r : ℕ × ℕ) (ps : List (ℕ × ℕ)) → d ≤ 10 ^ 9 → IsRest d full p (q ∷ r ∷ ps) → q.1 < full → IsFine d full q r ps → IsFine d full p q (r ∷ ps)
fine_under d full p q r ps small known under later =
    let divides = known.multiple.0 known.below in
    let divides_next = known.multiple.1.0 under in
    let piece = whole_piece d full p q known.rises.0 known.rises.1 divides in
    let slow = slower d p q r known.rises.1 known.rises.2.1 divides divides_next known.concave.0 in
    let here = small_time d p small (All-head IsSmallPoint p (q ∷ r ∷ ps) known.small) in
    record {
      next = scaled d q;
      rest = later.next ∷ later.rest;
      is = cut_under d full p q (r ∷ ps) under ∙ ap (λ xs. scaled d p ∷ xs) later.is;
      piece = piece;
      points = (piece.higher, piece.later, piece.whole, later.points);
      slowing = (rw (piece.slope_is, later.piece.slope_is) slow, later.slowing);
      last = later.last;
      small = All-cons IsSmallTime (scaled d p) (scaled d q ∷ later.next ∷ later.rest) here later.small;
      times = λ level le. elim (cases_lt q.1 level) [
        | inl past ↦ past_first d p (scaled d q) (later.next ∷ later.rest) level past ∙ later.times level le ∙ sym (charge_time-later d p q (r ∷ ps) level past)
        | inr within ↦ on_first d full p q (scaled d q) (r ∷ ps) (later.next ∷ later.rest) level piece (omega (arith, within)) (omega (arith, within))
      ];
    }

rest_known : (d full : ℕ) (p q r : ℕ × ℕ) (ps : List (ℕ × ℕ)) → IsRest d full p (q ∷ r ∷ ps) → q.1 < full → IsRest d full q (r ∷ ps)
rest_known d full p q r ps known under = record {
  below = under;
  rises = known.rises.2;
  concave = known.concave.1;
  reaches = known.reaches;
  multiple = known.multiple.1;
  small = All-tail IsSmallPoint p (q ∷ r ∷ ps) known.small;
}

fine : (d full : ℕ) (p q : ℕ × ℕ) (ps : List (ℕ × ℕ)) → d ≤ 10 ^ 9 → IsRest d full p (q ∷ ps) → IsFine d full p q ps
fine d full p q [] small known = fine_over d full p q [] small known known.reaches
fine d full p q (r ∷ ps) small known = elim (cases_lt q.1 full) [
  | inl under ↦ fine_under d full p q r ps small known under (fine d full q r ps small (rest_known d full p q r ps known under))
  | inr over ↦ fine_over d full p q (r ∷ ps) small known over
]

-- what `scale` gives
pub record IsScaling (d full : ℕ) (points breaks : List (ℕ × ℕ)) : Type 0 where
  pub curve : IsScaledCurve breaks
  pub times : (level : ℕ) → level ≤ full → time_on breaks level ≡ charge_time d points level
  pub last : last_level breaks ≡ full

scaling_of : (d full : ℕ) (p q : ℕ × ℕ) (ps : List (ℕ × ℕ)) → full ≤ 10 ^ 9 → p ≡ (0, 0) → IsFine d full p q ps → IsScaling d full (p ∷ q ∷ ps) (cut d full (p ∷ q ∷ ps))
scaling_of d full p q ps small begins is_fine =
    let first : scaled d p ≡ (0, 0) = subst (λ (x : ℕ × ℕ). scaled d x ≡ (0, 0)) (sym begins) (let none : d * 0 ≡ 0 = omega arith in rw none refl) in
    subst (λ (xs : List (ℕ × ℕ)). IsScaling d full (p ∷ q ∷ ps) xs) (sym is_fine.is) (record {
      curve = record {
        begins = first;
        points = is_fine.points;
        slowing = is_fine.slowing;
        small_level = let last = is_fine.last in omega (arith, last, small);
        small_times = is_fine.small;
      };
      times = is_fine.times;
      last = is_fine.last;
    })

-- a battery of size 0
empty_time : (d : ℕ) (p : ℕ × ℕ) (ps : List (ℕ × ℕ)) → p ≡ (0, 0) → charge_time d (p ∷ ps) 0 ≡ 0
empty_time d p [] begins = subst (λ (x : ℕ × ℕ). d * x.0 ≡ 0) (sym begins) (omega arith)
empty_time d p (q ∷ ps) begins =
    let none : d * 0 ≡ 0 = omega arith in
    charge_time-first d p q ps 0 (omega arith)
    ∙ subst (λ (x : ℕ × ℕ). d * x.0 + d * (q.0 - x.0) / (q.1 - x.1) * (0 - x.1) ≡ 0) (sym begins) (omega (arith, none))

empty_scaling : (d : ℕ) (p : ℕ × ℕ) (ps : List (ℕ × ℕ)) → Rises (p ∷ ps) → p ≡ (0, 0) → IsScaling d 0 (p ∷ ps) (breaks_of d 0 (p ∷ ps))
empty_scaling d p ps rises begins =
    let empty = empty_time d p ps begins in
    let t = charge_time d (p ∷ ps) 0 in
    let are : breaks_of d 0 (p ∷ ps) ≡ (0, t) ∷ [] = rw (none_below 0 p ps rises (omega arith)) refl in
    let IsIt : List (ℕ × ℕ) → Type 0 = λ xs. IsScaling d 0 (p ∷ ps) xs in
    subst IsIt (sym are) (record {
      curve = record {
        begins = ap (λ x. (0, x)) empty;
        points = tt;
        slowing = tt;
        small_level = omega arith;
        small_times = All-cons IsSmallTime (0, t) [] (omega (arith, empty)) (All-nil IsSmallTime);
      };
      times = λ level le. let none : level ≡ 0 = omega (arith, le) in ap (λ x. charge_time d (p ∷ ps) x) (sym none);
      last = refl;
    })

scaling : (d full : ℕ) (points : List (ℕ × ℕ)) → IsCurve full points → full ≤ 10 ^ 9 → All IsSmallPoint points → d ≤ 10 ^ 9 → IsMultipleOfSlopes full points d → IsScaling d full points (breaks_of d full points)
scaling d full [] curve small times small_d multiple = absurd curve.begins
scaling d zero (p ∷ ps) curve small times small_d multiple = empty_scaling d p ps curve.rises curve.begins
scaling d (suc n) (p ∷ []) curve small times small_d multiple =
    let none : p.1 ≡ 0 = ap (λ (x : ℕ × ℕ). x.1) curve.begins in
    absurd (omega (arith, none, curve.reaches))
scaling d (suc n) (p ∷ q ∷ ps) curve small times small_d multiple =
    let full = suc n in
    let none : p.1 ≡ 0 = ap (λ (x : ℕ × ℕ). x.1) curve.begins in
    let less : p.1 < full = omega (arith, none) in
    let known : IsRest d full p (q ∷ ps) = record { below = less; rises = curve.rises; concave = curve.concave; reaches = curve.reaches; multiple = multiple; small = times } in
    subst (λ (xs : List (ℕ × ℕ)). IsScaling d full (p ∷ q ∷ ps) xs) (sym (breaks_are_cut d full p (q ∷ ps) curve.rises less curve.reaches))
    (scaling_of d full p q ps small curve.begins (fine d full p q ps small_d known))

pub is_scaling : (c : CutCurve) (d : ℕ) (breaks : List (ℕ × ℕ)) → IsAccepted c → d ≤ 10 ^ 9 → IsMultipleOfSlopes c.full c.points d → breaks ≡ breaks_of d c.full c.points → IsScaling d c.full c.points breaks
is_scaling c d breaks accepted small_d multiple are =
    subst (λ (xs : List (ℕ × ℕ)). IsScaling d c.full c.points xs) (sym are)
    (scaling d c.full c.points accepted.curve accepted.small.full accepted.small.times small_d multiple)
