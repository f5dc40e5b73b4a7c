-- The times of the rounded plans add up to the plan's time, but for times of plugging in where a rounded stop charges nothing.
use Rattle.std.proofs.Common.{◌≡◌, ◌∙◌, ℕ, zero, suc, ◌+◌, ◌-◌, ◌*◌, ◌<◌, ◌≤◌, arith, refl, sym, ap, List, [], ◌∷◌, Option, Some, None, get_or, inl, inr}
use Rattle.std.specs.List.{All}
use Rattle.std.specs.Prelude.{nat_lt, if◌then◌else◌}
use Rattle.std.proofs.Math.Nat.{mul-le-mul_left}
use Rattle.std.proofs.lemmas.Bool.{cases_lt}
use Rattle.std.proofs.lemmas.Bool.Decides.{nat_tests}
use Rattle.std.proofs.lemmas.List.Elements.{All-head, All-tail}
use Rattle.ev_model.specs.Curve.{charge_time, charge_time_in}
use Rattle.ev_model.specs.Levels.{arriving_level, KeepsBatteryFrom, leaving_level}
use Rattle.ev_model.specs.Network.{curve_at, energy, HasFittingCurve, IsNetwork, Network, plug_time, process_time, travel_time}
use Rattle.ev_model.specs.Time.{charging_time, plugging_time, stop_time, time_from}
use Rattle.ev_model.specs.declared.Stop.{Stop}
use Rattle.ev_model.proofs.ChargeTime.{charge_time-rises, charge_time_in-one}
use Rattle.rounding_law.specs.Rounding.{PaysNoPlugTime, rounded_from, rounded_stop, whole_level}
use Rattle.rounding_law.specs.Sums.{sum_below}
use Rattle.rounding_law.proofs.Floors.{values_add_up, whole_level-rises, whole_level-shift}

pub sum_same : (f h : ℕ → ℕ) (n : ℕ) → ((j : ℕ) → j < n → f j ≡ h j) → sum_below f n ≡ sum_below h n
sum_same f h zero e = refl
sum_same f h (suc n) e = rw (sum_same f h n (λ j lt. e j (omega arith)), e n (omega arith)) refl

pub sum_zero : (n : ℕ) → sum_below (λ j. 0) n ≡ 0
sum_zero zero = refl
sum_zero (suc n) = omega (arith, sum_zero n)

sum_add : (f h : ℕ → ℕ) (n : ℕ) → sum_below (λ j. f j + h j) n ≡ sum_below f n + sum_below h n
sum_add f h zero = refl
sum_add f h (suc n) = omega (arith, sum_add f h n)

sum_const : (c n : ℕ) → sum_below (λ j. c) n ≡ n * c
sum_const c zero = omega arith
sum_const c (suc n) = omega (arith, sum_const c n)

pub sum_le : (f h : ℕ → ℕ) (n : ℕ) → ((j : ℕ) → j < n → h j ≤ f j) → sum_below h n ≤ sum_below f n
sum_le f h zero e = omega arith
sum_le f h (suc n) e = omega (arith, sum_le f h n (λ j lt. e j (omega arith)), e n (omega arith))

sum_sub : (f h : ℕ → ℕ) (n : ℕ) → ((j : ℕ) → j < n → h j ≤ f j) → sum_below (λ j. f j - h j) n ≡ sum_below f n - sum_below h n
sum_sub f h zero e = refl
sum_sub f h (suc n) e =
    let below = λ (j : ℕ) (lt : j < n). e j (omega arith) in
    omega (arith, sum_sub f h n below, sum_le f h n below, e n (omega arith))

-- charging to a higher level takes no less time
abbrev HasRisingTimes : ℕ → Option (List (ℕ × ℕ)) → Type 0
HasRisingTimes d None = Unit {0}
HasRisingTimes d (Some points) = (a b : ℕ) → a ≤ b → charge_time d points a ≤ charge_time d points b

fitting_rises : (capacity d : ℕ) (curve : Option (List (ℕ × ℕ))) → HasFittingCurve capacity d curve → HasRisingTimes d curve
fitting_rises capacity d None fits = tt
fitting_rises capacity d (Some points) fits = λ a b le. charge_time-rises d points a b fits.0.rises le

-- charging from the whole levels adds up to charging from the levels in kths
charging_adds_up : (d k x y : ℕ) (curve : Option (List (ℕ × ℕ))) → 0 < k → x ≤ y → HasRisingTimes d curve →
    sum_below (λ j. charging_time 1 d curve (whole_level k j x) (whole_level k j y)) k ≡ charging_time k d curve x y
unfolding charge_time_in
charging_adds_up d k x y None some le up = sum_zero k
charging_adds_up d k x y (Some points) some le up =
    let f = charge_time d points in
    let each : (j : ℕ) → j < k → charge_time_in 1 d points (whole_level k j y) - charge_time_in 1 d points (whole_level k j x) ≡ f (whole_level k j y) - f (whole_level k j x) =
    λ j lt. rw (charge_time_in-one d points (whole_level k j y), charge_time_in-one d points (whole_level k j x)) refl in
    sum_same _ _ k each
    ∙ sum_sub (λ j. f (whole_level k j y)) (λ j. f (whole_level k j x)) k (λ j lt. up _ _ (whole_level-rises k j x y some le))
    ∙ rw (values_add_up f k y some (up _ _ (omega arith)), values_add_up f k x some (up _ _ (omega arith))) refl

fitting_at : (capacity d node : ℕ) (curves : List (Option (List (ℕ × ℕ)))) → All (HasFittingCurve capacity d) curves → HasFittingCurve capacity d (get_or curves node None)
fitting_at capacity d node [] all = tt
fitting_at capacity d zero (c ∷ cs) all = All-head (HasFittingCurve capacity d) c cs all
fitting_at capacity d (suc node) (c ∷ cs) all = fitting_at capacity d node cs (All-tail (HasFittingCurve capacity d) c cs all)

rises_at : (g : Network) (node : ℕ) → IsNetwork g → HasRisingTimes g.denominator (curve_at g node)
rises_at g node network = fitting_rises g.capacity g.denominator (curve_at g node) (fitting_at g.capacity g.denominator node g.curves network.curves)

-- the level on arriving rounds to the level on arriving
pub arrives_rounded : (g : Network) (k j from level : ℕ) (s : Stop) → 0 < k → k * energy g from s.node ≤ level →
    whole_level k j level ≡ energy g from s.node + whole_level k j (arriving_level g k from level s)
arrives_rounded g k j from level s some enough =
    let back : level ≡ k * energy g from s.node + arriving_level g k from level s = omega (arith, enough) in
    ap (λ z. whole_level k j z) back ∙ whole_level-shift k j (energy g from s.node) (arriving_level g k from level s) some

pub arriving_is_rounded : (g : Network) (k j from level : ℕ) (s : Stop) → 0 < k → k * energy g from s.node ≤ level →
    arriving_level g 1 from (whole_level k j level) (rounded_stop g k j from level s) ≡ whole_level k j (arriving_level g k from level s)
arriving_is_rounded g k j from level s some enough = omega (arith, arrives_rounded g k j from level s some enough)

-- the level on leaving rounds to the level on leaving
pub leaving_is_rounded : (g : Network) (k j from level : ℕ) (s : Stop) → 0 < k → k * energy g from s.node ≤ level →
    leaving_level g 1 from (whole_level k j level) (rounded_stop g k j from level s) ≡ whole_level k j (leaving_level g k from level s)
leaving_is_rounded g k j from level s some enough =
    let arriving = arriving_is_rounded g k j from level s some enough in
    let more = whole_level-rises k j (arriving_level g k from level s) (leaving_level g k from level s) some (omega arith) in
    omega (arith, arriving, more)

-- a stop that charges nothing charges nothing in whole units
pub adds_some : (k j x a : ℕ) → 0 < whole_level k j (x + a) - whole_level k j x → 0 < a
adds_some k j x zero more =
    let same : x + 0 ≡ x = omega arith in
    let none : 0 < whole_level k j x - whole_level k j x = rw same at more in
    absurd (omega (arith, none))
adds_some k j x (suc a) more = omega arith

paid_only : (time a b : ℕ) → (0 < a → 0 < b) → (if nat_lt 0 a then time else 0) ≤ (if nat_lt 0 b then time else 0)
paid_only time zero b only = omega arith
paid_only time (suc a) zero only = let none = only (omega arith) in absurd (omega (arith, none))
paid_only time (suc a) (suc b) only = grind (arith, nat_tests)

-- a rounded stop plugs in only where the stop does
plugs_in_only : (g : Network) (k j from level : ℕ) (s : Stop) → plugging_time g (rounded_stop g k j from level s) ≤ plugging_time g s
plugs_in_only g k j from level s =
    paid_only (plug_time g s.node) (whole_level k j (leaving_level g k from level s) - whole_level k j (arriving_level g k from level s)) s.added
    (adds_some k j (arriving_level g k from level s) s.added)

-- the scaled time that a rounded stop saves: that of plugging in, where it charges nothing and the stop does
abbrev saved_time : Network → ℕ → ℕ → ℕ → ℕ → Stop → ℕ
saved_time g k j from level s = g.denominator * (plugging_time g s - plugging_time g (rounded_stop g k j from level s))

abbrev pub saved_from : Network → ℕ → ℕ → ℕ → ℕ → List Stop → ℕ
saved_from g k j from level [] = 0
saved_from g k j from level (s ∷ ss) = saved_time g k j from level s + saved_from g k j s.node (leaving_level g k from level s) ss

-- where no stop that charges has a plug time, nothing is saved
pub nothing_saved : (g : Network) (k j from level : ℕ) (stops : List Stop) → PaysNoPlugTime g stops → saved_from g k j from level stops ≡ 0
nothing_saved g k j from level [] none = refl
nothing_saved g k j from level (s ∷ ss) free_all =
    let free : plugging_time g s ≡ 0 = unpaid (plug_time g s.node) s.added (All-head (λ t. 0 < t.added → plug_time g t.node ≡ 0) s ss free_all) in
    let rest = nothing_saved g k j s.node (leaving_level g k from level s) ss (All-tail (λ t. 0 < t.added → plug_time g t.node ≡ 0) s ss free_all) in
    let none : 0 - plugging_time g (rounded_stop g k j from level s) ≡ 0 = omega arith in
    rw (free, rest, none) (omega arith)
  where
    unpaid : (time a : ℕ) → (0 < a → time ≡ 0) → (if nat_lt 0 a then time else 0) ≡ 0
    unpaid time zero free = refl
    unpaid time (suc a) free = let none = free (omega arith) in grind (arith, nat_tests, none)

split : (d a p q : ℕ) → p ≤ q → 1 * (d * (a + p)) + d * (q - p) ≡ d * (a + q)
split d a p q le =
    let parts : q ≡ p + (q - p) = omega arith in
    ap (λ x. 1 * x + d * (q - p)) refl ∙ omega arith ∙ ap (λ x. d * (a + x)) (sym parts)

-- the times of a stop add up
stop_times_add_up : (g : Network) (k from level : ℕ) (s : Stop) → 0 < k → IsNetwork g → k * energy g from s.node ≤ level →
    sum_below (λ j. stop_time g 1 from (whole_level k j level) (rounded_stop g k j from level s) + saved_time g k j from level s) k ≡ stop_time g k from level s
stop_times_add_up g k from level s some network enough =
    let way = travel_time g from s.node + process_time g s.node in
    let fixed = g.denominator * (way + plugging_time g s) in
    let before = arriving_level g k from level s in
    let after = leaving_level g k from level s in
    let charge = λ (j : ℕ). charging_time 1 g.denominator (curve_at g s.node) (whole_level k j before) (whole_level k j after) in
    let each : (j : ℕ) → j < k → stop_time g 1 from (whole_level k j level) (rounded_stop g k j from level s) + saved_time g k j from level s ≡ fixed + charge j = λ j lt.
    let parts = split g.denominator way (plugging_time g (rounded_stop g k j from level s)) (plugging_time g s) (plugs_in_only g k j from level s) in
    rw (leaving_is_rounded g k j from level s some enough, arriving_is_rounded g k j from level s some enough) (omega (arith, parts)) in
    let charged = charging_adds_up g.denominator k before after (curve_at g s.node) some (omega arith) (rises_at g s.node network) in
    sum_same _ _ k each ∙ sum_add (λ j. fixed) charge k ∙ rw (sum_const fixed k, charged) refl

-- the times of the stops add up
pub times_add_up : (g : Network) (k from level : ℕ) (stops : List Stop) → 0 < k → IsNetwork g → KeepsBatteryFrom g k from level stops →
    sum_below (λ j. time_from g 1 from (whole_level k j level) (rounded_from g k j from level stops) + saved_from g k j from level stops) k ≡ time_from g k from level stops
times_add_up g k from level [] some network kept = sum_zero k
times_add_up g k from level (s ∷ ss) some network kept =
    let enough : k * energy g from s.node ≤ level = omega (arith, kept.0) in
    let after = leaving_level g k from level s in
    let now = λ (j : ℕ). stop_time g 1 from (whole_level k j level) (rounded_stop g k j from level s) + saved_time g k j from level s in
    let rest = λ (j : ℕ). time_from g 1 s.node (whole_level k j after) (rounded_from g k j s.node after ss) + saved_from g k j s.node after ss in
    let each : (j : ℕ) → j < k → time_from g 1 from (whole_level k j level) (rounded_from g k j from level (s ∷ ss)) + saved_from g k j from level (s ∷ ss) ≡ now j + rest j =
    λ j lt. regroup (stop_time g 1 from (whole_level k j level) (rounded_stop g k j from level s)) (saved_time g k j from level s)
    (saved_from g k j s.node after ss) (time_from g 1 s.node (leaving_level g 1 from (whole_level k j level) (rounded_stop g k j from level s)) (rounded_from g k j s.node after ss))
    (time_from g 1 s.node (whole_level k j after) (rounded_from g k j s.node after ss))
    (ap (λ l. time_from g 1 s.node l (rounded_from g k j s.node after ss)) (leaving_is_rounded g k j from level s some enough)) in
    sum_same _ _ k each ∙ sum_add now rest k
    ∙ rw (stop_times_add_up g k from level s some network enough, times_add_up g k s.node after ss some network kept.2) refl
  where
    regroup : (a b c later same : ℕ) → later ≡ same → a + later + (b + c) ≡ a + b + (same + c)
    regroup a b c later same e = omega (arith, e)

-- one of n numbers is at most their average
pub below_average : (f : ℕ → ℕ) (n : ℕ) → (j : ℕ) × (j < suc n) × (suc n * f j ≤ sum_below f (suc n))
below_average f zero = (0, omega arith, omega arith)
below_average f (suc n) =
    let found = below_average f n in
    let before = found.2 in
    elim (cases_lt (f (suc n)) (f found.0)) [
      | inl less ↦
          let all : suc n * f (suc n) ≤ suc n * f found.0 = mul-le-mul_left (suc n) (omega arith) in
          (suc n, omega arith, omega arith)
      | inr more ↦ (found.0, omega arith, omega arith)
    ]
