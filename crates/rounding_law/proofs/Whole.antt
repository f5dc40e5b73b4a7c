-- For each plan in kths, one of the whole plans that it rounds to is no slower.
use Rattle.std.proofs.Common.{◌≡◌, ◌∙◌, ℕ, zero, suc, ◌+◌, ◌*◌, ◌<◌, ◌≤◌, arith, sym, ap, List, [], ◌∷◌, inl, inr}
use Rattle.std.proofs.Math.Nat.{mul-le-mul_left}
use Rattle.std.proofs.lemmas.Bool.{cases_lt}
use Rattle.std.proofs.lemmas.List.Elements.{All-tail}
use Rattle.ev_model.specs.Fastest.{HasNoPlan, IsFastest}
use Rattle.ev_model.specs.Feasible.{IsFeasible}
use Rattle.ev_model.specs.Levels.{KeepsBattery}
use Rattle.ev_model.specs.Network.{IsNetwork, Network, plug_time, scaled_limit}
use Rattle.ev_model.specs.Route.{FollowsRoute}
use Rattle.ev_model.specs.Time.{time_from, time_of}
use Rattle.ev_model.specs.declared.Stop.{Stop}
use Rattle.rounding_law.specs.Rounding.{PaysNoPlugTime, rounded_from, rounded_plan, whole_level}
use Rattle.rounding_law.specs.Sums.{sum_below}
use Rattle.rounding_law.proofs.Shape.{rounded_is_plan, rounded_keeps_battery, same_plan_route, start_stays}
use Rattle.rounding_law.proofs.Times.{below_average, nothing_saved, saved_from, sum_le, sum_same, sum_zero, times_add_up}

-- what the rounded plans save
abbrev saved_of : Network → ℕ → ℕ → ℕ → List Stop → ℕ
saved_of g k j start [] = 0
saved_of g k j start (first ∷ stops) = saved_from g k j first.node (k * start) stops

-- the times of the rounded plans and what they save add up to the plan's time
plan_times_add_up : (g : Network) (k start : ℕ) (stops : List Stop) → 0 < k → IsNetwork g → KeepsBattery g k start stops →
    sum_below (λ j. time_of g 1 start (rounded_plan g k j start stops) + saved_of g k j start stops) k ≡ time_of g k start stops
plan_times_add_up g k start [] some network kept = sum_zero k
plan_times_add_up g k start (first ∷ stops) some network kept =
    let rest = λ (j : ℕ). rounded_from g k j first.node (k * start) stops in
    let saved = λ (j : ℕ). saved_from g k j first.node (k * start) stops in
    let each : (j : ℕ) → j < k → time_of g 1 start (rounded_plan g k j start (first ∷ stops)) + saved j ≡ time_from g 1 first.node (whole_level k j (k * start)) (rest j) + saved j =
    λ j lt. ap (λ l. time_from g 1 first.node l (rest j) + saved j) (sym (start_stays k j start some lt)) in
    sum_same _ _ k each ∙ times_add_up g k first.node (k * start) stops some network kept.0

-- the times of the rounded plans add up to at most the plan's time
pub plan_times_at_most : (g : Network) (k start : ℕ) (stops : List Stop) → 0 < k → IsNetwork g → KeepsBattery g k start stops →
    sum_below (λ j. time_of g 1 start (rounded_plan g k j start stops)) k ≤ time_of g k start stops
plan_times_at_most g k start stops some network kept =
    let all = plan_times_add_up g k start stops some network kept in
    let fewer = sum_le (λ j. time_of g 1 start (rounded_plan g k j start stops) + saved_of g k j start stops) (λ j. time_of g 1 start (rounded_plan g k j start stops)) k
    (λ j lt. omega arith) in
    omega (arith, all, fewer)

-- and to the plan's time, where no plug time is paid
pub plan_times_exact : (g : Network) (k start : ℕ) (stops : List Stop) → 0 < k → IsNetwork g → KeepsBattery g k start stops → PaysNoPlugTime g stops →
    sum_below (λ j. time_of g 1 start (rounded_plan g k j start stops)) k ≡ time_of g k start stops
plan_times_exact g k start [] some network kept free = sum_zero k
plan_times_exact g k start (first ∷ stops) some network kept free =
    let later = All-tail (λ s. 0 < s.added → plug_time g s.node ≡ 0) first stops free in
    let each : (j : ℕ) → j < k → time_of g 1 start (rounded_plan g k j start (first ∷ stops))
    ≡ time_of g 1 start (rounded_plan g k j start (first ∷ stops)) + saved_of g k j start (first ∷ stops) =
    λ j lt. let none = nothing_saved g k j first.node (k * start) stops later in omega (arith, none) in
    sum_same _ _ k each ∙ plan_times_add_up g k start (first ∷ stops) some network kept

-- one of the rounded plans is no slower
one_no_slower : (g : Network) (k start : ℕ) (stops : List Stop) → 0 < k → IsNetwork g → KeepsBattery g k start stops →
    (j : ℕ) × (j < k) × (k * time_of g 1 start (rounded_plan g k j start stops) ≤ time_of g k start stops)
one_no_slower g zero start stops some network kept = absurd (omega (arith, some))
one_no_slower g (suc n) start stops some network kept =
    let found = below_average (λ j. time_of g 1 start (rounded_plan g (suc n) j start stops)) n in
    let all = plan_times_at_most g (suc n) start stops some network kept in
    (found.0, found.1, omega (arith, found.2, all))

pub some_kths : (g : Network) (k start : ℕ) (stops : List Stop) → IsFeasible g k start stops → 0 < k
some_kths g k start [] feasible = absurd feasible.plan
some_kths g k start (first ∷ stops) feasible = omega (arith, feasible.plan.0)

divided : (k t u : ℕ) → 0 < k → k * t ≤ k * u → t ≤ u
divided k t u some le = elim (cases_lt u t) [
  | inl more ↦
      let scaled : k * (u + 1) ≤ k * t = mul-le-mul_left k (omega (arith, more)) in
      absurd (omega (arith, scaled, le, some))
  | inr fine ↦ fine
]

-- a rounded plan that is no slower keeps the limit
pub rounded_is_feasible : (g : Network) (k j start : ℕ) (stops : List Stop) → j < k → IsFeasible g k start stops →
    k * time_of g 1 start (rounded_plan g k j start stops) ≤ time_of g k start stops → IsFeasible g 1 start (rounded_plan g k j start stops)
rounded_is_feasible g k j start stops lt feasible no_slower =
    let some = some_kths g k start stops feasible in
    let within = divided k (time_of g 1 start (rounded_plan g k j start stops)) (scaled_limit g) some (omega (arith, no_slower, feasible.in_time)) in
    record {
      plan = rounded_is_plan g k j start stops feasible.plan;
      battery = rounded_keeps_battery g k j start stops some lt feasible.battery;
      in_time = omega (arith, within);
    }

-- an offset whose rounded plan is feasible and no slower
pub some_offset : (g : Network) (k start : ℕ) (stops : List Stop) → IsNetwork g → IsFeasible g k start stops →
    (j : ℕ) × (j < k) × IsFeasible g 1 start (rounded_plan g k j start stops) × (k * time_of g 1 start (rounded_plan g k j start stops) ≤ time_of g k start stops)
some_offset g k start stops network feasible =
    let found = one_no_slower g k start stops (some_kths g k start stops feasible) network feasible.battery in
    (found.0, found.1, rounded_is_feasible g k found.0 start stops found.1 feasible found.2, found.2)

-- each plan in kths of a route has a whole plan of it that is no slower
pub no_fraction_is_faster : (g : Network) (route : List ℕ) (k start : ℕ) (stops : List Stop) → IsNetwork g → IsFeasible g k start stops → FollowsRoute route stops →
    (whole : List Stop) × IsFeasible g 1 start whole × FollowsRoute route whole × (k * time_of g 1 start whole ≤ time_of g k start stops)
no_fraction_is_faster g route k start stops network feasible follows =
    let found = some_offset g k start stops network feasible in
    (rounded_plan g k found.0 start stops, found.2, same_plan_route g k found.0 start stops ∙ follows, found.3)

-- a whole plan of a route that no whole plan of it beats is a fastest plan
pub fastest_whole_is_fastest : (g : Network) (route : List ℕ) (start : ℕ) (stops : List Stop) → IsNetwork g → IsFeasible g 1 start stops → FollowsRoute route stops →
    ((others : List Stop) → IsFeasible g 1 start others → FollowsRoute route others → time_of g 1 start stops ≤ time_of g 1 start others) → IsFastest g route start stops
fastest_whole_is_fastest g route start stops network feasible follows least = record {
  feasible = feasible;
  follows = follows;
  fastest = λ k others feasible_others follows_others.
      let whole = no_fraction_is_faster g route k start others network feasible_others follows_others in
      let scaled : k * time_of g 1 start stops ≤ k * time_of g 1 start whole.0 = mul-le-mul_left k (least whole.0 whole.1 whole.2) in
      omega (arith, scaled, whole.3);
}

-- where no whole plan of a route is feasible, none is in any fraction
pub no_whole_plan_no_plan : (g : Network) (route : List ℕ) (start : ℕ) → IsNetwork g →
    ((stops : List Stop) → IsFeasible g 1 start stops → FollowsRoute route stops → ⊥) → HasNoPlan g route start
no_whole_plan_no_plan g route start network none k stops feasible follows =
    let whole = no_fraction_is_faster g route k start stops network feasible follows in
    none whole.0 whole.1 whole.2
