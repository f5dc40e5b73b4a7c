-- A feasible plan is walked to its end, and the walk tells its time and last level.
use Rattle.std.proofs.Common.{◌≡◌, ◌≢◌, ◌∙◌, ℕ, ◌+◌, ◌-◌, ◌*◌, ◌≤◌, Bool, true, false, ◌||◌, List, [], ◌∷◌, Option, None, Some, Ok, is_some, max, nat_lt, refl, sym, ap, subst, arith, inl, inr}
use Rattle.std.proofs.Math.Nat.{max-le}
use Rattle.std.proofs.lemmas.Bool.{cases_Bool, cases_lt, le-ltb, lt-ltb, ne_eqb}
use Rattle.ev_model.specs.Feasible.{IsFeasible}
use Rattle.ev_model.specs.Levels.{KeepsBatteryFrom, arriving_level, leaving_level, level_after}
use Rattle.ev_model.specs.Network.{Network, curve_at, energy, node_count, scaled_limit}
use Rattle.ev_model.specs.Plan.{AreStopsFrom, EndsAtDepot, IsEnd, IsStop}
use Rattle.ev_model.specs.Time.{charging_time, stop_time, time_from, time_of}
use Rattle.ev_model.specs.declared.Stop.{Stop}
use Rattle.route_plan.specs.declared.walks.Walk.{Walk}
use Rattle.ev_model.proofs.ChargeTime.{charge_time_in-one}
use Rattle.route_plan.specs.Walking.{charge_between, driving_time, end_level, has_station, is_end, is_last, least_level, step_at, time_after, walk_along, walk_behind}
use Rattle.route_plan.specs.FirstPlaces.{ends_pass, last_passes}

-- charging in whole units
charging_in_ones : (d : ℕ) (curve : Option (List (ℕ × ℕ))) (before after : ℕ) → charging_time 1 d curve before after ≡ charge_between d curve before after
charging_in_ones d None before after = refl
charging_in_ones d (Some points) before after = rw (charge_time_in-one d points after, charge_time_in-one d points before) refl

arriving_in_ones : (g : Network) (from level : ℕ) (s : Stop) → arriving_level g 1 from level s ≡ level - energy g from s.node
arriving_in_ones g from level s = let once : 1 * energy g from s.node ≡ energy g from s.node = omega arith in ap (λ e. level - e) once

pub leaving_in_ones : (g : Network) (from level : ℕ) (s : Stop) → leaving_level g 1 from level s ≡ level - energy g from s.node + s.added
leaving_in_ones g from level s = ap (λ l. l + s.added) (arriving_in_ones g from level s)

-- the time of a stop is what the walk adds
pub time_after-stop : (g : Network) (from level time : ℕ) (s : Stop) → time_after g from level time s ≡ time + stop_time g 1 from level s
time_after-stop g from level time s =
    let drive = driving_time g from s in
    let once : 1 * drive ≡ drive = omega arith in
    let charge : charging_time 1 g.denominator (curve_at g s.node) (arriving_level g 1 from level s) (leaving_level g 1 from level s)
    ≡ charge_between g.denominator (curve_at g s.node) (level - energy g from s.node) (level - energy g from s.node + s.added) =
    charging_in_ones g.denominator (curve_at g s.node) (arriving_level g 1 from level s) (leaving_level g 1 from level s)
    ∙ ap (λ l. charge_between g.denominator (curve_at g s.node) l (leaving_level g 1 from level s)) (arriving_in_ones g from level s)
    ∙ ap (λ l. charge_between g.denominator (curve_at g s.node) (level - energy g from s.node) l) (leaving_in_ones g from level s) in
    let spent = charge_between g.denominator (curve_at g s.node) (level - energy g from s.node) (level - energy g from s.node + s.added) in
    let sum : time + drive + spent ≡ time + (drive + spent) = omega arith in
    sum ∙ sym (ap (λ x. time + (x + charging_time 1 g.denominator (curve_at g s.node) (arriving_level g 1 from level s) (leaving_level g 1 from level s))) once ∙ ap (λ x. time + (drive + x)) charge)

or_true : (b : Bool) → (b || true) ≡ true
or_true true = refl
or_true false = refl

-- a stop of a plan is at a station where it has to be
station_of : (g : Network) (s : Stop) → IsStop g s → has_station g s ≡ true
station_of g s stop = elim (cases_Bool s.via) [
  | inl via ↦ let some : is_some (curve_at g s.node) ≡ true = stop.station (inl via) in rw some refl
  | inr own ↦ elim (cases_lt 0 s.added) [
    | inl more ↦ let some : is_some (curve_at g s.node) ≡ true = stop.station (inr more) in rw some refl
    | inr none ↦
        let nothing : nat_lt 0 s.added ≡ false = le-ltb 0 s.added (omega (arith, none)) in
        rw (own, nothing) (or_true (is_some (curve_at g s.node)))
  ]
]

-- a stop that breaks no rule
stepped_well : (g : Network) (last : Bool) (from level time at : ℕ) (s : Stop) → s.node ≢ from → IsStop g s → energy g from s.node + least_level g last ≤ level → level - energy g from s.node + s.added ≤ g.capacity → time_after g from level time s ≤ scaled_limit g →
    step_at g last from level time at s ≡ Ok (record { time = time_after g from level time s; last = level - energy g from s.node + s.added })
stepped_well g last from level time at s moves stop reaches full in_time =
    rw (
      lt-ltb s.node (node_count g) stop.known,
      ne_eqb s.node from moves,
      le-ltb level (energy g from s.node + least_level g last) reaches,
      station_of g s stop,
      le-ltb g.capacity (level - energy g from s.node + s.added) full,
      le-ltb (scaled_limit g) (time_after g from level time s) in_time,
    ) refl

-- the last stop charges nothing
abbrev EndsUncharged : List Stop → Type 0
EndsUncharged [] = Unit {0}
EndsUncharged (s ∷ []) = s.added ≡ 0
EndsUncharged (s ∷ t ∷ ss) = EndsUncharged (t ∷ ss)

later_ends : (s : Stop) (ss : List Stop) → EndsUncharged (s ∷ ss) → EndsUncharged ss
later_ends s [] ends = tt
later_ends s (t ∷ ss) ends = ends

-- a stop is reached with the least level: the last one with the level at home too, since it leaves with what it arrived with
reaches_well : (g : Network) (from level : ℕ) (s : Stop) (ss : List Stop) → EndsUncharged (s ∷ ss) → 1 * energy g from s.node + 1 * g.reserve ≤ level → g.home_level ≤ level_after g 1 from level (s ∷ ss) →
    energy g from s.node + least_level g (is_last ss) ≤ level
reaches_well g from level s [] uncharged kept home =
    let arrives : level_after g 1 from level (s ∷ []) ≡ level - energy g from s.node + s.added = leaving_in_ones g from level s in
    let once : 1 * energy g from s.node ≡ energy g from s.node = omega arith in
    let reserve : 1 * g.reserve ≡ g.reserve = omega arith in
    let most : max g.reserve g.home_level ≤ level - energy g from s.node = max-le (omega (arith, once, reserve, kept)) (omega (arith, arrives, home, uncharged)) in
    omega (arith, most, once, kept)
reaches_well g from level s (t ∷ ss) uncharged kept home =
    let once : 1 * energy g from s.node ≡ energy g from s.node = omega arith in
    let reserve : 1 * g.reserve ≡ g.reserve = omega arith in
    omega (arith, once, reserve, kept)

-- the stops of a plan that keeps the battery and the limit
walked_well : (g : Network) (from level time at : ℕ) (ss : List Stop) → AreStopsFrom g from ss → EndsUncharged ss → KeepsBatteryFrom g 1 from level ss → (ss ≢ [] → g.home_level ≤ level_after g 1 from level ss)
    → time + time_from g 1 from level ss ≤ scaled_limit g → walk_behind g from level time at ss ≡ Ok (record { time = time + time_from g 1 from level ss; last = level_after g 1 from level ss })
walked_well g from level time at [] stops uncharged kept home in_time = let same : time + 0 ≡ time = omega arith in ap (λ t. Ok (record { time = t; last = level })) (sym same)
walked_well g from level time at (s ∷ ss) stops uncharged kept home in_time =
    let next = leaving_level g 1 from level s in
    let left_at = time + stop_time g 1 from level s in
    let leaves = leaving_in_ones g from level s in
    let spends = time_after-stop g from level time s in
    let whole : 1 * g.capacity ≡ g.capacity = omega arith in
    let arrives_home = home (λ none. absurd (cc)) in
    let later : left_at + time_from g 1 s.node next ss ≡ time + time_from g 1 from level (s ∷ ss) = omega arith in
    let here = stepped_well g (is_last ss) from level time at s stops.0 stops.1 (reaches_well g from level s ss uncharged kept.0 arrives_home) (omega (arith, leaves, whole, kept.1)) (omega (arith, spends, later, in_time)) in
    let rest = walked_well g s.node next left_at (at + 1) ss stops.2 (later_ends s ss uncharged) kept.2 (λ some. arrives_home) (omega (arith, later, in_time)) in
    let reached : Walk = record { time = time_after g from level time s; last = level - energy g from s.node + s.added } in
    let same : reached ≡ record { time = left_at; last = next } = ap (λ t. record { time = t; last = level - energy g from s.node + s.added }) spends ∙ ap (λ l. record { time = left_at; last = l }) (sym leaves) in
    rw here (subst (λ (w : Walk). walk_behind g s.node w.last w.time (at + 1) ss ≡ Ok (record { time = time + time_from g 1 from level (s ∷ ss); last = level_after g 1 from level (s ∷ ss) })) (sym same)
    (rest ∙ ap (λ t. Ok (record { time = t; last = level_after g 1 from level (s ∷ ss) })) later))

uncharged_end : (stops : List Stop) → EndsAtDepot stops → EndsUncharged stops
uncharged_end [] ends = absurd ends
uncharged_end (s ∷ []) ends = ap (λ (v : Stop). v.added) ends
uncharged_end (s ∷ t ∷ ss) ends = uncharged_end (t ∷ ss) ends

end_of : (s : Stop) → IsEnd s → is_end s ≡ true
end_of s is = rw is refl

ends_of : (stops : List Stop) → EndsAtDepot stops → last_passes is_end stops ≡ true
ends_of [] ends = absurd ends
ends_of (s ∷ []) ends = end_of s ends
ends_of (s ∷ t ∷ ss) ends = ends_of (t ∷ ss) ends

-- a feasible plan is walked to its end
pub feasible_is_walked : (g : Network) (start : ℕ) (stops : List Stop) → IsFeasible g 1 start stops →
    walk_along g start stops ≡ Ok (record { time = time_of g 1 start stops; last = end_level g start stops })
feasible_is_walked g start [] feasible = absurd feasible.plan
feasible_is_walked g start (first ∷ stops) feasible =
    let plan = feasible.plan in
    let once : 1 * start ≡ start = omega arith in
    let whole : 1 * scaled_limit g ≡ scaled_limit g = omega arith in
    let kept : KeepsBatteryFrom g 1 first.node start stops = subst (λ l. KeepsBatteryFrom g 1 first.node l stops) once feasible.battery.0 in
    let home : 1 * g.home_level ≤ level_after g 1 first.node start stops = subst (λ l. 1 * g.home_level ≤ level_after g 1 first.node l stops) once feasible.battery.1 in
    let home_once : 1 * g.home_level ≡ g.home_level = omega arith in
    let time_is : time_of g 1 start (first ∷ stops) ≡ 0 + time_from g 1 first.node start stops = ap (λ l. time_from g 1 first.node l stops) once ∙ omega arith in
    let both : ends_pass is_end (first ∷ stops) ≡ true = rw (end_of first plan.1, ends_of stops plan.2) refl in
    let walk = walked_well g first.node start 0 1 stops plan.3 (uncharged_end stops plan.2) kept (λ some. omega (arith, home, home_once)) (omega (arith, time_is, whole, feasible.in_time)) in
    rw both (walk ∙ ap (λ t. Ok (record { time = t; last = level_after g 1 first.node start stops })) (sym time_is))
