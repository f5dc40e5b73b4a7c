-- The time of a stop, and of a charge.
use Rattle.std.proofs.Common.{◌≡◌, ◌∙◌, ℕ, zero, suc, ◌+◌, ◌-◌, ◌*◌, ◌≤◌, List, refl, sym, ap, subst, arith, Option, Some, None, inl, inr}
use Rattle.std.specs.Prelude.{nat_lt, if◌then◌else◌, slice_get}
use Rattle.std.proofs.lemmas.Bool.{cases_lt, le-ltb, lt-ltb}
use Rattle.ev_model.specs.Network.{Network, curve_at, energy, plug_time, process_time, travel_time}
use Rattle.ev_model.specs.Time.{charging_time, stop_time}
use Rattle.ev_model.specs.declared.Stop.{Stop}
use Rattle.label_steps.specs.Arrivals.{drive_time, IsWithin}
use Rattle.label_steps.specs.Leaves.{AreLeft, charge_time_at}

-- nothing is charged in no time
pub nothing_charged : (d : ℕ) (o : Option (List (ℕ × ℕ))) (level : ℕ) → charging_time 1 d o level (level + 0) ≡ 0
nothing_charged d None level = refl
nothing_charged d (Some points) level = let same : level + 0 ≡ level = omega arith in rw same (omega arith)

-- passing through takes no time to charge
pub passing_time : (g : Network) (node level : ℕ) → charge_time_at g node level 0 ≡ 0
passing_time g node level = let none = nothing_charged g.denominator (curve_at g node) level in omega (arith, none)

-- the time of a stop is that of the arc and that of the charge
pub stop_parts : (g : Network) (from level : ℕ) (s : Stop) → stop_time g 1 from level s ≡ drive_time g from s.node + charge_time_at g s.node (level - energy g from s.node) s.added
stop_parts g from level s =
    let plug = if nat_lt 0 s.added then plug_time g s.node else 0 in
    let split : g.denominator * (travel_time g from s.node + process_time g s.node + plug) ≡ g.denominator * (travel_time g from s.node + process_time g s.node) + g.denominator * plug = omega arith in
    let one : 1 * energy g from s.node ≡ energy g from s.node = omega arith in
    let charge : charging_time 1 g.denominator (curve_at g s.node) (level - 1 * energy g from s.node) (level - 1 * energy g from s.node + s.added) ≡ charging_time 1 g.denominator (curve_at g s.node) (level - energy g from s.node) (level - energy g from s.node + s.added) =
    ap (λ e. charging_time 1 g.denominator (curve_at g s.node) (level - e) (level - e + s.added)) one in
    omega (arith, split, charge)

-- something is charged exactly where the level rises
rises_by : (low high : ℕ) → nat_lt 0 (high - low) ≡ nat_lt low high
rises_by low high = elim (cases_lt low high) [
  | inl less ↦ lt-ltb 0 (high - low) (omega (arith, less)) ∙ sym (lt-ltb low high less)
  | inr over ↦ le-ltb 0 (high - low) (omega (arith, over)) ∙ sym (le-ltb low high over)
]

-- the time of a charge by the level that it ends with
pub charge_between : (g : Network) (node low high : ℕ) → low ≤ high → charge_time_at g node low (high - low) ≡ g.denominator * (if nat_lt low high then plug_time g node else 0) + charging_time 1 g.denominator (curve_at g node) low high
charge_between g node low high up =
    let ends : low + (high - low) ≡ high = omega (arith, up) in
    let flag = rises_by low high in
    let plug : g.denominator * (if nat_lt 0 (high - low) then plug_time g node else 0) ≡ g.denominator * (if nat_lt low high then plug_time g node else 0) = ap (λ b. g.denominator * (if b then plug_time g node else 0)) flag in
    let charge : charging_time 1 g.denominator (curve_at g node) low (low + (high - low)) ≡ charging_time 1 g.denominator (curve_at g node) low high = ap (λ k. charging_time 1 g.denominator (curve_at g node) low k) ends in
    omega (arith, plug, charge)

-- no level on leaving is above full, and no time past the limit
pub left_within : (g : Network) (node : ℕ) (arrived : List (ℕ × ℕ)) (values : List (List (ℕ × ℕ))) → AreLeft g node arrived values → IsWithin g arrived → (k : ℕ) (w : List (ℕ × ℕ)) → slice_get values k ≡ Some w → IsWithin g w
left_within g node arrived values left within zero w here = subst (IsWithin g) (sym (left.passing w here)) within
left_within g node arrived values left within (suc k) w here =
    let plugged = left.plugged (suc k) w here (omega arith) in
    record { levels = λ level is. (plugged.from level is).2; times = λ level is. plugged.in_time level is }
