-- The scaled time of a plan, in kths: k times the denominator times the time.
use Rattle.std.specs.Prelude.{ℕ, ◌+◌, ◌-◌, ◌*◌, List, [], ◌∷◌, Option, Some, None, nat_lt, if◌then◌else◌}
use Rattle.ev_model.specs.Network.{Network, travel_time, process_time, plug_time, curve_at}
use Rattle.ev_model.specs.Curve.{charge_time_in}
use Rattle.ev_model.specs.Levels.{arriving_level, leaving_level}
use Rattle.ev_model.specs.declared.Stop.{Stop}

-- the time of charging from one level to another on a node's curve, both levels in kths
abbrev pub charging_time : ℕ → ℕ → Option (List (ℕ × ℕ)) → ℕ → ℕ → ℕ
charging_time k d None before after = 0
charging_time k d (Some points) before after =
    charge_time_in k d points after - charge_time_in k d points before

-- the time of plugging in at a stop, in units of time: paid where something is charged, not where a vehicle passes through
abbrev pub plugging_time : Network → Stop → ℕ
plugging_time g s = if nat_lt 0 s.added then plug_time g s.node else 0

-- the time of an arc and of the visit at its end, plugging in and charging included
abbrev pub stop_time : Network → ℕ → ℕ → ℕ → Stop → ℕ
stop_time g k from level s =
    k * (g.denominator * (travel_time g from s.node + process_time g s.node + plugging_time g s))
    + charging_time k g.denominator (curve_at g s.node)
    (arriving_level g k from level s) (leaving_level g k from level s)

-- the time of the stops that follow the node `from`, which is left with `level`
abbrev pub time_from : Network → ℕ → ℕ → ℕ → List Stop → ℕ
time_from g k from level [] = 0
time_from g k from level (s ∷ ss) =
    stop_time g k from level s + time_from g k s.node (leaving_level g k from level s) ss

-- the time of a plan that begins with a whole level; the process time of the first stop does not count
abbrev pub time_of : Network → ℕ → ℕ → List Stop → ℕ
time_of g k start [] = 0
time_of g k start (first ∷ stops) = time_from g k first.node (k * start) stops
