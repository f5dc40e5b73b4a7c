-- A walk along the stops of a whole plan: its time and last level, or the first rule that it breaks.
use Rattle.std.specs.Prelude.{ℕ, ◌+◌, ◌-◌, ◌*◌, Bool, false, ◌&&◌, ◌||◌, not, List, [], ◌∷◌, Option, None, Some, Result, Ok, Err, is_some, max, true, nat_eq, nat_lt, if◌then◌else◌}
use Rattle.ev_model.specs.Curve.{charge_time}
use Rattle.ev_model.specs.Levels.{level_after}
use Rattle.ev_model.specs.Network.{Network, curve_at, energy, node_count, process_time, scaled_limit, travel_time}
use Rattle.ev_model.specs.Time.{plugging_time}
use Rattle.ev_model.specs.declared.Stop.{Stop}
use Rattle.ev_text.specs.Scans.{and_then}
use Rattle.route_plan.specs.FirstPlaces.{ends_pass}
use Rattle.route_plan.specs.declared.walks.Walk.{Walk}
use Rattle.route_plan.specs.declared.walks.WalkFault.{WalkFault}
use Rattle.route_plan.specs.declared.walks.WalkFault.TheVariants.{Ends, Unknown, Again, Empty, NotStation, Full, Late}

-- a stop at the depot that was not inserted and charges nothing
abbrev pub is_end : Stop → Bool
is_end s = nat_eq s.node 0 && not s.via && nat_eq s.added 0

-- the scaled time of charging between two whole levels
abbrev pub charge_between : ℕ → Option (List (ℕ × ℕ)) → ℕ → ℕ → ℕ
charge_between d None before after = 0
charge_between d (Some points) before after =
    charge_time d points after - charge_time d points before

-- the scaled time of an arc and of the visit at its end, without charging
abbrev pub driving_time : Network → ℕ → Stop → ℕ
driving_time g from s =
    g.denominator * (travel_time g from s.node + process_time g s.node + plugging_time g s)

-- the scaled time on leaving a stop
abbrev pub time_after : Network → ℕ → ℕ → ℕ → Stop → ℕ
time_after g from level time s =
    time + driving_time g from s
    + charge_between g.denominator (curve_at g s.node)
    (level - energy g from s.node) (level - energy g from s.node + s.added)

-- a stop is at a station where it was inserted or charges
abbrev pub has_station : Network → Stop → Bool
has_station g s = is_some (curve_at g s.node) || not (s.via || nat_lt 0 s.added)

-- the least level on arriving at a stop: the reserve, and at the end of the route the level at home too
abbrev pub least_level : Network → Bool → ℕ
least_level g true = max g.reserve g.home_level
least_level g false = g.reserve

-- no stop follows
abbrev pub is_last : List Stop → Bool
is_last [] = true
is_last (s ∷ ss) = false

-- the level and the time on leaving a stop, which is the last one or not, or the first rule that the stop breaks
abbrev pub step_at : Network → Bool → ℕ → ℕ → ℕ → ℕ → Stop → Result Walk WalkFault
step_at g last from level time at s =
    if not (nat_lt s.node (node_count g)) then Err (Unknown at)
    else if nat_eq s.node from then Err (Again at)
    else if nat_lt level (energy g from s.node + least_level g last) then Err (Empty at)
    else if not (has_station g s) then Err (NotStation at)
    else if nat_lt g.capacity (level - energy g from s.node + s.added) then Err (Full at)
    else if nat_lt (scaled_limit g) (time_after g from level time s) then Err (Late at)
    else Ok (record {
      time = time_after g from level time s;
      last = level - energy g from s.node + s.added;
    })

-- the stops from here on: `from` is the node before them, left with this level at this time, and `at` is the position of the
-- next stop
abbrev pub walk_behind : Network → ℕ → ℕ → ℕ → ℕ → List Stop → Result Walk WalkFault
walk_behind g from level time at [] = Ok (record { time = time; last = level })
walk_behind g from level time at (s ∷ ss) =
    and_then (step_at g (is_last ss) from level time at s) (λ next.
    walk_behind g s.node next.last next.time (at + 1) ss)

abbrev pub walk_on : Network → ℕ → List Stop → Result Walk WalkFault
walk_on g start [] = Err Ends
walk_on g start (s ∷ ss) = walk_behind g s.node start 0 1 ss

-- the whole plan: the ends first, and then stop by stop
abbrev pub walk_along : Network → ℕ → List Stop → Result Walk WalkFault
walk_along g start stops = if ends_pass is_end stops then walk_on g start stops else Err Ends

-- the level at the end of a whole plan
abbrev pub end_level : Network → ℕ → List Stop → ℕ
end_level g start [] = start
end_level g start (first ∷ stops) = level_after g 1 first.node start stops
