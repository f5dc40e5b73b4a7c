-- The line that the level of the battery follows over time: straight from corner to corner. It falls while the vehicle drives, stays
-- while it serves and plugs in, and rises along the curve of the station while it charges.
use Rattle.std.specs.Prelude.{ℕ, ◌+◌, ◌&&◌, Bool, List, [], ◌∷◌, ◌++◌, Option, None, Some, false, true, filter, map, nat_lt, if◌then◌else◌}
use Rattle.charge_curve.specs.Scaled.{breaks_of}
use Rattle.ev_model.specs.Network.{Network, curve_at}
use Rattle.route_plan.specs.Walking.{charge_between}
use Rattle.plan_schedule.specs.declared.schedule.Corner.{Corner}
use Rattle.plan_schedule.specs.declared.schedule.Visit.{Visit}

-- a corner that is no breakpoint of a curve
abbrev pub corner : ℕ → ℕ → Corner
corner time level = record { time = time; level = level; bend = false }

-- when charging begins
abbrev pub plugged_in : Visit → ℕ
plugged_in v = v.arrival + v.service + v.plugging

-- a level above the one on arriving and below the one on leaving
abbrev pub is_between : Visit → ℕ → Bool
is_between v level = nat_lt v.level level && nat_lt level v.level_left

-- the corner at a level to which the vehicle charges on its way to the level on leaving
abbrev pub bend_at : Network → Visit → ℕ → Corner
bend_at g v level = record {
  time = plugged_in v + charge_between g.denominator (curve_at g v.node) v.level level;
  level = level;
  bend = true;
}

-- the corners at those breakpoints (level, time) of a scaled curve that stand between
abbrev pub bends_at : Network → Visit → List (ℕ × ℕ) → List Corner
bends_at g v breaks = map (λ b. bend_at g v b.0) (filter (λ b. is_between v b.0) breaks)

-- the corners at the breakpoints of a node's curve
abbrev pub bends_on : Network → Visit → Option (List (ℕ × ℕ)) → List Corner
bends_on g v None = []
bends_on g v (Some points) = bends_at g v (breaks_of g.denominator g.capacity points)

-- where something is charged: the corner from which on, and the breakpoints on the way
abbrev pub rise_of : Network → Visit → List Corner
rise_of g v =
    if nat_lt 0 v.charged
    then corner (plugged_in v) v.level ∷ bends_on g v (curve_at g v.node)
    else []

-- the corners of a visit
abbrev pub corners_of : Network → Visit → List Corner
corners_of g v =
    corner v.arrival v.level ∷ rise_of g v ++ corner v.leaving v.level_left ∷ []

-- the line of a route
abbrev pub line_of : Network → List Visit → List Corner
line_of g [] = []
line_of g (v ∷ vs) = corners_of g v ++ line_of g vs
