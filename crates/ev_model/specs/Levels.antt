-- Battery levels along a plan, in kths of a unit of charge.
use Rattle.std.specs.Prelude.{ℕ, ◌+◌, ◌-◌, ◌*◌, ◌≤◌, List, [], ◌∷◌}
use Rattle.ev_model.specs.Network.{Network, energy}
use Rattle.ev_model.specs.declared.Stop.{Stop}

-- the level on arriving at a stop, from the level on leaving the node before
abbrev pub arriving_level : Network → ℕ → ℕ → ℕ → Stop → ℕ
arriving_level g k from level s = level - k * energy g from s.node

-- the level on leaving a stop
abbrev pub leaving_level : Network → ℕ → ℕ → ℕ → Stop → ℕ
leaving_level g k from level s = arriving_level g k from level s + s.added

-- the levels on leaving each of the stops
abbrev pub levels_from : Network → ℕ → ℕ → ℕ → List Stop → List ℕ
levels_from g k from level [] = []
levels_from g k from level (s ∷ ss) =
    leaving_level g k from level s ∷ levels_from g k s.node (leaving_level g k from level s) ss

-- the levels on leaving each stop of a plan that begins with a whole level
abbrev pub levels_of : Network → ℕ → ℕ → List Stop → List ℕ
levels_of g k start [] = []
levels_of g k start (first ∷ stops) = k * start ∷ levels_from g k first.node (k * start) stops

-- the node where the last of the stops is
abbrev pub node_after : ℕ → List Stop → ℕ
node_after from [] = from
node_after from (s ∷ ss) = node_after s.node ss

-- the level on leaving the last of the stops
abbrev pub level_after : Network → ℕ → ℕ → ℕ → List Stop → ℕ
level_after g k from level [] = level
level_after g k from level (s ∷ ss) = level_after g k s.node (leaving_level g k from level s) ss

-- no arc takes more than is left above the reserve, and no stop charges above a full battery
abbrev pub KeepsBatteryFrom : Network → ℕ → ℕ → ℕ → List Stop → Type 0
KeepsBatteryFrom g k from level [] = Unit {0}
KeepsBatteryFrom g k from level (s ∷ ss) =
    (k * energy g from s.node + k * g.reserve ≤ level) ×
    (leaving_level g k from level s ≤ k * g.capacity)
    × KeepsBatteryFrom g k s.node (leaving_level g k from level s) ss

-- the battery of a plan that begins with a whole level: it arrives nowhere below the reserve, leaves no stop above full,
-- and arrives at the end of the route, where nothing is charged, with the level at home at least
abbrev pub KeepsBattery : Network → ℕ → ℕ → List Stop → Type 0
KeepsBattery g k start [] = Unit {0}
KeepsBattery g k start (first ∷ stops) =
    KeepsBatteryFrom g k first.node (k * start) stops ×
    (k * g.home_level ≤ level_after g k first.node (k * start) stops)
