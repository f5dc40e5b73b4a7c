-- The moves by which a vehicle goes on along a route: it charges one unit, unplugs, or drives to the next stop.
use Rattle.std.specs.Prelude.{◌≡◌, ◌≢◌, ℕ, ◌+◌, ◌-◌, ◌*◌, ◌<◌, ◌≤◌, List, length, nat_eq, false, true, IsSome, if◌then◌else◌}
use Rattle.ev_model.specs.Network.{Network, curve_at, energy, plug_time, process_time, travel_time}
use Rattle.ev_model.specs.Time.{charging_time}
use Rattle.level_table.specs.Stations.{stations}
use Rattle.level_table.specs.Places.{node_at}
use Rattle.level_table.specs.declared.moves.Leg.{Leg}
use Rattle.level_table.specs.declared.moves.Move.{Move}
use Rattle.level_table.specs.declared.moves.Move.TheVariants.{Charge, Drive, Unplug}
use Rattle.level_table.specs.declared.place.Place.{Place}

-- the node of a place
abbrev pub node_of : Network → List ℕ → Place → ℕ
node_of g route from = node_at g route from.passed from.slot

-- how much of the route was served after a drive to a slot: slot 0 is the next node of the route
abbrev pub passed_after : ℕ → ℕ → ℕ
passed_after passed slot = if nat_eq slot 0 then passed + 1 else passed

-- the node that a drive to a slot reaches
abbrev pub next_node : Network → List ℕ → Place → ℕ → ℕ
next_node g route from slot = node_at g route (passed_after from.passed slot) slot

-- a level on arriving that is enough: the reserve, and at the end of the route the level at home too
abbrev pub IsEnough : Network → List ℕ → ℕ → ℕ → Type 0
IsEnough g route passed level =
    (g.reserve ≤ level) × (passed ≡ length route - 1 → g.home_level ≤ level)

-- a drive to another node that arrives there with enough
pub record CanDrive (g : Network) (route : List ℕ) (slot : ℕ) (from : Place) : Type 0 where
  pub known : slot ≤ length (stations g)
  pub other : next_node g route from slot ≢ node_of g route from
  pub within : energy g (node_of g route from) (next_node g route from slot) ≤ from.level
  pub enough : IsEnough g route (passed_after from.passed slot)
      (from.level - energy g (node_of g route from) (next_node g route from slot))

-- a unit is charged at a station below full, but not at the first stop; the vehicle is unplugged before it drives
abbrev pub CanMove : Network → List ℕ → Move → Place → Type 0
CanMove g route Charge from =
    (0 < from.passed + from.slot) × (from.level < g.capacity) ×
    IsSome (curve_at g (node_of g route from))
CanMove g route Unplug from = from.plugged ≡ true
CanMove g route (Drive slot) from = (from.plugged ≡ false) × CanDrive g route slot from

-- the time to plug in before a unit is charged: the first unit alone pays it
abbrev pub plug_before : Network → List ℕ → Place → ℕ
plug_before g route from = if from.plugged then 0 else plug_time g (node_of g route from)

-- the scaled time of a move
abbrev pub move_time : Network → List ℕ → Move → Place → ℕ
move_time g route Charge from =
    g.denominator * plug_before g route from
    + charging_time 1 g.denominator (curve_at g (node_of g route from)) from.level (from.level + 1)
move_time g route Unplug from = 0
move_time g route (Drive slot) from =
    g.denominator * (travel_time g (node_of g route from) (next_node g route from slot)
    + process_time g (next_node g route from slot))

-- the place that a move leads to
abbrev pub place_after : Network → List ℕ → Move → Place → Place
place_after g route Charge from = record from { level = from.level + 1; plugged = true }
place_after g route Unplug from = record from { plugged = false }
place_after g route (Drive slot) from = record {
  passed = passed_after from.passed slot;
  slot = slot;
  level = from.level - energy g (node_of g route from) (next_node g route from slot);
  plugged = false;
}

-- what a move does: it can be made, takes this time and leads there
pub record IsLeg (g : Network) (route : List ℕ) (step : Move) (from : Place) (leg : Leg) : Type 0 where
  pub can : CanMove g route step from
  pub time : leg.time ≡ move_time g route step from
  pub leads : leg.to ≡ place_after g route step from
