-- When the labels of a route cover a vehicle.
use Rattle.std.specs.Prelude.{◌≡◌, ℕ, List}
use Rattle.std.specs.List.{Contains}
use Rattle.dominance.specs.Coverage.{Reaches}
use Rattle.dominance.specs.LevelTimes.{time_at}
use Rattle.piece_fn.specs.PieceFn.{level_times}
use Rattle.route_steps.specs.Ways.{Leaving}
use Rattle.route_proof.specs.declared.proof.RouteLabel.{RouteLabel}

-- the vehicle of a label with one of its levels
abbrev pub vehicle_at : RouteLabel → ℕ → Leaving
vehicle_at l level = record {
  passed = l.passed;
  node = l.node;
  level = level;
  time = time_at (level_times l.value) level;
}

-- the label is where the vehicle is, and has a level at least as high at a time that is no later
pub record Covers (l : RouteLabel) (v : Leaving) : Type 0 where
  pub passed : l.passed ≡ v.passed
  pub node : l.node ≡ v.node
  pub reaches : Reaches (level_times l.value) 0 v.level v.time

-- some label covers the vehicle
abbrev pub IsCovered : List RouteLabel → Leaving → Type 0
IsCovered labels v = (l : RouteLabel) × Contains labels l × Covers l v
