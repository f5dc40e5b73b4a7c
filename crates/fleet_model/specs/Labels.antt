-- Labels of partial routes (resource constrained shortest paths: Irnich, Desaulniers 2005), with a battery
-- level on a curve as a resource (Froger, Mendoza, Jabali, Laporte 2019).
use Rattle.std.specs.Prelude.{ℕ, ◌+◌, ◌-◌, ◌<◌, ◌≤◌, List, length, slice_index, ℤ}

-- where a vehicle is on leaving a node: the last customer's node or 0, the node, the numbers of the customers
-- that were served, the sum that is paid for them, the level and the scaled time
pub record State : Type 0 where
  pub last : ℕ
  pub node : ℕ
  pub served : List ℕ
  pub paid : ℤ
  pub level : ℕ
  pub time : ℕ

-- the same with a first level, and a time for each level from there; `paid` may be another sum than the
-- prices of `served`
pub record Label : Type 0 where
  pub last : ℕ
  pub node : ℕ
  pub served : List ℕ
  pub paid : ℤ
  pub first : ℕ
  pub times : List ℕ

abbrev pub IsLevel : Label → ℕ → Type 0
IsLevel l y = (l.first ≤ y) × (y < l.first + length l.times)

-- the state of a label at one of its levels
abbrev pub state_at : Label → ℕ → State
state_at l y = record {
  last = l.last;
  node = l.node;
  served = l.served;
  paid = l.paid;
  level = y;
  time = slice_index l.times (y - l.first);
}
