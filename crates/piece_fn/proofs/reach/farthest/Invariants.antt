use Rattle.std.proofs.Common.{◌≡◌, ℕ, ◌+◌, ◌-◌, ◌≤◌}
use Rattle.charge_curve.specs.Points.{ArePoints, last_level, time_on}
use Rattle.piece_fn.proofs.reach.farthest.Given as goal

abbrev pub invariant-loop-low : goal.invariant-loop-low
invariant-loop-low l = record {
  mine_points : ArePoints l.mine;
  its_points : ArePoints l.its;
  mine_last : last_level l.mine ≡ last_level l.own;
  its_last : last_level l.its ≡ last_level l.other;
  mine_times : (level : ℕ) → l.low ≤ level → time_on l.mine level ≡ time_on l.own level;
  its_times : (level : ℕ) → l.low ≤ level → time_on l.its level ≡ time_on l.other level;
  above : l.from ≤ l.low;
  within : l.low ≤ l.end;
  covered : (level : ℕ) → l.from ≤ level → level ≤ l.low → time_on l.own level + l.extra ≤ time_on l.other level;
}

abbrev pub decreases-loop-low : goal.decreases-loop-low
decreases-loop-low l = l.end - l.low
