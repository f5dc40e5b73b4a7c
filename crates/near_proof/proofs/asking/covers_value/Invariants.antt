use Rattle.std.proofs.Common.{ℕ, ◌-◌, ◌<◌}
use Rattle.dominance.specs.LevelTimes.{IsLevel, time_at}
use Rattle.piece_fn.specs.PieceFn.{level_times}
use Rattle.near_proof.proofs.asking.covers_value.Given as goal

abbrev pub invariant-loop-to : goal.invariant-loop-to
invariant-loop-to g l = record {
  level : IsLevel (level_times l.value) l.level;
  covered : (y : ℕ) → IsLevel (level_times l.value) y → y < l.level → g.A.Covering.covers l.asked y (time_at (level_times l.value) y);
}

abbrev pub decreases-loop-to : goal.decreases-loop-to
decreases-loop-to g l = l.last - l.level
