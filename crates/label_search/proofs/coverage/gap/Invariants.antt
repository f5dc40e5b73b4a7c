use Rattle.std.proofs.Common.{◌+◌, ◌-◌, length}
use Rattle.dominance.specs.LevelTimes.{IsLevel}
use Rattle.piece_fn.specs.PieceFn.{level_times}
use Rattle.label_search.proofs.coverage.gap.Given as goal

abbrev pub invariant-loop-to : goal.invariant-loop-to
invariant-loop-to g l = IsLevel (level_times l.asked.value.now) l.level

abbrev pub decreases-loop-to : goal.decreases-loop-to
decreases-loop-to g l =
    (level_times l.asked.value.now).first + length (level_times l.asked.value.now).times - l.level
