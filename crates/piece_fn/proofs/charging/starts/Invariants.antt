use Rattle.std.proofs.Common.{◌≡◌, ◌++◌, drop}
use Rattle.piece_fn.specs.Cuts.{supports}
use Rattle.piece_fn.proofs.charging.starts.Given as goal

abbrev pub invariant-loop-index : goal.invariant-loop-index
invariant-loop-index l = l.levels.items ++ supports l.curve (drop l.index l.points) ≡ supports l.curve l.points
