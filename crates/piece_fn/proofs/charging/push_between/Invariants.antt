use Rattle.std.proofs.Common.{◌≡◌, ◌++◌, drop}
use Rattle.piece_fn.specs.Cuts.{between}
use Rattle.piece_fn.proofs.charging.push_between.Given as goal

abbrev pub invariant-loop-point : goal.invariant-loop-point
invariant-loop-point l = l.levels.items ++ between l.low l.high (drop l.point-index l.points) ≡ l.initial.levels.items ++ between l.low l.high l.points
