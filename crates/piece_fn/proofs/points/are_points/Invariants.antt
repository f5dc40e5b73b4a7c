use Rattle.std.proofs.Common.{◌≡◌, drop}
use Rattle.piece_fn.specs.Cuts.{are_points}
use Rattle.piece_fn.proofs.points.are_points.Given as goal

abbrev pub invariant-loop-index : goal.invariant-loop-index
invariant-loop-index l = are_points (drop l.index l.points) ≡ are_points l.points
