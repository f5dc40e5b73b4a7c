use Rattle.std.proofs.Common.{◌≡◌, ◌-◌, drop}
use Rattle.piece_fn.specs.Cuts.{from_piece}
use Rattle.piece_fn.proofs.points.piece_at.Given as goal

abbrev pub invariant-loop-index : goal.invariant-loop-index
invariant-loop-index l = from_piece l.level (drop (l.index - 1) l.points) ≡ from_piece l.level l.points
