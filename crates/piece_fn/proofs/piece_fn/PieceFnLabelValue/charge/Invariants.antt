use Rattle.std.proofs.Common.{take}
use Rattle.std.specs.List.{All}
use Rattle.charge_curve.specs.Points.{ArePoints}
use Rattle.piece_fn.specs.PieceFn.{IsChargedFrom}
use Rattle.piece_fn.proofs.piece_fn.PieceFnLabelValue.charge.Given as goal

abbrev pub invariant-loop-start : goal.invariant-loop-start
invariant-loop-start l = record {
  list : IsChargedFrom l.self l.curve l.limit (take l.start-index l.start-items) l.values.items;
  points : All ArePoints l.values.items;
}
