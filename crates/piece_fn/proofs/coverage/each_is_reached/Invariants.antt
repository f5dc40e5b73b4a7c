use Rattle.std.proofs.Common.{◌≡◌, drop}
use Rattle.std.specs.List.{list_all}
use Rattle.charge_curve.specs.Points.{ArePoints}
use Rattle.piece_fn.specs.Cuts.{point_is_reached}
use Rattle.piece_fn.proofs.coverage.each_is_reached.Given as goal

abbrev pub invariant-loop-point : goal.invariant-loop-point
invariant-loop-point l = record {
  points : ArePoints l.rest;
  same : list_all (point_is_reached l.rest l.extra) (drop l.point-index l.other) ≡ list_all (point_is_reached l.own l.extra) l.other;
}
