use Rattle.std.proofs.Common.{◌≡◌, drop}
use Rattle.std.specs.List.{list_all}
use Rattle.charge_curve.specs.Points.{ArePoints, last_level}
use Rattle.piece_fn.specs.Cuts.{point_reaches}
use Rattle.piece_fn.specs.PieceFn.{first_level}
use Rattle.piece_fn.proofs.coverage.each_reaches.Given as goal

abbrev pub invariant-loop-point : goal.invariant-loop-point
invariant-loop-point l = record {
  points : ArePoints l.rest;
  same : list_all (point_reaches (first_level l.other) (last_level l.other) l.rest l.extra) (drop l.point-index l.own) ≡ list_all (point_reaches (first_level l.other) (last_level l.other) l.other l.extra) l.own;
}
