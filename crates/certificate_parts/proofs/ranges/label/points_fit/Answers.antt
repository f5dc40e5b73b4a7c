use Rattle.std.proofs.lemmas.List.Elements.{All-more}
use Rattle.certificate_parts.specs.Ranges.{PointFits}
use Rattle.certificate_parts.proofs.EachItem.{all_hold}
use Rattle.certificate_parts.proofs.ranges.label.points_fit.Goals as goal

pub loop-point-preserved : goal.loop-point-preserved
loop-point-preserved c =
    All-more (PointFits c.args.inst.now) c.args.points.now c.loop-point.point-index _ c.loop-point-test.true c.loop-point.invariant (c.point_fits.ensures.0 c.if-not-point_fits.false)

pub returns : goal.returns
returns c = all_hold (PointFits c.args.inst.now) c.args.points.now c.loop-point.point-index c.loop-point.auto.point-index-end c.loop-point-test.false c.loop-point.invariant
