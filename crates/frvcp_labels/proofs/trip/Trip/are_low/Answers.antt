use Rattle.std.proofs.lemmas.List.Elements.{All-more}
use Rattle.frvcp_labels.specs.Listing.{IsPointWithin}
use Rattle.frvcp_labels.proofs.Within.{all_within}
use Rattle.frvcp_labels.proofs.trip.Trip.are_low.Goals as goal

pub loop-point-preserved : goal.loop-point-preserved
loop-point-preserved c =
    All-more (IsPointWithin c.args.self.now.network) c.args.points.now c.loop-point.point-index _ c.loop-point-test.true c.loop-point.invariant (c.is_low.ensures c.if-not-is_low.false)

pub returns : goal.returns
returns c told = all_within c.args.self.now.network c.args.points.now c.loop-point.point-index c.loop-point.auto.point-index-end c.loop-point-test.false c.loop-point.invariant
