use Rattle.std.proofs.lemmas.List.Elements.{All-more}
use Rattle.route_plan.specs.PlanTexts.{IsSmallStop}
use Rattle.certificate_parts.proofs.EachItem.{all_hold}
use Rattle.certificate_parts.proofs.ranges.plan.are_small.Goals as goal

pub loop-stop-preserved : goal.loop-stop-preserved
loop-stop-preserved c =
    All-more (IsSmallStop) c.args.stops.now c.loop-stop.stop-index _ c.loop-stop-test.true c.loop-stop.invariant (c.is_small.ensures.0 c.if-not-is_small.false)

pub returns : goal.returns
returns c = all_hold (IsSmallStop) c.args.stops.now c.loop-stop.stop-index c.loop-stop.auto.stop-index-end c.loop-stop-test.false c.loop-stop.invariant
