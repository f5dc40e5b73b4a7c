use Rattle.std.proofs.Common.{ap}
use Rattle.std.specs.List.{sum}
use Rattle.frvcp_labels.proofs.RestTable.{pass_falls}
use Rattle.frvcp_labels.proofs.rest.Arcs.settle_layer.Goals as goal

pub loop-is_lower-smaller : goal.loop-is_lower-smaller
loop-is_lower-smaller c =
    pass_falls (sum c.loop-is_lower.least) (sum c.lower_layer-is_lower.new.least) c.lower_layer-is_lower.result c.loop-is_lower.is_lower c.loop-is_lower-test.true c.lower_layer-is_lower.ensures.less
    (λ same. ap sum (c.lower_layer-is_lower.ensures.same same))
