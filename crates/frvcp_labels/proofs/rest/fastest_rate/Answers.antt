use Rattle.std.proofs.Common.{arith}
use Rattle.frvcp_labels.proofs.RestTable.{nodes_known, rate_all, rate_more}
use Rattle.frvcp_labels.proofs.rest.fastest_rate.Goals as goal

pub rate_at-requires : goal.rate_at-requires
rate_at-requires c = nodes_known c.args.inst.now c.args.stations.now c.requires c.loop-station.station-index c.loop-station-test.true

pub loop-station-preserved : goal.loop-station-preserved
loop-station-preserved c =
    rate_more c.args.inst.now c.args.stations.now c.loop-station.station-index c.loop-station.rate c.rate_at.result c.min-rate.result (omega arith) (omega arith) c.loop-station.invariant c.rate_at.ensures

pub returns : goal.returns
returns c = rate_all c.args.inst.now c.loop-station.rate c.args.stations.now c.requires (λ n inside. c.loop-station.invariant n (omega arith))
