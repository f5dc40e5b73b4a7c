use Rattle.std.proofs.Common.{◌<◌, get_or, subst, arith}
use Rattle.std.proofs.lemmas.Grind.{common_steps}
use Rattle.ev_model.specs.Network.{node_count}
use Rattle.route_steps.specs.Trips.{Journey}
use Rattle.frvcp_labels.proofs.RestTable.{nodes_known}
use Rattle.frvcp_labels.proofs.trip.Trip.add_hopeless_stations.Goals as goal

pub add_hopeless_at-requires-clause-node : goal.add_hopeless_at-requires-clause-node
add_hopeless_at-requires-clause-node c =
    subst (λ (j : Journey). get_or c.self.inside.stations.now c.loop-station.station-index 0 < node_count j.network) c.self.view_is
    (nodes_known c.self.inside.inst.now c.self.inside.stations.now c.self.invariant.are_stations c.loop-station.station-index c.loop-station-test.true)

pub loop-station-preserved : goal.loop-station-preserved
loop-station-preserved = grind (arith, common_steps)
