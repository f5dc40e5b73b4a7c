use Rattle.std.proofs.Common.{◌+◌, ◌*◌}
use Rattle.std.specs.Prelude.{IfSome}
use Rattle.ev_model.specs.Network.{node_count}
use Rattle.label_pool.specs.Labels.{IsLive}
use Rattle.frvcp_labels.proofs.ChargedStates.{left_from}
use Rattle.frvcp_labels.proofs.trip.Trip.sight.Given as goal

abbrev pub invariant-loop-at : goal.invariant-loop-at
invariant-loop-at l = IfSome l.at (IsLive l.pool.labels (l.passed * node_count l.self.network + l.node))

abbrev pub decreases-loop-at : goal.decreases-loop-at
decreases-loop-at l = left_from l.pool.labels l.at
