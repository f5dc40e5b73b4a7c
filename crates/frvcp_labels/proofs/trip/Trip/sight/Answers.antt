use Rattle.std.proofs.Common.{◌+◌, ◌*◌}
use Rattle.ev_model.specs.Network.{node_count}
use Rattle.frvcp_labels.proofs.ChargedStates.{left_falls, lives_at, reached_by}
use Rattle.frvcp_labels.proofs.trip.Trip.sight.Goals as goal

pub returns-in-Reached : goal.returns-in-Reached
returns-in-Reached c _ =
    let live = lives_at c.args.pool.now.labels (c.args.passed * node_count c.args.self.now.network + c.args.node) c.in-Some.i c.loop-at.at c.in-Some.is c.loop-at.invariant in
    reached_by c.args.self.now c.args.pool.now.labels c.args.passed c.args.node c.in-Some.i c.args.level c.args.time c.value.result.now c.requires.pool.labels c.requires.node live (c.value.ensures live.label live.here) (c.sight_of.ensures c.in-Reached.is)

pub loop-at-smaller : goal.loop-at-smaller
loop-at-smaller c =
    let live = lives_at c.args.pool.now.labels (c.args.passed * node_count c.args.self.now.network + c.args.node) c.in-Some.i c.loop-at.at c.in-Some.is c.loop-at.invariant in
    left_falls c.args.pool.now.labels (c.args.passed * node_count c.args.self.now.network + c.args.node) c.in-Some.i c.loop-at.at c.next_live-at.result c.in-Some.is live (c.next_live-at.ensures (c.args.passed * node_count c.args.self.now.network + c.args.node) live)
