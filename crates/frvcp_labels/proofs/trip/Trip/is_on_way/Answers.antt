use Rattle.frvcp_labels.proofs.LiveStates.{is_on_way}
use Rattle.frvcp_labels.proofs.trip.Trip.is_on_way.Goals as goal

pub returns-then-is_live : goal.returns-then-is_live
returns-then-is_live c label here =
    is_on_way c.args.self.now c.args.pool.now.labels c.args.i c.end.result c.is_live.result c.value.result.now label c.requires.pool.labels c.end.ensures.value (c.value.ensures label here) (c.is_live.ensures label here) c.if-is_live.true here
