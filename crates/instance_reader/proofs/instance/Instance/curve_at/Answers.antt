use Rattle.std.proofs.Common.{◌<◌}
use Rattle.ev_model.specs.Network.{node_count}
use Rattle.instance_reader.proofs.InstanceLemmas.{curve_at_number}
use Rattle.instance_reader.specs.Inside.{network_inside}
use Rattle.instance_reader.proofs.instance.Instance.curve_at.Goals as goal

pub returns-in-Some : goal.returns-in-Some
returns-in-Some c =
    let within : c.args.node < node_count (network_inside c.self.inside) = rw (← c.self.view_is) at c.requires in
    rw (← c.self.view_is) (curve_at_number c.self.inside c.args.node c.in-Some.number c.index.result.now c.index-in-Some.result.now
    c.self.invariant within c.index.ensures c.in-Some.is c.index-in-Some.ensures)
