use Rattle.std.proofs.Common.{◌<◌, ◌≤◌, ◌^◌, length}
use Rattle.std.proofs.lemmas.List.Elements.{All-get_or}
use Rattle.ev_model.specs.Network.{node_count}
use Rattle.instance_reader.proofs.InstanceLemmas.{scaled_small}
use Rattle.instance_reader.specs.Inside.{network_inside}
use Rattle.instance_reader.proofs.instance.Instance.plug_at.Goals as goal

pub returns-clause-scaled : goal.returns-clause-scaled
returns-clause-scaled c =
    let network = c.self.invariant.network in
    let node : c.args.node < node_count (network_inside c.self.inside) = rw (← c.self.view_is) at c.requires in
    let within : c.args.node < length c.self.inside.plug_times.items = rw network.plug_count node in
    let small : c.index.result.now ≤ 10 ^ 9 =
    rw c.index.ensures (All-get_or (λ time. time ≤ 10 ^ 9) c.self.inside.plug_times.items c.args.node c.index.result.now within network.small_plug_times) in
    rw (← c.self.view_is) (scaled_small c.self.inside.denominator c.index.result.now network.small_denominator small)
