use Rattle.std.proofs.Common.{◌<◌, length, arith}
use Rattle.std.proofs.lemmas.Grind.{common_steps}
use Rattle.std.proofs.lemmas.List.{length-map}
use Rattle.ev_model.specs.Network.{node_count}
use Rattle.instance_reader.proofs.InstanceLemmas.{small_at}
use Rattle.instance_reader.specs.Inside.{network_inside}
use Rattle.instance_reader.proofs.instance.Instance.energy.Goals as goal

pub returns-clause-small : goal.returns-clause-small
returns-clause-small c =
    let network = c.self.invariant.network in
    let left : c.args.i < node_count (network_inside c.self.inside) = rw (← c.self.view_is) at c.requires.left in
    let reached : c.args.j < node_count (network_inside c.self.inside) = rw (← c.self.view_is) at c.requires.reached in
    let rows : c.args.i < length c.self.inside.energies.items = rw length-map at left in
    small_at c.self.inside.energies.items (node_count (network_inside c.self.inside)) c.args.i c.args.j c.index.result.now c.index-2.result.now
    network.energy_rows network.small_energies rows reached c.index.ensures c.index-2.ensures

pub returns-clause-value : goal.returns-clause-value
returns-clause-value = grind (arith, common_steps)
