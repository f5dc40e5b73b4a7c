use Rattle.std.proofs.Common.{◌≡◌, ◌<◌, ◌∙◌, length, arith, sym}
use Rattle.std.proofs.lemmas.Grind.{common_steps}
use Rattle.std.proofs.lemmas.List.{length-map}
use Rattle.ev_model.specs.Network.{node_count}
use Rattle.instance_reader.proofs.InstanceLemmas.{scaled_small, small_at}
use Rattle.instance_reader.specs.Inside.{network_inside}
use Rattle.instance_reader.proofs.instance.Instance.time.Goals as goal

pub returns-clause-small : goal.returns-clause-small
returns-clause-small c =
    let network = c.self.invariant.network in
    let left : c.args.i < node_count (network_inside c.self.inside) = rw (← c.self.view_is) at c.requires.left in
    let reached : c.args.j < node_count (network_inside c.self.inside) = rw (← c.self.view_is) at c.requires.reached in
    let count : length c.self.inside.times.items ≡ node_count (network_inside c.self.inside) =
    sym (length-map c.self.inside.times.items (λ row. row.items)) ∙ network.time_count in
    let rows : c.args.i < length c.self.inside.times.items = omega arith in
    small_at c.self.inside.times.items (node_count (network_inside c.self.inside)) c.args.i c.args.j c.index.result.now c.index-2.result.now
    network.time_rows network.small_times rows reached c.index.ensures c.index-2.ensures

pub returns-clause-scaled : goal.returns-clause-scaled
returns-clause-scaled c =
    rw (← c.self.view_is) (scaled_small c.self.inside.denominator c.index-2.result.now c.self.invariant.network.small_denominator (returns-clause-small c))

pub returns-clause-value : goal.returns-clause-value
returns-clause-value = grind (arith, common_steps)
