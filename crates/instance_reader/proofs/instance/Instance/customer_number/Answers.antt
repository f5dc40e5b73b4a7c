use Rattle.std.proofs.Common.{◌<◌, ◌∙◌, None, length, subst, sym, arith}
use Rattle.std.proofs.lemmas.Grind.{elements}
use Rattle.std.proofs.lemmas.List.{get_or_default}
use Rattle.ev_model.specs.Network.{Network, node_count}
use Rattle.instance_reader.specs.Inside.{network_inside}
use Rattle.instance_reader.specs.Instance.{IsCustomerNumber}
use Rattle.instance_reader.proofs.InstanceLemmas.{number_small}
use Rattle.instance_reader.proofs.instance.Instance.customer_number.Goals as goal

pub returns-clause-small : goal.returns-clause-small
returns-clause-small c =
    let known : c.args.node < node_count (network_inside c.self.inside) = subst (λ (g : Network). c.args.node < node_count g) (sym c.self.view_is) c.requires in
    let within : c.args.node < length c.self.inside.customer_numbers.items = omega (arith, known, c.self.invariant.numbers.all) in
    let same = get_or_default c.self.inside.customer_numbers.items c.args.node None c.index.result.now within in
    let is : IsCustomerNumber (network_inside c.self.inside) c.args.node c.index.result.now = rw (same ∙ sym c.index.ensures) at (c.self.invariant.numbers.each c.args.node known) in
    number_small (network_inside c.self.inside) c.args.node c.index.result.now c.self.invariant.network.few_nodes is

pub returns-clause-within : goal.returns-clause-within
returns-clause-within = grind (arith, elements)
