use Rattle.std.proofs.Common.{◌∙◌, ap, arith}
use Rattle.ev_model.specs.Network.{node_count}
use Rattle.instance_maker.proofs.Means.{breaks_no_rule, network_is, nodes_made}
use Rattle.instance_maker.proofs.meaning.made_instance.Goals as goal

pub returns-in-Ok-read_instance-clause-network : goal.returns-in-Ok-read_instance-clause-network
returns-in-Ok-read_instance-clause-network c =
    network_is c.args.seed c.args.customers c.args.stations c.in-Ok.text.items c.as_slice.result.now c.in-Ok-read_instance.instance c.in-Ok.ensures.range c.as_slice.ensures.value
    (omega (arith, c.in-Ok.ensures.short, c.in-Ok.text.ok)) c.in-Ok.ensures.utf8 c.in-Ok.ensures.reads_back c.in-Ok-read_instance.ensures.instance

pub returns-in-Ok-read_instance-clause-nodes : goal.returns-in-Ok-read_instance-clause-nodes
returns-in-Ok-read_instance-clause-nodes c =
    ap node_count (returns-in-Ok-read_instance-clause-network c) ∙ nodes_made c.args.seed c.args.customers c.args.stations

pub unreachable-requires : goal.unreachable-requires
unreachable-requires c =
    breaks_no_rule c.args.seed c.args.customers c.args.stations c.in-Ok.text.items c.as_slice.result.now c.in-Err-read_instance.fault c.in-Ok.ensures.range c.as_slice.ensures.value
    (omega (arith, c.in-Ok.ensures.short, c.in-Ok.text.ok)) c.in-Ok.ensures.utf8 c.in-Ok.ensures.reads_back
    (c.in-Err-read_instance.ensures.fault c.in_default.not-Memory)
