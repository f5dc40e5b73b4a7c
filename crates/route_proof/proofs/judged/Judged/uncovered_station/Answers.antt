use Rattle.std.proofs.Common.{◌∙◌, ap, arith}
use Rattle.std.proofs.lemmas.Grind.{common_steps, elements}
use Rattle.ev_model.specs.Network.{Network, node_count}
use Rattle.route_proof.proofs.LabelSteps.{is_known}
use Rattle.route_proof.proofs.judged.Judged.uncovered_station.Goals as goal

pub returns : goal.returns
returns c x missed =
    let known = is_known c.args.self.now c.args.label.now x missed in
    let nodes = c.nodes-node-end.ensures.value ∙ ap (λ (g : Network). node_count g) c.instance.ensures.value in
    c.loop-node.invariant x (omega (arith, known, nodes, c.loop-node-test.false)) missed

pub returns-then-not-branch : goal.returns-then-not-branch
returns-then-not-branch = grind (arith, common_steps)

pub station_is_covered-requires-clause-known : goal.station_is_covered-requires-clause-known
station_is_covered-requires-clause-known = grind (arith, common_steps)

pub loop-node-preserved : goal.loop-node-preserved
loop-node-preserved = grind (arith, elements)
