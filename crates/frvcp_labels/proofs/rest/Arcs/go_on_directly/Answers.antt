use Rattle.std.proofs.Common.{◌∙◌, ◌+◌, arith, get_or}
use Rattle.std.proofs.lemmas.List.{get_or-set_other}
use Rattle.std.proofs.Math.ListN.{length-set}
use Rattle.frvcp_labels.proofs.RestTable.{direct_set, nodes_known}
use Rattle.frvcp_labels.proofs.rest.Arcs.go_on_directly.Goals as goal

pub cost-requires-clause-left : goal.cost-requires-clause-left
cost-requires-clause-left c = nodes_known c.args.self.now.inst.now c.args.self.now.stations.now c.requires.stations c.loop-station.station-index c.loop-station-test.true

pub overflow_add-least : goal.overflow_add-least
overflow_add-least c = let known = nodes_known c.args.self.now.inst.now c.args.self.now.stations.now c.requires.stations c.loop-station.station-index c.loop-station-test.true in omega (arith, known)

pub offset_bounds-least-base : goal.offset_bounds-least-base
offset_bounds-least-base c = let known = nodes_known c.args.self.now.inst.now c.args.self.now.stations.now c.requires.stations c.loop-station.station-index c.loop-station-test.true in omega (arith, known)

pub bounds-least-base : goal.bounds-least-base
bounds-least-base c = let known = nodes_known c.args.self.now.inst.now c.args.self.now.stations.now c.requires.stations c.loop-station.station-index c.loop-station-test.true in omega (arith, known)

pub loop-station-preserved : goal.loop-station-preserved
loop-station-preserved c =
    let known = nodes_known c.args.self.now.inst.now c.args.self.now.stations.now c.requires.stations c.loop-station.station-index c.loop-station-test.true in
    let node = get_or c.args.self.now.stations.now c.loop-station.station-index 0 in
    record {
      count = length-set c.loop-station.least (c.args.base + node) c.saturating_add.result ∙ c.loop-station.invariant.count;
      before = λ i h. get_or-set_other c.loop-station.least (c.args.base + node) i c.saturating_add.result 0 (λ e. omega (arith, e, h)) ∙ c.loop-station.invariant.before i h;
      stays = λ i h. get_or-set_other c.loop-station.least (c.args.base + node) i c.saturating_add.result 0 (λ e. omega (arith, e, h, known)) ∙ c.loop-station.invariant.stays i h;
      direct = direct_set c.args.self.now.inst.now c.args.self.now.rate c.loop-station.least c.args.base c.args.next c.args.after node c.saturating_add.result (omega arith) known (omega arith) c.loop-station.invariant.direct;
    }
