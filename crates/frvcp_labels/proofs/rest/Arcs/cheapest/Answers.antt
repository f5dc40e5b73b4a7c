use Rattle.std.proofs.Common.{arith}
use Rattle.frvcp_labels.proofs.RestTable.{below_steps, nodes_known}
use Rattle.frvcp_labels.proofs.rest.Arcs.cheapest.Goals as goal

pub cost-cost-requires-clause-reached : goal.cost-cost-requires-clause-reached
cost-cost-requires-clause-reached c = nodes_known c.args.self.now.inst.now c.args.self.now.stations.now c.requires.stations c.loop-station.station-index c.loop-station-test.true

pub overflow_add-base : goal.overflow_add-base
overflow_add-base c = let known = nodes_known c.args.self.now.inst.now c.args.self.now.stations.now c.requires.stations c.loop-station.station-index c.loop-station-test.true in omega (arith, known)

pub offset_bounds-least-base : goal.offset_bounds-least-base
offset_bounds-least-base c = let known = nodes_known c.args.self.now.inst.now c.args.self.now.stations.now c.requires.stations c.loop-station.station-index c.loop-station-test.true in omega (arith, known)

pub bounds-least-base : goal.bounds-least-base
bounds-least-base c = let known = nodes_known c.args.self.now.inst.now c.args.self.now.stations.now c.requires.stations c.loop-station.station-index c.loop-station-test.true in omega (arith, known)

pub returns-clause-below : goal.returns-clause-below
returns-clause-below c =
    below_steps c.args.self.now.inst.now c.args.self.now.rate c.args.least.now c.args.base c.args.from c.loop-station.cheapest c.args.self.now.stations.now c.requires.stations
    (λ n inside. c.loop-station.invariant.below n (omega arith))
