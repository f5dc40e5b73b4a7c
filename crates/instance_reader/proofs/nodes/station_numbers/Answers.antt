use Rattle.std.proofs.Common.{◌≡◌, ◌||◌, ◌∙◌, true, false, Some, None, length, get_or, is_some, not, nat_lt, sym, ap, arith}
use Rattle.std.proofs.lemmas.Grind.{common_steps}
use Rattle.instance_reader.proofs.NodesLemmas.{AreStationNumbers-next, right_node_here, wrong_node_here}
use Rattle.instance_reader.proofs.nodes.station_numbers.Goals as goal

pub loop-index-preserved : goal.loop-index-preserved
loop-index-preserved c =
    let node = c.index-stations-index.result.node in
    let numbers = c.loop-index.numbers.items in
    let right : false ≡ (not (nat_lt node (length numbers)) || is_some (get_or numbers node None)) = cc in
    record {
      value = AreStationNumbers-next c.args.stations.now c.args.nodes numbers c.loop-index.index c.index-stations-index.result
          c.loop-index-test.true c.index-stations-index.is c.loop-index.invariant.value right;
      node = right_node_here c.args.stations.now c.args.nodes numbers c.loop-index.index c.index-stations-index.result
          c.loop-index-test.true c.index-stations-index.is c.loop-index.invariant.value right ∙ c.loop-index.invariant.node;
    }

pub returns-then-is_wrong-clause-err : goal.returns-then-is_wrong-clause-err
returns-then-is_wrong-clause-err c =
    let node = c.index-stations-index.result.node in
    let numbers = c.loop-index.numbers.items in
    let wrong : true ≡ (not (nat_lt node (length numbers)) || is_some (get_or numbers node None)) = cc in
    let here = wrong_node_here c.args.stations.now c.args.nodes numbers c.loop-index.index c.index-stations-index.result
    c.loop-index-test.true c.index-stations-index.is c.loop-index.invariant.value wrong in
    sym c.loop-index.invariant.node ∙ here ∙ ap Some (sym c.node_place.ensures)

pub loop-index-init : goal.loop-index-init
loop-index-init = grind (arith, common_steps)

pub returns-clause-value : goal.returns-clause-value
returns-clause-value = grind (arith, common_steps)

pub returns-clause-node : goal.returns-clause-node
returns-clause-node = grind (arith, common_steps)
