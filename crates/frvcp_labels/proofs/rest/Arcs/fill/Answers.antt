use Rattle.std.proofs.Common.{◌≡◌, ◌∙◌, ◌+◌, ◌-◌, ◌*◌, ap, arith, subst}
use Rattle.std.proofs.lemmas.Grind.{common_steps, elements}
use Rattle.ev_model.specs.Network.{node_count}
use Rattle.frvcp_labels.specs.Rest.{AreLayers}
use Rattle.frvcp_labels.proofs.RestTable.{filled}
use Rattle.frvcp_labels.proofs.rest.Arcs.fill.Goals as goal

pub loop-passed-preserved : goal.loop-passed-preserved
loop-passed-preserved c =
    let g = c.args.self.now.inst.now in
    let passed = c.loop-passed.passed - 1 in
    let more : c.loop-passed.passed ≡ c.loop-passed.passed - 1 + 1 = omega arith in
    let base : (c.loop-passed.passed - 1) * c.nodes-nodes.result ≡ (c.loop-passed.passed - 1) * node_count g = ap (λ n. (c.loop-passed.passed - 1) * n) c.nodes-nodes.ensures.value in
    record {
      count = c.fill_layer.ensures.count ∙ c.loop-passed.invariant.count;
      empty = λ i h. c.fill_layer.ensures.zero i (omega (arith, h, base));
      layers = filled g c.args.route.now c.args.self.now.rate c.loop-passed.least c.fill_layer.new.least c.nodes-nodes.result (c.loop-passed.passed - 1) c.nodes-nodes.ensures.value (omega arith)
          (subst (λ p. AreLayers g c.args.route.now c.args.self.now.rate c.loop-passed.least p) more c.loop-passed.invariant.layers) c.fill_layer.ensures.stays c.fill_layer.ensures.steady c.fill_layer.ensures.direct;
    }

pub overflow_mul-passed : goal.overflow_mul-passed
overflow_mul-passed = grind (arith, common_steps)

pub overflow_mul-least : goal.overflow_mul-least
overflow_mul-least = grind (arith, common_steps)

pub returns-clause-count : goal.returns-clause-count
returns-clause-count = grind (arith, common_steps)

pub bounds-least-end : goal.bounds-least-end
bounds-least-end = grind (arith, elements)

pub fill_layer-requires-clause-inside : goal.fill_layer-requires-clause-inside
fill_layer-requires-clause-inside = grind (arith, elements)

pub fill_layer-requires-clause-next : goal.fill_layer-requires-clause-next
fill_layer-requires-clause-next = grind (arith, elements)

pub fill_layer-requires-clause-own : goal.fill_layer-requires-clause-own
fill_layer-requires-clause-own = grind (arith, elements)

pub fill_layer-requires-clause-zero : goal.fill_layer-requires-clause-zero
fill_layer-requires-clause-zero = grind (arith, elements)

pub offset_bounds-least-end : goal.offset_bounds-least-end
offset_bounds-least-end = grind (arith, elements)

pub overflow_add-least : goal.overflow_add-least
overflow_add-least = grind (arith, elements)

pub returns-clause-layers : goal.returns-clause-layers
returns-clause-layers = grind (arith, elements)
