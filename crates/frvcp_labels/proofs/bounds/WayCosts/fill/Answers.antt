use Rattle.std.proofs.Common.{◌≡◌, ◌∙◌, ◌+◌, ◌-◌, ◌*◌, ◌<◌, ◌≤◌, ap, arith, length, refl, subst, sym}
use Rattle.std.specs.Prelude.{slice_index}
use Rattle.std.proofs.Math.ListN.{length-set}
use Rattle.std.proofs.Math.Nat.{mul-le-mul_right}
use Rattle.ev_model.specs.Network.{node_count}
use Rattle.frvcp_labels.specs.Bounds.{IsLayer}
use Rattle.frvcp_labels.specs.Rest.{AreLayers}
use Rattle.frvcp_labels.proofs.WayTables.{layer_at, rest_more}
use Rattle.frvcp_labels.proofs.bounds.WayCosts.fill.Goals as goal

pub lay-requires : goal.lay-requires
lay-requires c =
    let g = c.args.inst.now in
    let next = slice_index c.args.route.now (c.loop-passed.passed - 1 + 1) in
    let known : slice_index c.args.route.now (c.loop-passed.passed - 1 + 1) < node_count c.args.inst.now = c.requires.route.1.known (c.loop-passed.passed - 1 + 1) 0 (omega arith) in
    let is = layer_at g c.args.self.now.rate c.args.self.now.layers.items next c.index.result.now c.requires.costs known c.index.ensures in
    let size : length c.deref.result.now ≡ node_count c.args.inst.now = ap length c.deref.ensures.value ∙ is.count in
    let least : length c.loop-passed.least ≡ length c.args.route.now * node_count c.args.inst.now = c.loop-passed.invariant.count ∙ length-set c.args.least.now _ _ ∙ c.requires.count in
    let room : (c.loop-passed.passed - 1 + 1) * node_count c.args.inst.now ≤ length c.args.route.now * node_count c.args.inst.now = mul-le-mul_right (node_count g) (omega arith) in
    let base : (c.loop-passed.passed - 1) * c.nodes-nodes.result ≡ (c.loop-passed.passed - 1) * node_count c.args.inst.now = ap (λ n. (c.loop-passed.passed - 1) * n) c.nodes-nodes.ensures.value in
    record { inside = omega (arith, size, least, room, base) }

pub loop-passed-preserved : goal.loop-passed-preserved
loop-passed-preserved c =
    let g = c.args.inst.now in
    let next = slice_index c.args.route.now (c.loop-passed.passed - 1 + 1) in
    let known : slice_index c.args.route.now (c.loop-passed.passed - 1 + 1) < node_count c.args.inst.now = c.requires.route.1.known (c.loop-passed.passed - 1 + 1) 0 (omega arith) in
    let layer = layer_at g c.args.self.now.rate c.args.self.now.layers.items next c.index.result.now c.requires.costs known c.index.ensures in
    let is : IsLayer c.args.inst.now c.args.self.now.rate (slice_index c.args.route.now (c.loop-passed.passed - 1 + 1)) c.deref.result.now = subst (IsLayer g c.args.self.now.rate next) (sym c.deref.ensures.value) layer in
    let more : c.loop-passed.passed ≡ c.loop-passed.passed - 1 + 1 = omega arith in
    record {
      count = c.lay.ensures.count ∙ c.loop-passed.invariant.count;
      layers = rest_more g c.args.route.now c.args.self.now.rate c.deref.result.now c.loop-passed.least c.lay.new.least c.nodes-nodes.result (c.loop-passed.passed - 1) _ c.nodes-nodes.ensures.value (omega arith) is known
          (subst (λ p. AreLayers g c.args.route.now c.args.self.now.rate c.loop-passed.least p) more c.loop-passed.invariant.layers) refl c.lay.ensures.laid c.lay.ensures.stays;
    }
