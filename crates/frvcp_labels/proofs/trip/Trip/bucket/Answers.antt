use Rattle.std.proofs.Common.{◌≡◌, ◌∙◌, ◌+◌, ◌*◌, ◌≤◌, ◌<◌, ap, arith, length}
use Rattle.std.proofs.Math.Nat.{mul-le-mul_right}
use Rattle.ev_model.specs.Network.{node_count}
use Rattle.route_steps.specs.Trips.{Journey}
use Rattle.frvcp_labels.proofs.trip.Trip.bucket.Goals as goal

within : (c : goal.After-nodes) → c.args.passed * c.nodes.result + c.args.node < length c.args.self.now.route * node_count c.args.self.now.network
within c =
    let n = node_count c.args.self.now.network in
    let most : (c.args.passed + 1) * n ≤ length c.args.self.now.route * n = mul-le-mul_right n (omega (arith, c.requires.passed)) in
    let same : c.nodes.result ≡ n = c.nodes.ensures.value ∙ ap (λ (j : Journey). node_count j.network) c.self.view_is in
    let product : c.args.passed * c.nodes.result ≡ c.args.passed * n = ap (λ x. c.args.passed * x) same in
    omega (arith, most, product, c.requires.node)

pub overflow_mul-result : goal.overflow_mul-result
overflow_mul-result c = let w = within c in omega (arith, w, c.requires.few)

pub overflow_add-result : goal.overflow_add-result
overflow_add-result c = let w = within c in omega (arith, w, c.requires.few)

pub returns-clause-within : goal.returns-clause-within
returns-clause-within c = within c
