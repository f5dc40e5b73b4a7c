use Rattle.std.proofs.Common.{◌≡◌, ◌∙◌, ◌+◌, ◌*◌, ◌<◌, ◌≤◌, ℕ, ap, subst, sym, arith}
use Rattle.std.proofs.Math.Nat.{mul-le-mul_right}
use Rattle.closed_lists.specs.Questions.{Question}
use Rattle.ev_model.specs.Network.{Network, node_count}
use Rattle.pricing.specs.Labels.{IsSound}
use Rattle.pricing.proofs.Listed.{last_known}
use Rattle.pricing.proofs.labels.RouteLabelsResources.group.Goals as goal

-- a place in a square
within : (a b n : ℕ) → a < n → b < n → a * n + b < n * n
within a b n row column =
    let first : a + 1 ≤ n = omega (arith, row) in
    let most = mul-le-mul_right n first in
    omega (arith, most, column)

pub returns : goal.returns
returns c =
    let sound = subst (λ (q : Question). IsSound q) c.self.view_is c.self.invariant.sound in
    let network : c.self.inside.inst.now ≡ c.args.self.now.network = c.self.invariant.network ∙ ap (λ (q : Question). q.network) c.self.view_is in
    let nodes : c.nodes.result ≡ node_count c.args.self.now.network = c.nodes.ensures.value ∙ ap (λ (g : Network). node_count g) network in
    subst (λ n. c.args.label.now.last * n + c.args.label.now.node < node_count c.args.self.now.network * node_count c.args.self.now.network) (sym nodes)
    (within c.args.label.now.last c.args.label.now.node (node_count c.args.self.now.network) (last_known c.args.self.now c.args.label.now sound.network c.requires) c.requires.node)
