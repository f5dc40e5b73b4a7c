use Rattle.std.proofs.Common.{◌≡◌, ◌∙◌, ap, ℕ, ◌+◌, ◌*◌, ◌%◌, arith}
use Rattle.instance_maker.specs.Generator.{state_after, drawn}
use Rattle.instance_maker.proofs.GeneratorLemmas.{state_after-more, locations_of-more}
use Rattle.instance_maker.proofs.plane.draw_locations.Goals as goal

pub loop-node-preserved : goal.loop-node-preserved
loop-node-preserved c =
    let seed : ℕ = c.args.seed in
    let node : ℕ = c.loop-node.node in
    let first : c.draw-x.new.self.state ≡ state_after seed (2 * node + 1) = c.draw-x.ensures.state ∙ ap (λ s. s * 48271 % 2147483647) c.loop-node.invariant.state ∙ state_after-more seed (2 * node) in
    let later : 2 * node + 1 + 1 ≡ 2 * node + 2 = omega arith in
    let second : c.draw-y.new.self.state ≡ state_after seed (2 * node + 2) = c.draw-y.ensures.state ∙ ap (λ s. s * 48271 % 2147483647) first ∙ state_after-more seed (2 * node + 1) ∙ ap (λ draws. state_after seed draws) later in
    let is_x : c.draw-x.result ≡ drawn seed (2 * node + 1) = c.draw-x.ensures.number ∙ ap (λ s. s % 1000) first in
    let is_y : c.draw-y.result ≡ drawn seed (2 * node + 2) = c.draw-y.ensures.number ∙ ap (λ s. s % 1000) second in
    let after : 2 * node + 2 ≡ 2 * (node + 1) = omega arith in
    record {
      drawn_so_far = c.in_ok-push.ensures.items ∙ locations_of-more seed node c.draw-x.result c.draw-y.result _ c.loop-node.invariant.drawn_so_far is_x is_y;
      state = second ∙ ap (λ draws. state_after seed draws) after;
    }
