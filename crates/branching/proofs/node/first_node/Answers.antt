use Rattle.std.proofs.Common.{◌≡◌, ◌∙◌, None, ap, subst, sym}
use Rattle.slab.specs.Slab.{entries}
use Rattle.branching.specs.Walk.{first_from, IsFirst}
use Rattle.branching.proofs.Walk.{first_node_is}
use Rattle.branching.proofs.node.first_node.Goals as goal

pub loop-key-init : goal.loop-key-init
loop-key-init c =
    let left = c.into_iter-key-iterator.ensures.into_iter_gives ∙ c.iter-key-items.ensures.rest in
    (tt, tt, ap (first_from c.args.taken_too None) left)

pub returns : goal.returns
returns c =
    let s = c.args.nodes.now in
    let taken_too = c.args.taken_too in
    let ended = c.in-None.ensures.steps.0 in
    let found : c.loop-key.first ≡ first_from taken_too None (entries s) = sym (ap (first_from taken_too c.loop-key.first) ended) ∙ c.loop-key.invariant.2 in
    subst (IsFirst s.slots taken_too) (sym found) (first_node_is s taken_too)
