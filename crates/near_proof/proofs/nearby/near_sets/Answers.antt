use Rattle.std.proofs.Common.{sym, subst, List, ℕ, ◌+◌}
use Rattle.near_proof.proofs.NearMembers.{SetsHold, sets_more}
use Rattle.near_proof.proofs.nearby.near_sets.Goals as goal

pub loop-node-preserved : goal.loop-node-preserved
loop-node-preserved c =
    subst (λ (sets : List (List ℕ)). SetsHold c.args.inst.now c.args.near c.customers-customers.result.now sets (c.loop-node.node-index + 1)) (sym c.in_ok-push.ensures.items)
    (sets_more c.args.inst.now c.args.near c.customers-customers.result.now c.loop-node.sets.items c.loop-node.node-index c.near_set.result c.loop-node-test.true c.loop-node.invariant c.near_set.ensures)
