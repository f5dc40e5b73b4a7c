use Rattle.near_proof.proofs.Told.{TightBefore}
use Rattle.near_proof.proofs.check.loose_customer.Given as goal

abbrev pub invariant-loop-node : goal.invariant-loop-node
invariant-loop-node l = TightBefore l.inst l.proof l.node
