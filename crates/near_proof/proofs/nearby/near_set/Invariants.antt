use Rattle.near_proof.proofs.NearMembers.{HoldsTo}
use Rattle.near_proof.proofs.nearby.near_set.Given as goal

abbrev pub invariant-loop-number : goal.invariant-loop-number
invariant-loop-number l = HoldsTo l.inst l.near l.node l.customers l.set l.number
