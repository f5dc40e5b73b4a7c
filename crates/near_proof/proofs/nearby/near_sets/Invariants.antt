use Rattle.near_proof.proofs.NearMembers.{SetsHold}
use Rattle.near_proof.proofs.nearby.near_sets.Given as goal

abbrev pub invariant-loop-node : goal.invariant-loop-node
invariant-loop-node l = SetsHold l.inst l.near l.customers l.sets.items l.node-index
