use Rattle.std.proofs.Common.{◌↔◌, [], drop}
use Rattle.near_proof.specs.Routes.{KeepsMemory}
use Rattle.near_proof.proofs.tight.keeps_memory.Given as goal

abbrev pub invariant-loop-customer : goal.invariant-loop-customer
invariant-loop-customer l = KeepsMemory l.sets [] l.customers ↔ KeepsMemory l.sets l.memory (drop l.customer-index l.customers)
