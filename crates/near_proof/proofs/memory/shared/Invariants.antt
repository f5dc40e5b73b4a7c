use Rattle.std.proofs.Common.{◌≡◌, ℕ, ◌&&◌, ◌||◌, drop}
use Rattle.customer_sets.specs.CustSet.{has}
use Rattle.near_proof.proofs.memory.shared.Given as goal

abbrev pub invariant-loop-c : goal.invariant-loop-c
invariant-loop-c l = (x : ℕ) →
    (has l.both x || (has (drop l.c-index l.customers) x && has l.set x))
    ≡ (has l.customers x && has l.set x)
