use Rattle.std.proofs.Common.{◌≡◌, ℕ, ◌&&◌, nat_lt}
use Rattle.customer_sets.specs.CustSet.{has}
use Rattle.near_proof.proofs.memory.common.Given as goal

abbrev pub invariant-loop-c : goal.invariant-loop-c
invariant-loop-c l = (x : ℕ) → has l.both x ≡ (nat_lt x l.c && (has l.one x && has l.other x))
