use Rattle.std.proofs.Common.{◌≡◌, ◌<◌, ℕ, ◌&&◌, nat_lt}
use Rattle.std.specs.List.{All}
use Rattle.customer_sets.specs.CustSet.{has}
use Rattle.near_proof.proofs.memory.members_of.Given as goal

abbrev pub invariant-loop-c : goal.invariant-loop-c
invariant-loop-c l =
    ((x : ℕ) → has l.members.items x ≡ (nat_lt x l.c && has l.set x))
    × All (λ x. x < 128) l.members.items
