use Rattle.std.specs.Prelude.{◌<◌, ℕ}
use Rattle.customer_sets.specs.Pairs.{IsDecidedFrom}
use Rattle.customer_sets.proofs.pairs.Pairs.decided.Given as goal

abbrev pub invariant-loop-i : goal.invariant-loop-i
invariant-loop-i l = (i : ℕ) → 0 < i → i < l.i → IsDecidedFrom l.self i
